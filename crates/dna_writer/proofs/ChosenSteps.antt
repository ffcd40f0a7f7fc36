-- What is written of the record that is chosen for a read is that of the rule. Assumes nothing.
use mathlib.Core.Path.{◌≡◌, sym, ap, ◌∙◌}
use Prim.Native.Nat.{ℕ, ◌+◌, ◌*◌, ◌≤◌}
use native.Mathlib.Omega.{arith}
use mathlib.Core.List.{List}
use lib.ListN.{length, take}
use Rattle.base.specs.Paste.{pasted}
use Rattle.dna.specs.Record.{Entry}
use Rattle.dna.specs.RecordAt.{entries_at}
use Rattle.dna.proofs.FieldLaws.{length-entries_at}
use Rattle.dna.specs.Alignment.{position_after}
use Rattle.format.specs.RuleRecord.{Candidate, Written, written}
use Rattle.letter_packing.specs.Read.{codes_of}
use Rattle.record_writer.specs.Written.{position_for, record_written, written_bytes}
use Rattle.record_writer.specs.Parts.{entries_of}
use Rattle.record_writer.proofs.FieldLaws.{entries_of-take}
use Rattle.record_writer.proofs.ListLaws.{bytes-any}
use Rattle.record_writer.proofs.PositionLaws.{position-written}
use Rattle.choices.specs.declared.Chosen.{Chosen}
use Rattle.choices.specs.Choice.{ChosenByRule}
use Rattle.dna_writer.specs.declared.group.GroupWriter.{GroupWriter}
use Rattle.dna_writer.specs.Section.{bytes_of}
use Rattle.dna_writer.specs.Writer.{flag_bits, writer_after}

module _ {bases : ℕ} {reference read : List ℕ} {candidate : Candidate} {list : List ℕ}
    {chosen : Chosen}
    (rule : ChosenByRule bases reference read candidate list chosen) where
  pub entries_room : chosen.entries ≤ length list
  entries_room = omega (arith, rule.writable.few, rule.room)

  abbrev codes : List ℕ
  codes = codes_of read

  abbrev entries : List Entry
  entries = entries_at list 0 chosen.entries

  module _ (previous : ℕ) where
    abbrev made : Written
    made = written bases reference previous codes candidate

    pub chosen_bytes : written_bytes previous chosen.«record» entries codes ≡ bytes_of made
    chosen_bytes =
        sym (bytes-any bases previous chosen.«record» entries codes)
        ∙ ap (λ (w : Written). bytes_of w) (rule.rule previous)

    -- Its length, where that does not hang on what the entries are.
    pub chosen_length : (size : ℕ)
        → ((some : List Entry) → length some ≡ chosen.entries
        → size ≡ length (written_bytes previous chosen.«record» some codes))
        → size ≡ length (bytes_of made)
    chosen_length size is =
        is entries (length-entries_at list 0 chosen.entries) ∙ ap length chosen_bytes

    pub chosen_position : position_for previous chosen.«record»
        ≡ position_after made.context made.stored.fields
    chosen_position =
        sym (position-written bases previous chosen.«record» entries codes)
        ∙ ap (λ (w : Written). position_after w.context w.stored.fields) (rule.rule previous)

    chosen_bits : flag_bits (record_written bases previous chosen.«record» entries codes).context
        ≡ flag_bits made.context
    chosen_bits = ap (λ (w : Written). flag_bits w.context) (rule.rule previous)

  -- The bytes that the code writes: those of the entries that stand first in the list.
  pub first_bytes : (previous : ℕ)
      → written_bytes previous chosen.«record» (entries_of (take chosen.entries list)) codes
      ≡ bytes_of (made previous)
  first_bytes previous =
      ap (λ (es : List Entry). written_bytes previous chosen.«record» es codes)
      (entries_of-take list chosen.entries entries_room)
      ∙ chosen_bytes previous

  -- The bytes are written, and the writer goes on.
  pub read_written : (writer : GroupWriter) (out new : List ℕ) (place after bits : ℕ)
      → (new ≡ pasted out writer.place
      (written_bytes writer.previous chosen.«record» (entries_of (take chosen.entries list)) codes))
      × (place ≡ writer.place
      + length
      (written_bytes writer.previous chosen.«record» (entries_of (take chosen.entries list))
      codes))
      → after ≡ position_for writer.previous chosen.«record»
      → bits ≡ flag_bits
      (record_written bases writer.previous chosen.«record» entries codes).context
      → (new ≡ pasted out writer.place (bytes_of (made writer.previous)))
      × (record { place = place; previous = after; flags = writer.flags * 2 + bits }
      ≡ writer_after writer (made writer.previous))
  unfolding writer_after
  read_written writer out new place after bits put next told =
      let there : place ≡ writer.place + length (bytes_of (made writer.previous)) =
      put.1
      ∙ ap (λ (bytes : List ℕ). writer.place + length bytes) (first_bytes writer.previous) in
      let position = next ∙ chosen_position writer.previous in
      let flags : writer.flags * 2 + bits
      ≡ writer.flags * 2 + flag_bits (made writer.previous).context =
      ap (λ (b : ℕ). writer.flags * 2 + b) (told ∙ chosen_bits writer.previous) in (
        put.0 ∙ ap (pasted out writer.place) (first_bytes writer.previous),
        λ i. record { place = there i; previous = position i; flags = flags i },
      )

-- The three numbers of a writer after a record.
pub place_after : (writer next : GroupWriter) (w : Written) → next ≡ writer_after writer w
    → next.place ≡ writer.place + length (bytes_of w)
unfolding writer_after
place_after writer next w is = ap (λ (g : GroupWriter). g.place) is

pub previous-after : (writer next : GroupWriter) (w : Written) → next ≡ writer_after writer w
    → next.previous ≡ position_after w.context w.stored.fields
unfolding writer_after
previous-after writer next w is = ap (λ (g : GroupWriter). g.previous) is

pub flags-after : (writer next : GroupWriter) (w : Written) → next ≡ writer_after writer w
    → next.flags ≡ writer.flags * 2 + flag_bits w.context
unfolding writer_after
flags-after writer next w is = ap (λ (g : GroupWriter). g.flags) is

-- The record of the fixed rule, kind by kind, out of what the code has tested. Assumes nothing.
use mathlib.Core.Path.{◌≡◌, refl, sym, ap, ap₂, ◌∙◌, subst}
use Prim.Native.Nat.{ℕ, ◌+◌, ◌^◌, ◌≤◌, ◌<◌}
use native.Mathlib.Omega.{arith}
use mathlib.Core.Bool.{Bool, true, false, ◌&&◌}
use mathlib.Core.List.{List}
use lib.ListN.{length}
use lib.Dec.{leb, eqb}
use borrow.Author.Tests.{eq-eqb, ne_eqb, lt-ltb, le-ltb, le-leb, lt-leb}
use Rattle.base.proofs.ListLaws.{by_test}
use Rattle.base.proofs.Tests.{both_and}
use Rattle.dna.specs.Reference.{max_reference_bases, reference_size_wrong, ReferenceFits}
use Rattle.dna.specs.Record.{max_entries, max_n_positions, Entry}
use Rattle.dna.specs.RecordAt.{entries_at}
use Rattle.dna.specs.declared.Placement.{Placement}
use Rattle.dna.specs.declared.Record.{Record}
use Rattle.dna.specs.declared.Record.TheVariants as kinds
use Rattle.dna.proofs.ReferenceLaws.{reference-length}
use Rattle.format.specs.RuleRecord.{Candidate, n_offsets_of, aligned_count, candidate_entries}
use Rattle.format.specs.RuleRecord.{place_used, stored_position, Choice, choose_raw4, choose_aligned}
use Rattle.format.specs.RuleRecord.{choose_raw, choice_for, is_perfect, written_as, written}
use Rattle.format.proofs.WrittenRecord.{stored-inside}
use Rattle.letter_packing.specs.Read.{ReadFits, codes_of}
use Rattle.letter_packing.proofs.ReadLaws.{length_codes_of}
use Rattle.mismatches.specs.Entries.{EntriesPut}
use Rattle.mismatches.proofs.PutLaws.{put_within, put_over}
use Rattle.std.specs.Prelude.{Some, None}
use Rattle.record_writer.specs.Written.{fields_for, offsets_for, forward_for, incremental_for}
use Rattle.record_writer.specs.Written.{record_written}
use Rattle.record_writer.specs.Writable.{list_stored, PlacementFits, KindFits}
use Rattle.record_writer.specs.Chosen.{placement_of, aligned_record, chosen_record}
use Rattle.record_writer.proofs.ChosenLaws.{chosen_as}
use Rattle.choices.specs.Choice.{place_fits, ChosenByRule}
use Rattle.choices.proofs.PlaceLaws.{fits_inside, used-fits, entries_back}

-- ---- The record at a place

module _ (codes : List ℕ) (candidate : Candidate) (entries : ℕ) (placement : Placement)
    (is : placement ≡ placement_of codes candidate) where
  pub record_local : 0 < candidate.left + candidate.right
      → kinds.Local placement ≡ aligned_record codes candidate entries
  unfolding aligned_record
  record_local some =
      rw (ne_eqb (candidate.left + candidate.right) 0 (λ e. omega arith)) (ap kinds.Local is)

  pub record_perfect : candidate.left + candidate.right ≤ 0 → entries ≡ 0
      → kinds.Perfect placement ≡ aligned_record codes candidate entries
  unfolding aligned_record
  record_perfect none e =
      rw (eq-eqb (candidate.left + candidate.right) 0 (omega arith), eq-eqb entries 0 e)
      (ap kinds.Perfect is)

  pub record_global : candidate.left + candidate.right ≤ 0 → (entries ≡ 0 → ⊥)
      → kinds.Global placement ≡ aligned_record codes candidate entries
  unfolding aligned_record
  record_global none e =
      rw (eq-eqb (candidate.left + candidate.right) 0 (omega arith), ne_eqb entries 0 e)
      (ap kinds.Global is)

-- It lies within a read between whose ends letters are left.
kind_fits : (codes : List ℕ) (candidate : Candidate) (entries size : ℕ)
    → stored_position codes candidate < 2 ^ 32 → candidate.left + candidate.right < size
    → KindFits (aligned_record codes candidate entries) size
unfolding aligned_record placement_of
kind_fits codes candidate entries size low clips =
    let fits : PlacementFits (placement_of codes candidate) size =
    record { position = low; clips = clips } in
    by_test (eqb (candidate.left + candidate.right) 0)
    (λ t. by_test (eqb entries 0) (λ u. rw (t, u) fits) (λ u. rw (t, u) fits))
    (λ t. rw t fits)

-- ---- The rule's choice

and_false : (s t : Bool) → t ≡ false → s && t ≡ false
and_false true t e = e
and_false false t e = refl

module _ (bases : ℕ) (reference read : List ℕ) (candidate : Candidate)
    (list : List ℕ) (count : ℕ) (fits : ReadFits read)
    (counted : count ≡ length (n_offsets_of (codes_of read)))
    (room : max_entries ≤ length list) where
  abbrev codes : List ℕ
  codes = codes_of read

  abbrev entries : List Entry
  entries = candidate_entries reference codes candidate

  abbrev used : Bool
  used = place_used bases reference codes candidate

  -- What is chosen.
  many_choice : max_n_positions < count
      → choose_raw4 ≡ choice_for bases reference codes candidate
  unfolding choice_for
  many_choice many =
      rw (lt-ltb max_n_positions (length (n_offsets_of codes)) (omega (arith, counted)))

  used_choice : count ≤ max_n_positions → used ≡ true
      → choose_aligned ≡ choice_for bases reference codes candidate
  unfolding choice_for
  used_choice few t =
      rw (le-ltb max_n_positions (length (n_offsets_of codes)) (omega (arith, counted)), t)

  raw_choice : count ≤ max_n_positions → used ≡ false
      → choose_raw ≡ choice_for bases reference codes candidate
  unfolding choice_for
  raw_choice few t =
      rw (le-ltb max_n_positions (length (n_offsets_of codes)) (omega (arith, counted)), t)

  -- The record of the choice.
  chosen : (choice : Choice) → choice ≡ choice_for bases reference codes candidate → (previous : ℕ)
      → written_as choice bases reference previous codes candidate
      ≡ written bases reference previous codes candidate
  unfolding written
  chosen choice is previous =
      ap (λ (c : Choice). written_as c bases reference previous codes candidate) is

  -- More than 31 N: raw4.
  pub raw4_chosen : max_n_positions < count
      → ChosenByRule bases reference read candidate list
      (record { «record» = kinds.Raw4; entries = 0; n_count = count })
  unfolding record_written written_as fields_for offsets_for forward_for incremental_for is_perfect
      list_stored
  raw4_chosen many =
      record {
        writable = record {
          fits = fits;
          counted = counted;
          listed = λ e. absurd (let z : ◌≡◌ {A = ℕ} 0 1 = cc in omega arith);
          few = omega arith;
          kind = tt;
        };
        room = room;
        rule = chosen choose_raw4 (many_choice many);
      }

  -- A place that is not used: raw.
  raw_chosen : count ≤ max_n_positions → used ≡ false
      → ChosenByRule bases reference read candidate list
      (record { «record» = kinds.Raw; entries = 0; n_count = count })
  unfolding record_written written_as fields_for offsets_for forward_for incremental_for is_perfect
  raw_chosen few unused =
      record {
        writable = record {
          fits = fits;
          counted = counted;
          listed = λ e. few;
          few = omega arith;
          kind = tt;
        };
        room = room;
        rule = chosen choose_raw (raw_choice few unused);
      }

  -- A place that is used.
  aligned_chosen : count ≤ max_n_positions → used ≡ true → stored_position codes candidate < 2 ^ 32
      → candidate.left + candidate.right < length read → (n : ℕ) (record' : Record)
      → n ≡ length entries → n ≤ max_entries → record' ≡ aligned_record codes candidate n
      → entries_at list 0 n ≡ entries
      → ChosenByRule bases reference read candidate list
      (record { «record» = record'; entries = n; n_count = count })
  unfolding chosen_record
  aligned_chosen few t low clips n record' all fit is stand =
      record {
        writable = record {
          fits = fits;
          counted = counted;
          listed = λ e. few;
          few = fit;
          kind =
              subst (λ (r : Record). KindFits r (length read)) (sym is)
              (kind_fits codes candidate n (length read) low clips);
        };
        room = room;
        rule = λ previous.
            ap₂ (λ (r : Record) (es : List Entry). record_written bases previous r es codes)
            (is ∙ ap (aligned_record codes candidate) all) stand
            ∙ chosen_as bases reference previous codes candidate choose_aligned
            ∙ chosen choose_aligned (used_choice few t) previous;
      }

  size : length codes ≡ length read
  size = length_codes_of read

  -- ---- Out of what is tested

  -- A read that does not fit the place: raw.
  pub unfit_chosen : count ≤ max_n_positions → place_fits bases (length read) candidate ≡ false
      → ChosenByRule bases reference read candidate list
      (record { «record» = kinds.Raw; entries = 0; n_count = count })
  unfit_chosen few unfit =
      raw_chosen few
      (used-fits bases reference codes candidate (length read) size
      ∙ ap (λ (t : Bool). t && leb (length entries) max_entries) unfit)

  -- More than 31 entries: raw.
  pub over_chosen : count ≤ max_n_positions → {old new : List ℕ}
      → EntriesPut old new 0 entries None
      → ChosenByRule bases reference read candidate list
      (record { «record» = kinds.Raw; entries = 0; n_count = count })
  over_chosen few {old} {new} put =
      raw_chosen few
      (used-fits bases reference codes candidate (length read) size
      ∙ and_false (place_fits bases (length read) candidate) _
      (lt-leb (length entries) max_entries (omega (arith, put_over put))))

  -- No more: the record at the place.
  pub used_chosen : count ≤ max_n_positions → place_fits bases (length read) candidate ≡ true
      → reference_size_wrong bases reference ≡ false → {old : List ℕ} {n : ℕ}
      → max_entries ≤ length old → EntriesPut old list 0 entries (Some n)
      → (record' : Record) → record' ≡ aligned_record codes candidate n
      → ChosenByRule bases reference read candidate list
      (record { «record» = record'; entries = n; n_count = count })
  unfolding aligned_count
  used_chosen few placed right {old} {n} wide put record' is =
      let within = put_within put in
      let all : n ≡ length entries = omega (arith, within.0) in
      let inside = fits_inside bases (length read) candidate placed in
      let sized : ReferenceFits bases reference = record { fits = right } in
      let stored =
      stored-inside max_reference_bases codes candidate (omega (arith, size, inside.0))
      (omega (arith, size, inside.1, (reference-length sized).0)) in
      aligned_chosen few
      (used-fits bases reference codes candidate (length read) size
      ∙ both_and _ _ placed (le-leb (length entries) max_entries (omega (arith, within.1))))
      (omega (arith, stored)) inside.0 n record' all within.1 is
      (ap (entries_at list 0) all
      ∙ entries_back read fits reference candidate (omega arith) old list
      (omega (arith, within.1)) within.2)

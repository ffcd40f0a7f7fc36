-- How the letters of a decoded record are written: first what stands where there is neither N nor
-- entry, then N over it, then each entry where no N stands. That this gives the record's letters is
-- proved (proofs/PrintedLaws.antt); nothing here is part of the format.
use Rattle.std.specs.Prelude.{ℕ, ◌+◌, ◌-◌, ◌*◌, ◌/◌, ◌%◌, ◌≡◌, Bool, false, not, cond, ◌&&◌, List, [], ◌∷◌, ◌++◌, map, length, get_or, eqb}
use Rattle.base.specs.Lists.{build, Below}
use Rattle.base.specs.Packed.{symbols_at}
use Rattle.base.specs.Paste.{pasted}
use Rattle.dna.specs.Reference.{letter_of_code, stretch_letters}
use Rattle.dna.specs.Record.{ReadContext, Entry, RecordFields, perfect, global, local, raw, raw4}
use Rattle.dna.specs.Alignment.{entries_of}
use Rattle.dna.specs.RecordFaults.{raw4_codes, later_zero}
use Rattle.dna.specs.Letters.{record_letters}
use Rattle.dna.specs.declared.Placement.{Placement}
use Rattle.dna.specs.declared.Record.{Record}
use Rattle.dna.specs.declared.Record.TheVariants as kinds
use Rattle.records.specs.declared.Layout.{Layout}
use Rattle.record_letters.specs.Laid.{is_forward, fields_in, local_leftmost, Laid}

-- The letter N.
abbrev pub letter_n : ℕ
letter_n = 78

-- The two letters of a byte of two codes of four bits, the first lowest; 0 for a code above 4.
unfoldable pub pair_word : (byte : ℕ) → ℕ
pair_word byte = letter_of_code (byte / 16) + 256 * letter_of_code (byte % 16)

unfoldable pub pair_words : List ℕ
pair_words = build 256 pair_word

-- What a decoded record meets for its letters to be printed: entries go on, the layout counts the
-- record's own, and codes are letters.
pub record Printable (section reference : List ℕ) (read_length : ℕ) (record' : Record)
    (layout : Layout) : Type 0 where
  pub laid : Laid section reference read_length record' layout
  pub later :
      later_zero
      (map (λ entry. entry.offset) (entries_of (fields_in section read_length record' layout)))
      ≡ false
  pub counted :
      layout.entry_count ≡ length (entries_of (fields_in section read_length record' layout))
  pub codes : Below 5 (raw4_codes (fields_in section read_length record' layout))

-- The letters clipped before the aligned part.
unfoldable pub left_in : (record' : Record) → ℕ
left_in (kinds.Perfect placement) = 0
left_in (kinds.Global placement) = 0
left_in (kinds.Local placement) = placement.left
left_in kinds.Raw = 0
left_in kinds.Raw4 = 0

-- ---- The three turns

-- A record's fields without entries.
unfoldable pub without_entries : (fields : RecordFields) → RecordFields
without_entries (perfect field) = perfect field
without_entries (global field entries) = global field []
without_entries (local field entries left right clipped) = local field [] left right clipped
without_entries (raw letters) = raw letters
without_entries (raw4 letters) = raw4 letters

-- First: the letters without N and entries.
unfoldable pub plain_letters : (reference : List ℕ) (context : ReadContext) (fields : RecordFields)
    → List ℕ
plain_letters reference context fields =
    record_letters reference context (record { fields = without_entries fields; n_offsets = [] })

-- The same of a local record, part by part.
unfoldable pub local_letters : (section reference : List ℕ) (placement : Placement)
    (packed read_length : ℕ) → List ℕ
local_letters section reference placement packed read_length =
    let aligned : ℕ = read_length - (placement.left + placement.right) in
    map letter_of_code (symbols_at 4 4 section packed 0 placement.left)
    ++ stretch_letters reference (is_forward placement.strand) (local_leftmost placement aligned)
    aligned
    ++ map letter_of_code (symbols_at 4 4 section packed placement.left placement.right)

-- Second: N at places counted from `at`.
unfoldable pub marked : (out : List ℕ) (at : ℕ) (places : List ℕ) → List ℕ
marked out at [] = out
marked out at (place ∷ places) = marked (pasted out (at + place) (letter_n ∷ [])) at places

-- Third: entries, each an offset on from the place before, where no N stands.
unfoldable pub entered : (out : List ℕ) (place code : ℕ) → List ℕ
entered out place code =
    cond (eqb (get_or out place 0) letter_n) out (pasted out place (letter_of_code code ∷ []))

unfoldable pub overlaid : (out : List ℕ) (place : ℕ) (entries : List Entry) → List ℕ
overlaid out place [] = out
overlaid out place (entry ∷ entries) =
    overlaid (entered out (place + entry.offset) entry.code) (place + entry.offset) entries

-- How many of them change a letter that is no N.
unfoldable pub changes_at : (out : List ℕ) (place code : ℕ) → Bool
changes_at out place code =
    not (eqb (get_or out place 0) letter_n) && not (eqb (get_or out place 0) (letter_of_code code))

unfoldable pub changes : (out : List ℕ) (place : ℕ) (entries : List Entry) → ℕ
changes out place [] = 0
changes out place (entry ∷ entries) =
    cond (changes_at out (place + entry.offset) entry.code) 1 0
    + changes (entered out (place + entry.offset) entry.code) (place + entry.offset) entries

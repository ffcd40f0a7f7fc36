-- The entries of the fixed rule (01, The writer's fixed rule) in the terms that the code is lent:
-- a read's letters in ASCII, and a stretch of the reference on a strand. What the entries of some
-- codes are is said in format/specs/RuleEntries.antt.
use Rattle.std.specs.Prelude.{ℕ, suc, ◌+◌, ◌-◌, ◌*◌, ◌≤◌, ◌≡◌, Bool, cond, List, map, length, leb, Option, Some, None}
use Rattle.base.specs.Lists.{build, part, Below}
use Rattle.base.specs.Paste.{pasted}
use Rattle.dna.specs.Reference.{strand_base, stretch_index}
use Rattle.dna.specs.Record.{max_entries, max_entry_offset, Entry, entry_byte}
use Rattle.format.specs.RuleEntries.{gap_entries, entries_of_gaps, differs_at, gaps_of}
use Rattle.format.specs.RuleBlock.{code_of_letter}

-- What the reference gives at letter k of a stretch, as a strand prints it.
unfoldable pub stretch_base : (reference : List ℕ) (forward : Bool) (leftmost bases k : ℕ) → ℕ
stretch_base reference forward leftmost bases k =
    strand_base reference forward (stretch_index forward leftmost bases k)

-- The codes of the aligned letters.
unfoldable pub aligned_codes : (letters : List ℕ) (start aligned : ℕ) → List ℕ
aligned_codes letters start aligned = map code_of_letter (part letters start aligned)

-- Whether aligned letter k differs from what the reference gives there.
abbrev pub differs_on : (letters : List ℕ) (start : ℕ) (reference : List ℕ) (forward : Bool)
    (leftmost aligned k : ℕ) → Bool
differs_on letters start reference forward leftmost aligned k =
    differs_at (stretch_base reference forward leftmost aligned)
    (aligned_codes letters start aligned) k

-- The entries of the aligned letters at a stretch.
unfoldable pub stretch_entries : (letters : List ℕ) (start : ℕ) (reference : List ℕ)
    (forward : Bool) (leftmost aligned : ℕ) → List Entry
stretch_entries letters start reference forward leftmost aligned =
    entries_of_gaps (stretch_base reference forward leftmost aligned) 0
    (gaps_of (stretch_base reference forward leftmost aligned) (aligned_codes letters start aligned))

-- The entries of the gap from `before` to a difference at `place` with the read's code.
abbrev pub entries_between : (reference : List ℕ) (forward : Bool) (leftmost aligned : ℕ)
    (before place code : ℕ) → List Entry
entries_between reference forward leftmost aligned before place code =
    gap_entries (stretch_base reference forward leftmost aligned) before
    (record { gap = place - before; code = code })

-- The first `count` fillers after `before`, each with what the reference gives there.
unfoldable pub fillers_from : (expected : ℕ → ℕ) (before count : ℕ) → List Entry
fillers_from expected before count =
    build count
    (λ j. record { offset = max_entry_offset; code = expected (before + max_entry_offset * suc j) })

-- How many entries are answered: None where there are more than 31, which no record can hold.
unfoldable pub answered_count : (count : ℕ) → Option ℕ
answered_count count = cond (leb count max_entries) (Some count) None

-- Entries written into a list from index `at` on: how many the list then has is answered, and where
-- that is 31 or less their bytes stand there. Of more, nothing is said of the list.
pub record EntriesPut (old new : List ℕ) (at : ℕ) (entries : List Entry) (answer : Option ℕ)
    : Type 0 where
  pub counted : answer ≡ answered_count (at + length entries)
  pub stand : at + length entries ≤ max_entries → new ≡ pasted old at (map entry_byte entries)

-- The aligned letters of a read: they lie in the letters, and each is one of A, C, G, T, N.
pub record AlignedFits (letters : List ℕ) (start aligned : ℕ) : Type 0 where
  pub inside : start + aligned ≤ length letters
  pub known : Below 5 (aligned_codes letters start aligned)

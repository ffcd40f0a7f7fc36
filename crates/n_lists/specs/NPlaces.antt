-- Where the letters N of a read stand, as its N list is written: by their indices in it. That the
-- steps to them are the list's offsets is proved (proofs/NPlaceLaws.antt).
use Rattle.std.specs.Prelude.{ℕ, ◌+◌, ◌-◌, ◌≤◌, ◌≡◌, List, length, get_or, eqb, count_by}
use Rattle.base.specs.Lists.{build, keep}
use Rattle.dna.specs.Reference.{code_n}
use Rattle.dna.specs.Record.{max_n_positions}
use Rattle.format.specs.RuleRecord.{n_offsets_of}
use Rattle.format.specs.RuleBlock.{code_of_letter}
use Rattle.letter_packing.specs.Read.{ReadFits, codes_of}

-- The places of the letters N from `from` to `to`, in order.
unfoldable pub n_places : (letters : List ℕ) (from to : ℕ) → List ℕ
n_places letters from to =
    keep (λ i. eqb (code_of_letter (get_or letters i 0)) code_n) (build (to - from) (λ k. from + k))

-- How many of some letters are N.
abbrev pub n_count : (letters : List ℕ) → ℕ
n_count letters = count_by (λ letter. eqb letter 78) letters

-- So many letters N at most are counted in one byte.
abbrev pub chunk_size : ℕ
chunk_size = 192

-- A read with `count` letters N, no more than a list may name.
pub record NCounted (read : List ℕ) (count : ℕ) : Type 0 where
  pub fits : ReadFits read
  pub counted : count ≡ length (n_offsets_of (codes_of read))
  pub few : count ≤ max_n_positions

-- Worked examples of the filler rule (02, Ticket 3): 01's lone differences, and records that do not
-- keep the promise. The proofs are proofs/FillerExamplesHold.antt.
use Rattle.std.specs.Prelude.{ℕ, ◌+◌, ◌≤◌, ◌<◌, ◌≡◌, true, false, ◌↔◌, ◌⊎◌, List, [], ◌∷◌, ◌++◌, length, replicate, ltb}
use Rattle.base.specs.Lists.{part}
use Rattle.dna.specs.Record.{ReadContext, Entry, global}
use Rattle.dna.specs.Sums.{entry}
use Rattle.format.specs.RuleEntries.{differs_at}
use Rattle.format.specs.RuleRecord.{Candidate, n_offsets_of, aligned_count, expected_at}
use Rattle.format.specs.RuleRecord.{candidate_entries, choose_aligned, choose_raw, choice_for}
use Rattle.format.specs.Fillers.{FillersHold}
use Rattle.format.specs.Examples.{place_at}

-- ---- Lone differences (01, Sums done by hand)

-- Of the aligned letters of a read, this one differs from the reference, and no other.
pub record Lone (reference codes : List ℕ) (candidate : Candidate) (letter : ℕ) : Type 0 where
  pub inside : letter < aligned_count codes candidate
  pub alone : (k : ℕ) → k < aligned_count codes candidate
      → (differs_at (expected_at reference codes candidate)
      (part codes candidate.left (aligned_count codes candidate)) k ≡ true) ↔ (k ≡ letter)

-- How many entries a read takes at its candidate's place if this letter is its lone difference.
abbrev pub LoneTakes : (letter entries : ℕ) → Type 0
LoneTakes letter entries =
    (reference codes : List ℕ) (candidate : Candidate) → Lone reference codes candidate letter
    → length (candidate_entries reference codes candidate) ≡ entries

pub record LoneDifferences : Type 0 where
  -- Such a read: 64 letters A and a C, forward at 0 on a reference of A alone.
  pub one : Lone (replicate 17 0) (replicate 64 0 ++ (1 ∷ [])) (place_at 0 1) 64
  pub at_64 : LoneTakes 64 2
  pub at_127 : LoneTakes 127 3
  pub at_1953 : LoneTakes 1953 31
  pub at_1954 : LoneTakes 1954 32
  -- At 1953 the place is used, if nothing else forbids it.
  pub used : (bases : ℕ) (reference codes : List ℕ) (candidate : Candidate)
      → length (n_offsets_of codes) ≤ 31 → (candidate.strand ≡ 1) ⊎ (candidate.strand ≡ 2)
      → candidate.position + aligned_count codes candidate ≤ bases
      → Lone reference codes candidate 1953
      → choice_for bases reference codes candidate ≡ choose_aligned
  -- At 1954 it is not: the read goes raw.
  pub raw : (bases : ℕ) (reference codes : List ℕ) (candidate : Candidate)
      → length (n_offsets_of codes) ≤ 31 → Lone reference codes candidate 1954
      → choice_for bases reference codes candidate ≡ choose_raw

-- ---- Records that do not keep the promise

-- A read of 160 letters, forward at 0 on a reference of 160 bases.
abbrev pub of160 : (n_offsets : List ℕ) → ReadContext
of160 n_offsets =
    record {
      read_length = 160;
      reference_bases = 160;
      previous_position = 0;
      perfect_bit = false;
      forward = true;
      with_n = ltb 0 (length n_offsets);
      incremental = false;
    }

-- On ACGT again and again these entries, with this N list, do not keep it.
abbrev pub Broken : (n_offsets : List ℕ) (entries : List Entry) → Type 0
Broken n_offsets entries =
    FillersHold (replicate 40 0x1b) (of160 n_offsets)
    (record { fields = global 0 entries; n_offsets = n_offsets }) → ⊥

pub record FillersBroken : Type 0 where
  -- Two fillers, on letters 31 and 63, before a difference on 64.
  pub two_at_64 : Broken [] (entry 31 3 ∷ entry 32 3 ∷ entry 1 1 ∷ [])
  -- A filler on letter 63, and a difference there too: a gap of 63 gets none.
  pub one_at_63 : Broken [] (entry 63 3 ∷ entry 0 0 ∷ [])
  -- A filler before a difference on letter 0.
  pub one_at_0 : Broken [] (entry 0 0 ∷ entry 0 1 ∷ [])
  -- A first difference on letter 64 without its filler.
  pub none_at_64 : Broken [] (entry 64 1 ∷ [])
  -- Differences on letters 0, 60 and 124: the last, 64 past the one before, lacks its filler.
  pub none_at_124 : Broken [] (entry 0 1 ∷ entry 60 1 ∷ entry 64 1 ∷ [])
  -- The filler of a difference on letter 64 on 1, and not on 63.
  pub not_at_63 : Broken [] (entry 1 1 ∷ entry 63 1 ∷ [])
  -- A filler after the last difference.
  pub after_the_last : Broken [] (entry 0 1 ∷ entry 5 1 ∷ [])
  -- In the filler's place, on letter 63, an entry that is none, under an N.
  pub under_n : Broken (63 ∷ []) (entry 63 0 ∷ entry 1 1 ∷ [])

-- Aligned letters as the code holds them, in the terms of Entries.antt.
use Rattle.std.specs.Prelude.{ℕ, ◌+◌, ◌-◌, Bool, cond, List, length}
use Rattle.dna.specs.Record.{Entry}
use Rattle.mismatches.specs.Entries.{stretch_base, aligned_codes, differs_on, stretch_entries}
use Rattle.mismatches.specs.Entries.{entries_between}
use Rattle.mismatches.specs.declared.compare.Aligned.{Aligned}

-- What the reference gives at letter k.
abbrev pub given_at : (aligned : Aligned) → ℕ → ℕ
given_at aligned =
    stretch_base aligned.reference.now aligned.forward aligned.leftmost (length aligned.letters.now)

-- The codes of the letters.
abbrev pub codes_of : (aligned : Aligned) → List ℕ
codes_of aligned = aligned_codes aligned.letters.now 0 (length aligned.letters.now)

-- Whether letter k differs from what the reference gives there.
abbrev pub differs : (aligned : Aligned) → ℕ → Bool
differs aligned =
    differs_on aligned.letters.now 0 aligned.reference.now aligned.forward aligned.leftmost
    (length aligned.letters.now)

-- The lowest index of the reference under the four letters from letter k on.
abbrev pub lowest_under : (aligned : Aligned) (k : ℕ) → ℕ
lowest_under aligned k =
    aligned.leftmost + cond aligned.forward k (length aligned.letters.now - (k + 4))

-- The entries of the letters.
abbrev pub entries_of : (aligned : Aligned) → List Entry
entries_of aligned =
    stretch_entries aligned.letters.now 0 aligned.reference.now aligned.forward aligned.leftmost
    (length aligned.letters.now)

-- The entries of the gap from `before` to a difference at `place` with the read's code.
abbrev pub entries_to : (aligned : Aligned) (before place code : ℕ) → List Entry
entries_to aligned before place code =
    entries_between aligned.reference.now aligned.forward aligned.leftmost
    (length aligned.letters.now) before place code

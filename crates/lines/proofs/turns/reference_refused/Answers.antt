-- `lines::turns::reference_refused` meets its contract: the tests in the definition's order. Assumes
-- nothing.
use mathlib.Core.Path.{◌≡◌, refl, sym, ap₂, ◌∙◌}
use Prim.Native.Nat.{ℕ, ◌-◌}
use native.Mathlib.Omega.{arith}
use mathlib.Core.List.{List}
use lib.ListN.{length, take, drop, length-drop}
use lib.Seq.{take_all}
use borrow.Author.Tests.{lt-ltb, le-ltb}
use Rattle.dna.specs.Reference.{reference_size_wrong}
use Rattle.lines.specs.Listing.{reference_refused, bases_of, reference_of, most_bytes}
use Rattle.lines.proofs.turns.reference_refused.Goals as goal

pub returns-then-file-lt8 : goal.returns-then-file-lt8
unfolding reference_refused bases_of reference_of
returns-then-file-lt8 c =
    let file = c.args.file.now in
    simp (lt-ltb (length file) 8 (omega arith)) refl

pub returns-then-file-gt-MAX_BYTES : goal.returns-then-file-gt-MAX_BYTES
unfolding reference_refused bases_of reference_of
returns-then-file-gt-MAX_BYTES c =
    let file = c.args.file.now in
    simp (le-ltb (length file) 8 (omega arith), lt-ltb most_bytes (length file) (omega arith)) refl

pub returns : goal.returns
unfolding reference_refused bases_of reference_of
returns c =
    let file = c.args.file.now in
    let rest : take (length file - 8) (drop 8 file) ≡ drop 8 file =
    take_all (length file - 8) (drop 8 file) (omega (arith, length-drop 8 file)) in
    c.reference_size_wrong.ensures
    ∙ ap₂ (λ (bases : ℕ) (reference : List ℕ). reference_size_wrong bases reference)
    c.u64_at.ensures rest
    ∙ sym (simp (le-ltb (length file) 8 (omega arith), le-ltb most_bytes (length file) (omega arith)) refl)

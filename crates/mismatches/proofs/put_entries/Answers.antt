use native.Mathlib.Omega.{arith}
use mathlib.Core.Path.{◌≡◌, sym, ◌∙◌}
use native.Mathlib.Nat.{zero-add}
use Prim.Native.Nat.{◌<◌}
use lib.ListN.{length, get_or}
use Rattle.format.specs.RuleBlock.{code_of_letter}
use Rattle.mismatches.specs.Entries.{stretch_entries}
use Rattle.mismatches.specs.Compared.{given_at, codes_of}
use Rattle.mismatches.proofs.CodeLaws.{length_aligned_codes, get_or_aligned_codes}
use Rattle.mismatches.proofs.CodeLaws.{difference-code}
use Rattle.mismatches.proofs.LeftLaws.{writing_start, writing_passed, writing_over}
use Rattle.mismatches.proofs.LeftLaws.{writing_turn, writing_end}
use Rattle.mismatches.proofs.PutLaws.{put_within}
use Rattle.mismatches.proofs.put_entries.Goals as goal
use Rattle.mismatches.proofs.put_entries.Goals.{In-Some, After-code_of_letter-code}

pub loop-place-init : goal.loop-place-init
loop-place-init c =
    let a = c.args.aligned.now in (
      omega arith,
      omega arith,
      omega arith,
      writing_start (given_at a) (codes_of a) (length a.letters.now) c.args.list.now
          (length_aligned_codes a.letters.now 0 (length a.letters.now) (omega arith)),
    )

-- The letter of a difference has a code below 4.
small : (c : In-Some)
    → code_of_letter (get_or c.args.aligned.now.letters.now c.in-Some.place 0) < 4
small c =
    let a = c.args.aligned.now in
    rw (zero-add c.in-Some.place) at
    (difference-code a.letters.now 0 (length a.letters.now) c.requires.0 a.reference.now
    a.forward a.leftmost c.in-Some.place c.in-Some.ensures.inside c.in-Some.ensures.holds)

pub code_of_letter-code-requires : goal.code_of_letter-code-requires
code_of_letter-code-requires c = small (goal.at.code_of_letter-code-requires c).In-Some

pub put_gap-requires : goal.put_gap-requires
put_gap-requires c =
    let l = c.loop-place in
    let first = c.in-Some.ensures in (
      omega (arith, l.invariant.1, first.passed.rises),
      first.inside,
      omega (arith, c.code_of_letter-code.ensures, small (goal.at.put_gap-requires c).In-Some),
      l.invariant.2,
      omega (arith, l.invariant.3.sized, c.requires.1),
    )

-- Its code.
is : (c : After-code_of_letter-code)
    → c.code_of_letter-code.result ≡ get_or (codes_of c.args.aligned.now) c.in-Some.place 0
is c =
    let a = c.args.aligned.now in
    c.code_of_letter-code.ensures
    ∙ sym
    (rw (zero-add c.in-Some.place) at
    (get_or_aligned_codes a.letters.now 0 (length a.letters.now) (omega arith) c.in-Some.place
    c.in-Some.ensures.inside))

pub returns-in_err-count : goal.returns-in_err-count
unfolding stretch_entries
returns-in_err-count c =
    let l = c.loop-place in
    rw c.from_residual.ensures
    (writing_over _ _ _ l.invariant.3 c.in-Some.ensures l.invariant.1
    (is (goal.at.returns-in_err-count c).After-code_of_letter-code) c.in_err-count.ensures)

pub loop-place-preserved : goal.loop-place-preserved
loop-place-preserved c =
    let l = c.loop-place in
    let first = c.in-Some.ensures in (
      omega (arith, first.inside),
      omega arith,
      (put_within c.in_ok-count.ensures).1,
      writing_turn _ _ _ l.invariant.3 first l.invariant.1
          (is (goal.at.loop-place-preserved c).After-code_of_letter-code) c.in_ok-count.ensures
          (omega (arith, l.invariant.3.sized, c.requires.1)),
    )

pub returns : goal.returns
unfolding stretch_entries
returns c =
    let l = c.loop-place in
    writing_end _ _ _ (writing_passed _ _ _ l.invariant.3 c.in_default.ensures (omega arith))
    (omega arith) l.invariant.2

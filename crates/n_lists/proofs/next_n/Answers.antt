use mathlib.Core.Path.{sym, ap, ◌∙◌}
use Prim.Native.Nat.{ℕ}
use native.Mathlib.Omega.{arith}
use mathlib.Core.List.{List}
use lib.ListN.{length, get_or}
use Rattle.n_lists.proofs.NPlaceLaws.{places_none, places_found, places_passed}
use Rattle.n_lists.proofs.next_n.Goals as goal

pub returns-then-read-i-eq-LETTER_N : goal.returns-then-read-i-eq-LETTER_N
returns-then-read-i-eq-LETTER_N c =
    let read = c.args.read.now in
    let l = c.loop-i in (
      sym (ap (λ (places : List ℕ). get_or places 0 (length read)) (l.invariant.2
          ∙ places_found read l.i (length read) c.loop-i-test.true c.if-read-i-eq-LETTER_N.true)),
      omega arith,
      omega arith,
    )

pub loop-i-preserved : goal.loop-i-preserved
loop-i-preserved c =
    let read = c.args.read.now in
    let l = c.loop-i in (
      omega arith,
      omega arith,
      l.invariant.2
          ∙ places_passed read l.i (length read) c.loop-i-test.true
          c.if-read-i-eq-LETTER_N.false,
    )

pub returns : goal.returns
returns c =
    let read = c.args.read.now in
    let l = c.loop-i in (
      sym (ap (λ (places : List ℕ). get_or places 0 (length read)) (l.invariant.2
          ∙ places_none read l.i (length read) c.loop-i-test.false)),
      omega arith,
      omega arith,
    )

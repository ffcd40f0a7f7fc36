use mathlib.Core.Path.{◌≡◌, sym, ◌∙◌}
use Prim.Native.Nat.{◌+◌, ◌≤◌}
use native.Mathlib.Omega.{arith}
use lib.ListN.{length}
use Rattle.base.specs.Numbers.{le}
use Rattle.dna.specs.Refused.{numbered, refusal_number}
use Rattle.records.proofs.NListLaws.{place_cut, place_large, place_outside}
use Rattle.records.proofs.NListLaws.{place_last, place_more}
use Rattle.records.proofs.nlist.read_n_place.Goals as goal
use Rattle.records.proofs.nlist.read_n_place.Goals.{After-from-word}

-- The word that was read.
word-is : (c : After-from-word)
    → c.from-word.result ≡ le 2 c.args.section.now c.loop-at.at
word-is c = c.from-word.ensures ∙ c.u16_at.ensures

room : (c : After-from-word)
    → c.loop-at.at + 2 ≤ length c.args.section.now
room c = omega arith

pub returns-then-word-gt32768 : goal.returns-then-word-gt32768
unfolding numbered refusal_number
returns-then-word-gt32768 c =
    let l = c.loop-at in
    let a = c.args in
    sym
    (l.invariant.2
    ∙ place_large a.section.now a.size l.at l.place c.from-word.result
    (word-is (goal.at.returns-then-word-gt32768 c).After-from-word) (room (goal.at.returns-then-word-gt32768 c).After-from-word) (omega arith))

pub returns-then-size-place : goal.returns-then-size-place
unfolding numbered refusal_number
returns-then-size-place c =
    let l = c.loop-at in
    let a = c.args in
    sym
    (l.invariant.2
    ∙ place_outside a.section.now a.size l.at l.place c.from-word.result
    (word-is (goal.at.returns-then-size-place c).After-from-word) (room (goal.at.returns-then-size-place c).After-from-word) (omega arith) (omega arith))

pub returns-then-word-lt32768 : goal.returns-then-word-lt32768
unfolding numbered refusal_number
returns-then-word-lt32768 c =
    let l = c.loop-at in
    let a = c.args in
    sym
    (l.invariant.2
    ∙ place_last a.section.now a.size l.at l.place c.from-word.result
    (word-is (goal.at.returns-then-word-lt32768 c).After-from-word) (room (goal.at.returns-then-word-lt32768 c).After-from-word) (omega arith) (omega arith))

pub loop-at-preserved : goal.loop-at-preserved
loop-at-preserved c =
    let l = c.loop-at in
    let a = c.args in (
      omega arith,
      omega arith,
      l.invariant.2
          ∙ place_more a.section.now a.size l.at l.place c.from-word.result
          (word-is (goal.at.loop-at-preserved c).After-from-word) (room (goal.at.loop-at-preserved c).After-from-word) (omega arith) (omega arith) (omega arith),
    )

pub returns : goal.returns
unfolding numbered refusal_number
returns c =
    let l = c.loop-at in
    let a = c.args in
    sym
    (l.invariant.2
    ∙ place_cut a.section.now a.size l.at l.place (omega arith))

use mathlib.Core.Path.{refl, ap}
use native.Mathlib.Omega.{arith}
use lib.ListN.{length}
use Rattle.n_lists.proofs.NPlaceLaws.{First, places_first}
use Rattle.n_lists.proofs.NListLaws.{count_places, length_list, length_turn}
use Rattle.n_lists.proofs.NListLaws.{length_end}
use Rattle.n_lists.proofs.long_list_length.Goals as goal
use Rattle.n_lists.proofs.long_list_length.Goals.{After-next_n-place}

-- The next letter N is there, since not all are counted.
first : (c : After-next_n-place)
    → First c.args.read.now
    c.loop-k.i (length c.args.read.now)
    c.next_n-place.result
first c =
    places_first _ c.loop-k.i _ c.next_n-place.result (omega arith)
    c.next_n-place.ensures.0

pub loop-k-init : goal.loop-k-init
loop-k-init c =
    let a = c.args in (
      omega arith,
      omega arith,
      omega (arith, count_places a.read.now a.count c.requires),
      refl,
      omega arith,
    )

pub loop-k-preserved : goal.loop-k-preserved
loop-k-preserved c =
    let l = c.loop-k in
    let a = c.args in
    let next = first (goal.at.loop-k-preserved c).After-next_n-place in (
      omega arith,
      omega (arith, next.high),
      omega (arith, ap length next.splits),
      omega (
        arith,
        c.words_length-sum.ensures.0,
        length_turn a.read.now l.before l.i (length a.read.now) c.next_n-place.result next,
      ),
      omega (arith, c.words_length-sum.ensures.1),
    )

pub returns : goal.returns
returns c =
    let l = c.loop-k in
    let a = c.args in (
      omega (
        arith,
        length_end a.read.now l.before l.i (length a.read.now) (omega arith),
        length_list a.read.now a.count c.requires,
      ),
      omega (arith, l.invariant.4, l.invariant.2, c.requires.few),
    )

use mathlib.Core.Path.{refl, ap}
use Prim.Native.Nat.{◌+◌}
use native.Mathlib.Omega.{arith}
use lib.ListN.{length}
use borrow.Author.Rules.{rules}
use Rattle.base.proofs.PastingLaws.{pasting-start}
use Rattle.n_lists.specs.NPlaces.{n_places}
use Rattle.n_lists.proofs.NPlaceLaws.{First, places_first}
use Rattle.n_lists.proofs.NListLaws.{step_bytes, count_places, length_list, list_room}
use Rattle.n_lists.proofs.NListLaws.{list_end}
use Rattle.n_lists.proofs.NListLaws.{offset_room, offset_turn, offsets_end}
use Rattle.n_lists.proofs.put_n_list.Goals as goal
use Rattle.n_lists.proofs.put_n_list.Goals.{After-next_n-place}

-- The next letter N is there, since not all are written.
first : (c : After-next_n-place)
    → First c.args.read.now
    c.loop-k.i (length c.args.read.now)
    c.next_n-place.result
first c =
    places_first _ c.loop-k.i _ c.next_n-place.result (omega arith)
    c.next_n-place.ensures.0

pub bounds-out-at : goal.bounds-out-at
bounds-out-at c =
    let a = c.args in
    omega (
      arith,
      length_list a.read.now a.count
          c.requires.ncounted,
    )

pub loop-k-init : goal.loop-k-init
loop-k-init c =
    let a = c.args in
    let fits = c.requires.ncounted in (
      omega arith,
      omega arith,
      omega (arith, count_places a.read.now a.count fits),
      pasting-start _ (a.at + 1) (step_bytes 0 (n_places a.read.now 0 (length a.read.now)))
          (list_room a.read.now a.count fits a.out.now a.at
          c.requires.read_in_bounds),
      refl,
    )

pub put_words-next-requires : goal.put_words-next-requires
put_words-next-requires c =
    let l = c.loop-k in
    offset_room c.args.read.now l.before
    l.i (length c.args.read.now) l.invariant.3
    c.next_n-place.result (first (goal.at.put_words-next-requires c).After-next_n-place)

pub loop-k-preserved : goal.loop-k-preserved
loop-k-preserved c =
    let l = c.loop-k in
    let a = c.args in
    let next = first (goal.at.loop-k-preserved c).After-next_n-place in (
      omega arith,
      omega (arith, next.high),
      omega (arith, ap length next.splits),
      offset_turn a.read.now l.before l.i (length a.read.now) l.invariant.3 c.next_n-place.result next
          _ _
          c.put_words-next.ensures.0 c.put_words-next.ensures.1,
      search rules,
    )

pub returns : goal.returns
returns c =
    let a = c.args in
    let l = c.loop-k in
    list_end a.read.now a.count
    c.requires.ncounted a.out.now _ a.at _
    c.requires.read_in_bounds
    (offsets_end a.read.now l.before l.i (length a.read.now) l.invariant.3 (omega arith))

-- `record_writer::kinds::put_local` meets its contract. Assumes nothing.
-- The ends lie within the read.
use mathlib.Core.Path.{ap₂}
use Prim.Native.Nat.{ℕ, ◌+◌, ◌≤◌}
use native.Mathlib.Omega.{arith}
use lib.ListN.{length, length-set}
use Rattle.base.specs.Packed.{packed_length}
use Rattle.letter_packing.specs.Read.{codes_of}
use Rattle.letter_packing.proofs.ReadLaws.{length_codes_of}
use Rattle.record_writer.specs.Parts.{position_bytes}
use Rattle.record_writer.proofs.PartLaws.{local_room, local_written}
use Rattle.record_writer.proofs.kinds.put_local.Goals as goal
use Rattle.record_writer.proofs.kinds.put_local.Goals.{After-slice_known-2-1, Start}

clips : (c : Start) → c.args.placement.left + c.args.placement.right
    ≤ length (codes_of c.args.read.now)
clips c =
    let a = c.args in
    omega (
      arith,
      c.requires.placement_fits.0.clips,
      length_codes_of a.read.now,
    )

-- There is room for each part.
room : (c : Start)
    → c.args.at + 1
    + length (position_bytes c.args.previous c.args.placement.position)
    + length c.args.entries.now
    + 2
    + packed_length 4 (c.args.placement.left + c.args.placement.right)
    ≤ length c.args.out.now
room c =
    let a = c.args in
    local_room a.placement a.previous a.entries.now
    (codes_of a.read.now) a.out.now a.at (clips c) c.requires.read_in_bounds

pub put_aligned-next-requires-clause-entries_in_bounds : goal.put_aligned-next-requires-clause-entries_in_bounds
put_aligned-next-requires-clause-entries_in_bounds c =
    omega (arith, room (goal.at.put_aligned-next-requires-clause-entries_in_bounds c).Start)

next : (c : After-slice_known-2-1)
    → c.put_aligned-next.result + 2
    + packed_length 4 (c.args.placement.left + c.args.placement.right)
    ≤ length c.put_aligned-next.new.out
next c =
    omega (arith, room (goal.at.After-slice_known-2-1 c).Start, c.put_aligned-next.ensures.1, c.out-1.given)

pub bounds-out-next : goal.bounds-out-next
bounds-out-next c =
    omega (arith, next (goal.at.bounds-out-next c).After-slice_known-2-1)

pub overflow_add-out : goal.overflow_add-out
overflow_add-out c =
    omega (arith, room (goal.at.overflow_add-out c).Start, c.put_aligned-next.ensures.1, c.out-1.given)

pub bounds-out-next-2 : goal.bounds-out-next-2
bounds-out-next-2 c =
    simp length-set (omega (arith, next (goal.at.bounds-out-next-2 c).After-slice_known-2-1))

pub overflow_add-next : goal.overflow_add-next
overflow_add-next c =
    omega (arith, room (goal.at.overflow_add-next c).Start, c.put_aligned-next.ensures.1, c.out-1.given)

pub put_ends-requires-clause-right_in_bounds : goal.put_ends-requires-clause-right_in_bounds
put_ends-requires-clause-right_in_bounds c =
    let many = ap₂ (λ (l r : ℕ). packed_length 4 (l + r)) c.from-left.ensures c.from-right.ensures in
    simp length-set (omega (arith, next (goal.at.put_ends-requires-clause-right_in_bounds c).After-slice_known-2-1))

pub returns : goal.returns
returns c =
    let a = c.args in
    local_written a.placement a.previous a.entries.now
    (codes_of a.read.now) a.out.now a.at (clips (goal.at.returns c).Start)
    c.requires.read_in_bounds _ _ c.put_aligned-next.result c.from-left.result c.from-right.result
    _ c.put_aligned-next.ensures.0 c.put_aligned-next.ensures.1 c.from-left.ensures
    c.from-right.ensures c.put_ends.ensures.0 c.put_ends.ensures.1

-- `mismatches::put_gap` meets its contract. Assumes nothing.
use Prim.Native.Nat.{◌-◌, ◌+◌}
use native.Mathlib.Omega.{arith}
use Rattle.format.specs.RuleEntries.{filler_count}
use Rattle.mismatches.specs.Compared.{given_at}
use Rattle.mismatches.proofs.PutLaws.{put_few, put_many}
use Rattle.mismatches.proofs.GapLaws.{length_gap, gap_written}
use Rattle.mismatches.proofs.put_gap.Goals as goal

pub overflow_add-count : goal.overflow_add-count
unfolding filler_count
overflow_add-count c =
    omega (arith, c.filler_count-fillers.ensures)

pub returns-then-count-fillers-ge-MAX_ENTRIES : goal.returns-then-count-fillers-ge-MAX_ENTRIES
returns-then-count-fillers-ge-MAX_ENTRIES c =
    let a = c.args in
    let size =
    length_gap (given_at a.aligned.now) a.before (a.place - a.before) a.code
    c.filler_count-fillers.result c.filler_count-fillers.ensures in
    put_many (omega arith)

pub put_fillers-requires : goal.put_fillers-requires
unfolding filler_count
put_fillers-requires c =
    (omega (arith, c.filler_count-fillers.ensures), omega arith)

pub overflow_sub-gap-2 : goal.overflow_sub-gap-2
unfolding filler_count
overflow_sub-gap-2 c =
    omega (arith, c.filler_count-fillers.ensures)

pub entry_byte-requires : goal.entry_byte-requires
unfolding filler_count
entry_byte-requires c =
    (omega (arith, c.filler_count-fillers.ensures), omega arith)

pub returns : goal.returns
returns c =
    let fillers = c.filler_count-fillers.result in
    let a = c.args in
    let expected = given_at a.aligned.now in
    let size =
    length_gap expected a.before (a.place - a.before) a.code fillers
    c.filler_count-fillers.ensures in
    put_few (omega arith) (a.count + fillers + 1) (omega arith)
    (gap_written expected a.before (a.place - a.before) a.code fillers
    c.filler_count-fillers.ensures a.list.now
    c.put_fillers.new.list a.count c.entry_byte.result
    (omega arith) c.put_fillers.ensures c.entry_byte.ensures)

-- `names_writer::table::put_table` meets its contract. Assumes nothing.
use mathlib.Core.Path.{◌≡◌, refl}
use Prim.Native.Nat.{◌+◌, ◌-◌}
use native.Mathlib.Omega.{arith}
use lib.ListN.{take, drop}
use Rattle.base.proofs.SliceLaws.{pasted_mid}
use Rattle.names_writer.proofs.PutTableLaws.{table_done}
use Rattle.names_writer.proofs.table.put_table.Goals as goal

pub returns : goal.returns
returns c =
    let a = c.args in
    let e : a.count - 0 ≡ a.count = omega arith in
    table_done a.out.now _ _ _ a.kinds.now a.sizes.now a.at a.count
    (a.count - 0) a.count e refl c.requires.count_bound.1 c.requires.count_bound.2 c.requires.count_in_bounds
    c.put_u32.ensures
    (pasted_mid (a.at + 4) _ _ (take (a.count - 0) (drop 0 a.kinds.now)) c.copy_from_slice.ensures.after
    (omega arith))
    c.put_lengths.ensures

-- `record_writer::kinds::put_entries` meets its contract. Assumes nothing.
use mathlib.Core.Path.{refl}
use native.Mathlib.Omega.{arith}
use Rattle.base.proofs.SliceLaws.{pasted_mid}
use Rattle.record_writer.proofs.kinds.put_entries.Goals as goal

pub returns : goal.returns
returns c =
    let a = c.args in (
      pasted_mid a.at _ a.out.now a.entries.now c.copy_from_slice.ensures.after (omega arith),
      refl,
    )

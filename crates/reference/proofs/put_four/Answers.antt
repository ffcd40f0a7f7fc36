-- `reference::put_four` meets its contract: the table's word of the byte of the four bases holds
-- their letters. Assumes nothing.
use mathlib.Core.Path.{◌∙◌, ap}
use native.Mathlib.Omega.{arith}
use Rattle.base.specs.Paste.{pasted}
use Rattle.base.proofs.ListLaws.{below_at}
use Rattle.reference.proofs.Words.{table-letters}
use Rattle.reference.proofs.put_four.Goals as goal

pub overflow_cast-table : goal.overflow_cast-table
overflow_cast-table c =
    omega (arith, below_at c.args.table.now (omega arith) c.requires.2 c.bases_byte.result)

pub returns : goal.returns
returns c =
    λ forward lent.
    let a = c.args in
    c.put_u32.ensures
    ∙ ap (pasted a.out.now a.at)
    (table-letters a.table.now a.reference.now forward a.index
    c.bases_byte.result lent
    c.bases_byte.ensures.0)

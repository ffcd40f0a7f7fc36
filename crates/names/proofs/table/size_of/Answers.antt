-- `names::table::size_of` meets its contract. Assumes nothing.
use mathlib.Core.Path.{sym, ◌∙◌}
use Prim.Native.Nat.{◌+◌, ◌*◌}
use Rattle.base.specs.Numbers.{le}
use Rattle.base.proofs.ListLaws.{get_or-build}
use Rattle.tokens.specs.ColumnsAt.{column_sizes}
use Rattle.names.proofs.table.size_of.Goals as goal

pub returns : goal.returns
unfolding column_sizes
returns c =
    let a = c.args in
    c.u64_at.ensures
    ∙ sym (get_or-build a.count (λ k. le 8 a.section.now (4 + a.count + 8 * k)) a.k 0 c.requires.1)

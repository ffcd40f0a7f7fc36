-- `n_lists::n_list_length` meets its contract. Assumes nothing.
use native.Mathlib.Omega.{arith}
use Rattle.n_lists.proofs.NListLaws.{short-list}
use Rattle.n_lists.proofs.n_list_length.Goals as goal

pub returns-then-read : goal.returns-then-read
returns-then-read c =
    let a = c.args in (
      short-list a.read.now a.count c.requires c.if-read.true,
      omega (arith, c.requires.few),
    )

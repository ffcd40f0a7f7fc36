-- `reference::bases_byte` meets its contract: two neighbouring bytes hold the four bases. Assumes
-- nothing.
use native.Mathlib.Omega.{arith}
use borrow.Author.Rules.{rules}
use Rattle.reference.proofs.Neighbours.{bases_of-two}
use Rattle.reference.proofs.bases_byte.Goals as goal

pub returns : goal.returns
returns c =
    let a = c.args in (
      bases_of-two a.reference.now a.index c.from.result c.from-2.result (search rules) (search rules)
          (search rules) (search rules),
      omega arith,
    )

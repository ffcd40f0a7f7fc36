-- `reference::strand_base` meets its contract: by the strand. Assumes nothing.
use native.Mathlib.Omega.{arith}
use mathlib.Core.Path.{◌∙◌, ap}
use Rattle.dna.proofs.ReferenceLaws.{reference_base-below}
use Rattle.dna.specs.Reference.{strand_base, complement}
use Rattle.reference.proofs.strand_base.Goals as goal

pub returns-then-forward : goal.returns-then-forward
unfolding strand_base
returns-then-forward c =
    simp c.if-forward.true c.base_at-base.ensures

pub complement_of-requires : goal.complement_of-requires
complement_of-requires c =
    let a = c.args in
    omega (
      arith,
      c.base_at-base.ensures,
      reference_base-below a.reference.now a.index,
    )

pub returns : goal.returns
unfolding strand_base
returns c =
    simp c.if-forward.false
    (c.complement_of.ensures ∙ ap complement c.base_at-base.ensures)

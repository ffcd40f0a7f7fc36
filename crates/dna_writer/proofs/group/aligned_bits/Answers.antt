-- `dna_writer::group::aligned_bits` meets its contract. Assumes nothing.
use mathlib.Core.Path.{ap, ◌∙◌}
use native.Mathlib.Omega.{arith}
use mathlib.Core.Bool.{Bool, cond}
use Rattle.dna_writer.proofs.BitLaws.{bit-is, bit-small}
use Rattle.dna_writer.proofs.group.aligned_bits.Goals as goal

pub overflow_mul-result : goal.overflow_mul-result
overflow_mul-result c =
    omega (arith, c.from.ensures, bit-small c.is_forward-forward.result)

pub overflow_mul-result-2 : goal.overflow_mul-result-2
overflow_mul-result-2 c = omega (arith, c.from-2.ensures, bit-small c.step_fits-step.result)

pub overflow_add-result : goal.overflow_add-result
overflow_add-result c =
    omega (
      arith,
      c.from.ensures,
      bit-small c.is_forward-forward.result,
      c.from-2.ensures,
      bit-small c.step_fits-step.result,
    )

pub returns : goal.returns
returns c = (
  omega (
    arith,
    c.from.ensures ∙ bit-is c.is_forward-forward.result
        ∙ ap (λ (t : Bool). cond t 1 0) c.is_forward-forward.ensures,
    c.from-2.ensures ∙ bit-is c.step_fits-step.result
        ∙ ap (λ (t : Bool). cond t 1 0) c.step_fits-step.ensures,
  ),
  omega (
    arith,
    c.from.ensures,
    bit-small c.is_forward-forward.result,
    c.from-2.ensures,
    bit-small c.step_fits-step.result,
  ),
)

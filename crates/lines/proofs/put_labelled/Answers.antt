-- `lines::put_labelled` meets its contract: the number stands after its name. Assumes nothing.
use native.Mathlib.Omega.{arith}
use Rattle.lines.proofs.PutLaws.{put_next}
use Rattle.base.specs.Decimal.{decimal}
use Rattle.lines.proofs.put_labelled.Goals as goal

pub returns : goal.returns
returns c =
    let a = c.args in
    let p = c.put_text-next in
    let d = c.put_decimal in
    let both = put_next a.out.now a.at a.label.now (decimal a.number) _ _ p.result d.result
    p.ensures (omega arith) (d.ensures.0, d.ensures.1) in
    (both.0, both.1, omega arith)

-- `records::with_list` meets its contract. Assumes nothing.
use mathlib.Core.Path.{◌≡◌, sym, ap, ◌∙◌}
use native.Mathlib.Omega.{arith}
use Rattle.std.specs.Prelude.{Result, Err}
use Rattle.dna.specs.Refused.{numbered}
use Rattle.dna.specs.declared.refusals.Refusal.{Refusal}
use Rattle.records.specs.declared.Decoded.{Decoded}
use Rattle.records.specs.declared.nlist.NList.{NList}
use Rattle.records.specs.Decoded.{with_list}
use Rattle.records.proofs.with_list.Goals as goal

pub returns-in_err-list : goal.returns-in_err-list
unfolding with_list numbered
returns-in_err-list c =
    let a = c.args in
    let same : ◌≡◌ {A = Result Decoded Refusal} c.from_residual.result (Err c.in_err-list.field-0.0) =
    grind (arith, c.from_residual.ensures) in
    ap numbered same
    ∙ ap (λ (list : Result NList Refusal). with_list a.«record» a.entries a.count a.packed (numbered list))
    (sym c.in_err-list.was)

pub returns : goal.returns
unfolding with_list numbered
returns c =
    let a = c.args in
    ap (λ (list : Result NList Refusal). with_list a.«record» a.entries a.count a.packed (numbered list))
    (sym c.in_ok-list.was)

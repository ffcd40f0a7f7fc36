-- `lines::put_decimal` meets its contract: the digits of io are those of the definition. Assumes nothing.
use mathlib.Core.Path.{◌≡◌, ap, ◌∙◌}
use Prim.Native.Nat.{ℕ, ◌+◌, ◌≤◌}
use native.Mathlib.Omega.{arith}
use mathlib.Core.List.{List}
use lib.ListN.{length, take}
use Rattle.base.specs.Paste.{pasted}
use Rattle.lines.proofs.TextLaws.{few-digits, length_digits, decimal-shown}
use Rattle.base.specs.Decimal.{decimal}
use Rattle.lines.proofs.put_decimal.Goals as goal

pub put_text-requires : goal.put_text-requires
put_text-requires c =
    let d = c.decimal-count in
    let a = c.args in
    let few : d.result ≤ 20 = few-digits a.number d.result (omega arith) d.ensures.len in
    let size : length (take d.result d.new.out) ≡ d.result =
    ap length d.ensures.digits ∙ length_digits 10 d.result a.number in
    omega arith

pub returns : goal.returns
returns c =
    let d = c.decimal-count in
    let a = c.args in
    let p = c.put_text in
    let same : take d.result d.new.out ≡ decimal a.number =
    decimal-shown a.number d.result d.new.out (omega arith) d.ensures.len d.ensures.digits in
    let few : d.result ≤ 20 = few-digits a.number d.result (omega arith) d.ensures.len in
    let size : length (take d.result d.new.out) ≡ d.result =
    ap length d.ensures.digits ∙ length_digits 10 d.result a.number in (
      p.ensures.0 ∙ ap (pasted a.out.now a.at) same,
      p.ensures.1 ∙ ap (λ (part : List ℕ). a.at + length part) same,
      omega arith,
    )

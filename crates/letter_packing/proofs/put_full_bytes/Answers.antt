use mathlib.Core.Path.{◌≡◌, sym, ap, ◌∙◌}
use Prim.Native.Nat.{ℕ, ◌+◌, ◌*◌}
use native.Mathlib.Omega.{arith}
use lib.ListN.{length-set}
use borrow.Author.Rules.{rules}
use Rattle.base.specs.Lists.{build}
use Rattle.base.specs.Packed.{byte_of}
use Rattle.base.specs.Paste.{pasted}
use Rattle.base.proofs.PasteLaws.{pasted_nil, pasted_turn}
use Rattle.letter_packing.specs.Read.{base_in}
use Rattle.letter_packing.proofs.put_full_bytes.Goals as goal

pub loop-j-init : goal.loop-j-init
unfolding build
loop-j-init c =
    let a = c.args in
    (omega arith, sym (pasted_nil a.out.now a.at), search rules)

pub loop-j-preserved : goal.loop-j-preserved
loop-j-preserved c =
    let a = c.args in
    let l = c.loop-j in (
      omega arith,
      pasted_turn a.out.now a.at (λ i. byte_of 4 4
          (λ k. base_in a.read.now (a.start + 4 * i + k))) l.out l.j _ (omega arith)
          l.invariant.1
          c.full_byte.ensures,
      simp length-set l.invariant.2,
    )

pub returns : goal.returns
returns c =
    let a = c.args in
    let l = c.loop-j in
    let all : l.j ≡ a.count = omega arith in
    l.invariant.1 ∙ ap (λ (n : ℕ). pasted a.out.now a.at
    (build n (λ i. byte_of 4 4 (λ k. base_in a.read.now (a.start + 4 * i + k))))) all

use mathlib.Core.Path.{◌≡◌, refl, sym, ap, ◌∙◌}
use Prim.Native.Nat.{ℕ}
use native.Mathlib.Omega.{arith}
use lib.ListN.{length, get_or, length-set}
use Rattle.base.specs.Lists.{build}
use Rattle.base.specs.Paste.{pasted}
use Rattle.base.proofs.ListLaws.{build_get_or}
use Rattle.base.proofs.PasteLaws.{pasted_nil, pasted_turn}
use Rattle.names_writer.proofs.pieces.put_bytes.Goals as goal

pub loop-k-init : goal.loop-k-init
unfolding build
loop-k-init c = (sym (pasted_nil c.args.out.now c.args.at), refl)

pub bounds-out-at : goal.bounds-out-at
bounds-out-at c = omega (arith, c.requires)

pub loop-k-preserved : goal.loop-k-preserved
loop-k-preserved c =
    let a = c.args in
    let l = c.loop-k in (
      pasted_turn a.out.now a.at (λ j. get_or a.bytes.now j 0) l.out l.k _
          (omega (arith, c.requires)) l.invariant.0 refl,
      simp length-set l.invariant.1,
    )

pub returns : goal.returns
returns c =
    let a = c.args in
    let l = c.loop-k in
    let e : l.k ≡ length a.bytes.now = omega arith in
    l.invariant.0
    ∙ ap (λ (n : ℕ). pasted a.out.now a.at (build n (λ j. get_or a.bytes.now j 0))) e
    ∙ ap (pasted a.out.now a.at) (build_get_or a.bytes.now 0)

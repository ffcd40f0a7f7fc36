-- `names::token::start_at` meets its contract: a start that is whole, not negative and not too
-- large. Assumes nothing.
use mathlib.Core.Path.{◌≡◌, sym, ap, ◌∙◌}
use Prim.Native.Nat.{ℕ, ◌+◌}
use native.Mathlib.Omega.{arith}
use lib.IntN.{ℤ}
use lib.ListN.{length}
use mir.Syntax.{w64}
use mir.Val.{to_z, of_z}
use mir.ValLaws.{to_z-of_z}
use borrow.Author.Tests.{ltb-false}
use Rattle.std.specs.Prelude.{Some}
use Rattle.base.specs.Numbers.{non_negative}
use Rattle.names.proofs.RisingLaws.{start_cut, start_negative, start_large, start_found}
use Rattle.names.proofs.token.start_at.Goals as goal

pub returns-then-cut_at : goal.returns-then-cut_at
returns-then-cut_at c =
    start_cut c.args.section.now 0 c.args.place 0 (sym c.cut_at.ensures ∙ c.if-cut_at.true)

pub i64_at-start-requires : goal.i64_at-start-requires
i64_at-start-requires c =
    ltb-false (length c.args.section.now) (c.args.place + 8) (sym c.cut_at.ensures ∙ c.if-cut_at.false)

pub returns-then-start-lt0 : goal.returns-then-start-lt0
returns-then-start-lt0 c =
    let z : ℤ = c.i64_at-start.result in
    let q : to_z w64 (of_z w64 z) ≡ z = to_z-of_z w64 z (record { sfits = c.i64_at-start.type_inv }) in
    start_negative c.args.section.now 0 c.args.place 0 z (sym c.cut_at.ensures ∙ c.if-cut_at.false)
    c.i64_at-start.ensures (rw q at c.if-start-lt0.true)

pub returns-then-number-gt-MAX_NUMBER : goal.returns-then-number-gt-MAX_NUMBER
returns-then-number-gt-MAX_NUMBER c =
    let z : ℤ = c.i64_at-start.result in
    let q : to_z w64 (of_z w64 z) ≡ z = to_z-of_z w64 z (record { sfits = c.i64_at-start.type_inv }) in
    let n : c.non_negative64-number.result ≡ non_negative z =
    c.non_negative64-number.ensures.0 ∙ ap non_negative q in
    start_large c.args.section.now 0 c.args.place 0 z (sym c.cut_at.ensures ∙ c.if-cut_at.false)
    c.i64_at-start.ensures (rw q at c.if-start-lt0.false) (omega arith)

pub returns : goal.returns
returns c =
    let z : ℤ = c.i64_at-start.result in
    let q : to_z w64 (of_z w64 z) ≡ z = to_z-of_z w64 z (record { sfits = c.i64_at-start.type_inv }) in
    let n : c.non_negative64-number.result ≡ non_negative z =
    c.non_negative64-number.ensures.0 ∙ ap non_negative q in
    ap (λ (m : ℕ). Some m) n
    ∙ start_found c.args.section.now 0 c.args.place 0 z (sym c.cut_at.ensures ∙ c.if-cut_at.false)
    c.i64_at-start.ensures (rw q at c.if-start-lt0.false) (omega arith)

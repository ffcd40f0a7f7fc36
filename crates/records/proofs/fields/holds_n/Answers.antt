-- `records::fields::holds_n` meets its contract: whole bytes, then the first code of a last
-- one. Assumes nothing.
use mathlib.Core.Path.{◌≡◌, refl, ap, ◌∙◌}
use mathlib.Core.List.{[], ◌∷◌}
use Prim.Native.Nat.{ℕ, ◌+◌, ◌*◌, ◌/◌, ◌≤◌}
use native.Mathlib.Omega.{arith}
use lib.ListN.{length, get_or}
use Rattle.base.specs.Packed.{packed_length, symbols_at}
use Rattle.records.specs.Decoded.{codes_class}
use Rattle.records.proofs.FieldLaws.{class-append, codes_half, codes-part}
use borrow.Author.Rules.{rules}
use Rattle.records.proofs.fields.holds_n.Goals as goal
use Rattle.records.proofs.fields.holds_n.Goals.{After-largest_code-whole}

pub slice_bounds-largest_code-end : goal.slice_bounds-largest_code-end
unfolding packed_length
slice_bounds-largest_code-end c = search rules

-- The class of the whole bytes.
whole : (c : After-largest_code-whole)
    → let a = c.args in
    codes_class (c.largest_code-whole.result ∷ [])
    ≡ codes_class (symbols_at 16 2 a.section.now a.at 0 (2 * (a.size / 2)))
unfolding packed_length
whole c =
    let a = c.args in
    let fits : a.at + a.size / 2 ≤ length a.section.now = omega (arith, c.requires.0) in
    c.largest_code-whole.ensures ∙ ap codes_class (codes-part a.section.now a.at (a.size / 2) fits)

pub returns-then-size-eq0 : goal.returns-then-size-eq0
returns-then-size-eq0 c =
    let a = c.args in
    let all : 2 * (a.size / 2) ≡ a.size = omega (arith, c.if-size-eq0.true) in
    c.is_n.ensures
    ∙ whole (goal.at.returns-then-size-eq0 c).After-largest_code-whole
    ∙ ap (λ (n : ℕ). codes_class (symbols_at 16 2 a.section.now a.at 0 n)) all

pub bounds-section-at : goal.bounds-section-at
unfolding packed_length
bounds-section-at c =
    omega (arith, c.if-size-eq0.false)

pub returns : goal.returns
returns c =
    let a = c.args in
    let odd : a.size ≡ 2 * (a.size / 2) + 1 = omega (arith, c.if-size-eq0.false) in
    let place : ℕ = a.at + a.size / 2 in
    c.is_n-2.ensures
    ∙ ap (λ n. codes_class (n ∷ [])) c.max.ensures
    ∙ class-append c.largest_code-whole.result (get_or a.section.now place 0 / 16) _ _
    (whole (goal.at.returns c).After-largest_code-whole) refl
    ∙ ap codes_class
    (codes_half a.section.now a.at (a.size / 2) (get_or a.section.now place 0) a.size
    refl (omega (arith, c.type_inv.section place)) odd)

-- `header::sections::section` meets its contract: its part is the one that its span says. Assumes
-- nothing.
-- What the definitions' span has, the span that is found has.
use mathlib.Core.Path.{◌≡◌, refl, sym, ap, subst, ◌∙◌}
use Prim.Native.Nat.{ℕ, ◌+◌, ◌-◌}
use native.Mathlib.Omega.{arith}
use mathlib.Core.List.{List}
use lib.ListN.{take, drop}
use Rattle.base.specs.Lists.{part}
use Rattle.format.specs.BlockAnswer as format
use Rattle.format.specs.BlockAnswer.{span_answer}
use Rattle.format.proofs.SpanLaws.{SpanRight, span_right}
use Rattle.header.proofs.sections.section.Goals as goal

span-found : (input : List ℕ) (number : ℕ) (span : format.Span) → span ≡ span_answer input number
    → SpanRight input number span
span-found input number span same =
    subst (SpanRight input number) (sym same) (span_right input number)

take_part : (input : List ℕ) (start size : ℕ)
    → take (start + size - start) (drop start input) ≡ part input start size
take_part input start size =
    let e : start + size - start ≡ size = omega arith in
    rw e

begins-there : (place start : ℕ) {offset : ℕ} → start ≡ offset → start + place ≡ place + offset
begins-there place start e = omega arith

pub overflow_add-result : goal.overflow_add-result
overflow_add-result c =
    let right = span-found _ _ _ c.section_span-offset.ensures in
    omega (arith, right.inside)

pub slice_bounds-result-end : goal.slice_bounds-result-end
slice_bounds-result-end c =
    let right = span-found _ _ _ c.section_span-offset.ensures in
    omega (arith, right.inside)

pub returns : goal.returns
returns c =
    let span = c.section_span-offset in
    let right = span-found _ _ _ span.ensures in (
      take_part _ span.result.offset span.result.size ∙ right.stands,
      (refl, begins-there _ _ (ap (λ (s : format.Span). s.offset) span.ensures)),
    )

-- A section's span is where the section stands (01: a body is handed back as the very part of the block). Assumes
-- nothing.
use mathlib.Core.Path.{◌≡◌, refl, sym}
use Prim.Native.Nat.{ℕ, ◌+◌, ◌≤◌}
use native.Mathlib.Omega.{arith}
use mathlib.Core.Bool.{Bool}
use mathlib.Core.List.{List, []}
use lib.ListN.{length, take, drop}
use lib.Dec.{eqb}
use borrow.Author.Tests.{eqb-true}
use Rattle.base.specs.Lists.{part}
use Rattle.base.proofs.ListLaws.{by_test}
use Rattle.base.proofs.AnswerLaws.{cond_yes, cond_no}
use Rattle.format.specs.Header.{header_of}
use Rattle.format.specs.Sections.{section_start, section_length, section_of}
use Rattle.format.specs.BlockAnswer.{header_refused, section_answer, Span, span_answer}
use Rattle.format.proofs.SectionLaws.{section-inside, accepted-block}

-- The span lies inside the input, and its part is the section.
pub record SpanRight (input : List ℕ) (number : ℕ) (span : Span) : Type 0 where
  pub inside : span.offset + span.size ≤ length input
  pub stands : part input span.offset span.size ≡ section_answer input number

none : Span
none = record { offset = 0; size = 0 }

empty_right : (input : List ℕ) (number : ℕ) → section_answer input number ≡ [] → SpanRight input number none
unfolding none
empty_right input number e = record { inside = omega arith; stands = sym e }

take_none : (list : List ℕ) (n : ℕ) → n ≡ 0 → take n list ≡ []
take_none list n e = rw e refl

pub span_right : (input : List ℕ) (number : ℕ) → SpanRight input number (span_answer input number)
unfolding span_answer section_answer section_of none
span_right input number =
    let refused : Bool = header_refused input in
    let size : ℕ = section_length (header_of input) number in
    let start : ℕ = section_start (header_of input) number in
    by_test refused
    (λ t. rw t (empty_right input number (cond_yes _ t refl)))
    (λ t.
    by_test (eqb size 0)
    (λ u. rw (t, u) (empty_right input number (cond_no _ t (take_none (drop start input) size (eqb-true size 0 u)))))
    (λ u.
    rw (t, u)
    (record {
      inside = omega (arith, section-inside (header_of input) number, accepted-block input t);
      stands = sym (cond_no _ t refl);
    })))

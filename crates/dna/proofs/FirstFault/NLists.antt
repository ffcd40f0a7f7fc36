-- An N list is refused with 12 or 20, and with 12 exactly where the section's end cuts it. Assumes nothing.
use mathlib.Core.Path.{◌≡◌, refl, sym, ap, ap₂, ◌∙◌}
use Prim.Native.Nat.{ℕ, zero, suc, ◌+◌, ◌≤◌}
use native.Mathlib.Numerals.{add-one}
use native.Mathlib.Omega.{arith}
use mathlib.Core.Logic.{◌↔◌, ◌⊎◌, inl, inr}
use mathlib.Core.List.{List, [], ◌∷◌, ◌++◌, flat_map, append_assoc}
use lib.ListN.{length, get_or, drop, length-append, length-drop, take-append-drop, drop_of_length-le}
use lib.ListN.{get_or-append}
use lib.Seq.{drop-cons, drop-drop, get_or-drop}
use lib.Dec.{ltb, eqb}
use borrow.Author.Tests.{ltb-true, ltb-false, lt-ltb, le-ltb}
use Rattle.base.specs.Lists.{AllBytes}
use Rattle.base.specs.Numbers.{le}
use Rattle.base.specs.Place.{At}
use Rattle.base.specs.Answer.{checked, refused}
use Rattle.base.proofs.AtLaws.{at_head, at_tail, at_part}
use Rattle.base.proofs.AnswerLaws.{Refuses, checked-refuses, and_then-refuses, cond-refuses}
use Rattle.base.proofs.AnswerLaws.{refuses-with, cond_yes, cond_no, cond-parts, refused-same}
use Rattle.dna.specs.Varint16.{varint16_bytes}
use Rattle.dna.specs.Record.{ReadContext}
use Rattle.dna.specs.Alignment.{n_positions}
use Rattle.dna.specs.RecordFaults.{n_count_invalid}
use Rattle.dna.specs.Varint16At.{varint16_at, words_for}
use Rattle.dna.specs.RecordAt.{offsets_at, n_list_at}
use Rattle.dna.specs.FirstFault.{ListCut}
use Rattle.dna.proofs.OffsetLaws.{tests-steps, steps_tests}
use Rattle.dna.proofs.FirstFault.Cuts.{not_twelve, escapes_bytes, OffsetsCut, offsets-cut}
use Rattle.dna.proofs.FirstFault.Cuts.{cut-offsets}

-- ---- Its numbers

abbrev TwelveOrTwenty : (number : ℕ) → Type 0
TwelveOrTwenty number = (number ≡ 12) ⊎ (number ≡ 20)

varint16-numbers : (words bound place : ℕ) (list : List ℕ) (at : ℕ) → Refuses TwelveOrTwenty (varint16_at words bound place list at)
unfolding varint16_at
varint16-numbers zero bound place list at = inr refl
varint16-numbers (suc words) bound place list at =
    checked-refuses TwelveOrTwenty (λ n. n) _ _ (inl refl, (inr refl, (inr refl, tt)))
    (cond-refuses TwelveOrTwenty (eqb (le 2 list at) 32768) _ _
    (and_then-refuses TwelveOrTwenty (varint16_at words bound (place + le 2 list at) list (at + 2)) _
    (varint16-numbers words bound (place + le 2 list at) list (at + 2)) (λ more next e. tt))
    tt)

offsets-numbers : (count bound least place : ℕ) (list : List ℕ) (at : ℕ) → Refuses TwelveOrTwenty (offsets_at count bound least place list at)
unfolding offsets_at
offsets-numbers zero bound least place list at = tt
offsets-numbers (suc count) bound least place list at =
    and_then-refuses TwelveOrTwenty (varint16_at (words_for bound) bound place list at) _ (varint16-numbers (words_for bound) bound place list at)
    (λ offset next e.
    checked-refuses TwelveOrTwenty (λ n. n) _ _ (inr refl, tt)
    (and_then-refuses TwelveOrTwenty (offsets_at count bound 1 (place + offset) list next) _
    (offsets-numbers count bound 1 (place + offset) list next) (λ offsets end e. tt)))

n_list-numbers : (context : ReadContext) (list : List ℕ) (at : ℕ) → Refuses TwelveOrTwenty (n_list_at context.read_length list at)
unfolding n_list_at
n_list-numbers context list at =
    checked-refuses TwelveOrTwenty (λ n. n) _ _ (inl refl, (inr refl, tt))
    (offsets-numbers (get_or list at 0) context.read_length 0 0 list (at + 1))

-- ---- Where it is cut

-- What stands at a place, and what is left after it.
at_rest : {list : List ℕ} {i : ℕ} (part : List ℕ) → At list i part → drop i list ≡ part ++ drop (i + length part) list
at_rest {list} {i} part a =
    sym (take-append-drop (length part) (drop i list)) ∙ ap₂ ◌++◌ (at_part part a) (drop-drop (length part) i list)

rest_at : {list : List ℕ} {i : ℕ} (part rest : List ℕ) → i ≤ length list → drop i list ≡ part ++ rest → At list i part
rest_at {list} {i} part rest h e =
    record {
      fits = omega (arith, length-drop i list, length-append part rest, ap length e);
      same = λ k l. sym (get_or-drop i list k 0) ∙ ap (λ (xs : List ℕ). get_or xs k 0) e ∙ get_or-append part rest 0 k l;
    }

-- Refused with 12: there is none, or it is cut.
n_list-cut : (context : ReadContext) (list : List ℕ) (at : ℕ) → AllBytes list → n_list_at context.read_length list at ≡ refused 12
    → (drop at list ≡ []) ⊎ ListCut context.read_length (drop at list)
unfolding n_list_at checked n_positions escapes_bytes
n_list-cut context list at bytes e =
    cond-parts (ltb (length list) (at + 1)) _ _ e
    (λ t e₁. inl (drop_of_length-le list {i = at} (omega (arith, ltb-true (length list) (at + 1) t))))
    (λ t e₁. cond-parts (n_count_invalid (get_or list at 0)) _ _ e₁ (λ t e₂. not_twelve e₂)
    (λ t₂ e₂.
    let fits : at + 1 ≤ length list = ltb-false (length list) (at + 1) t in
    let c : OffsetsCut list (get_or list at 0) context.read_length 0 0 (at + 1)
    = offsets-cut (get_or list at 0) context.read_length 0 0 (at + 1) bytes fits e₂ in
    let offsets : List ℕ = flat_map varint16_bytes c.offsets in
    let escapes : List ℕ = escapes_bytes c.escapes in
    let left : List ℕ = drop (at + 1 + length (offsets ++ escapes)) list in
    let tests = steps_tests context.read_length c.offsets c.steps in
    inr (record {
      count = get_or list at 0;
      offsets = c.offsets;
      escapes = c.escapes;
      left = left;
      stands =
          drop-cons list at 0 (omega arith)
          ∙ ap (λ (n : ℕ). get_or list at 0 ∷ drop n list) (sym (add-one at))
          ∙ ap (λ (xs : List ℕ). get_or list at 0 ∷ xs) (at_rest (offsets ++ escapes) c.stands ∙ append_assoc offsets escapes left);
      counts = t₂;
      fewer = c.fewer;
      no_zero = tests.0;
      inside = tests.1;
      escapes_inside = λ some. omega (arith, c.inside some);
      cut = omega (arith, length-drop (at + 1 + length (offsets ++ escapes)) list, c.cut);
    })))

-- There is none: refused with 12.
none-n_list : (context : ReadContext) (list : List ℕ) (at : ℕ) → drop at list ≡ [] → n_list_at context.read_length list at ≡ refused 12
unfolding n_list_at checked
none-n_list context list at e =
    cond_yes _ (lt-ltb (length list) (at + 1) (omega (arith, length-drop at list, ap length e))) refl

-- It is cut: refused with 12.
cut-n_list : (context : ReadContext) (list : List ℕ) (at : ℕ) → at ≤ length list → ListCut context.read_length (drop at list)
    → n_list_at context.read_length list at ≡ refused 12
unfolding n_list_at checked n_positions escapes_bytes
cut-n_list context list at h c =
    let offsets : List ℕ = flat_map varint16_bytes c.offsets in
    let escapes : List ℕ = escapes_bytes c.escapes in
    let bytes : List ℕ = offsets ++ escapes in
    let e : drop at list ≡ (c.count ∷ bytes) ++ c.left
    = c.stands ∙ ap (λ (xs : List ℕ). c.count ∷ xs) (sym (append_assoc offsets escapes c.left)) in
    let a : At list at (c.count ∷ bytes) = rest_at (c.count ∷ bytes) c.left h e in
    let n : get_or list at 0 ≡ c.count = at_head a in
    let size : length (drop at list) ≡ suc (length bytes + length c.left) = ap length e ∙ ap suc (length-append bytes c.left) in
    cond_no _ (le-ltb (length list) (at + 1) (omega (arith, a.fits)))
    (cond_no _ (ap n_count_invalid n ∙ c.counts)
    (ap (λ (k : ℕ). offsets_at k context.read_length 0 0 list (at + 1)) n
    ∙ cut-offsets c.offsets c.escapes c.count context.read_length 0 0 c.fewer
    (tests-steps context.read_length c.offsets c.no_zero c.inside) (at_tail a)
    (λ some. omega (arith, c.escapes_inside some)) (omega (arith, length-drop at list, c.cut))))

-- The number of an N list that is refused: 12 or 20, and 12 exactly where there is none or it is cut.
pub n_list-number : (context : ReadContext) (list : List ℕ) (at number : ℕ) → AllBytes list → at ≤ length list
    → n_list_at context.read_length list at ≡ refused number
    → ((number ≡ 12) ⊎ (number ≡ 20)) × ((number ≡ 12) ↔ ((drop at list ≡ []) ⊎ ListCut context.read_length (drop at list)))
n_list-number context list at number bytes h e = (
  refuses-with TwelveOrTwenty e (n_list-numbers context list at),
  (
    λ is. n_list-cut context list at bytes (e ∙ ap refused is),
    elim [
      | inl none ↦ refused-same (sym e ∙ none-n_list context list at none)
      | inr cut ↦ refused-same (sym e ∙ cut-n_list context list at h cut)
    ],
  ),
)

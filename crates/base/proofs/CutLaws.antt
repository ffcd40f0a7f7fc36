-- Lists and the one list that they make up, with the ends of each: each gives the other. Assumes nothing.
use mathlib.Core.Path.{◌≡◌, refl, sym, ap, ap₂, ◌∙◌}
use mathlib.Core.Bool.{Bool, false, not}
use Prim.Native.Nat.{ℕ, ◌+◌, ◌-◌, ◌<◌}
use native.Mathlib.Omega.{arith}
use mathlib.Core.List.{List, [], ◌∷◌, ◌++◌, map, flatten, append_assoc}
use lib.ListN.{length, get_or, take, drop, length-append, length-drop, length-map, take-append-drop}
use lib.Seq.{length-take-le}
use lib.Dec.{eqb}
use borrow.Author.Tests.{eqb-true, eq-eqb}
use Rattle.base.specs.Lists.{build, part, any, total, places_from, steps_from, ends_wrong_for, All}
use Rattle.base.proofs.ListLaws.{no_length_lem}
use Rattle.base.proofs.AtLaws.{at-middle, at_part}
use Rattle.base.proofs.AllLaws.{all_too, any-all}
use Rattle.base.proofs.GroupLaws.{length_flatten}
use Rattle.base.proofs.StepsLaws.{length-steps_from, length-places, steps_of-places, last-place}
use Rattle.base.proofs.Tests.{or-neither, neither_or, not-false, true_not}

-- Places that rise by their steps are where those lead.
pub places_of-rising : (start : ℕ) (places : List ℕ) → All (λ step. 0 < step) (steps_from start places)
    → places_from start (steps_from start places) ≡ places
unfolding places_from steps_from
places_of-rising start [] h = refl
places_of-rising start (place ∷ places) h =
    let back : start + (place - start) ≡ place = omega (arith, h.0) in
    rw back (ap (λ (rest : List ℕ). place ∷ rest) (places_of-rising place places h.1))

-- ---- By the ends

-- Part i of a list, by the end before it and its own.
pub part_between : (whole : List ℕ) (start : ℕ) (ends : List ℕ) (i : ℕ) → List ℕ
part_between whole start ends i = part whole (get_or (start ∷ ends) i 0) (get_or ends i 0 - get_or (start ∷ ends) i 0)

-- The part after what stands before.
part-first : (before list rest : List ℕ)
    → part (before ++ (list ++ rest)) (length before) (length before + length list - length before) ≡ list
part-first before list rest =
    let size : length before + length list - length before ≡ length list = omega arith in
    ap (λ (n : ℕ). take n (drop (length before) (before ++ (list ++ rest)))) size ∙ at_part list (at-middle before list rest)

-- The parts from a place on.
parts_from : (before : List ℕ) (lists : List (List ℕ)) (start : ℕ) → start ≡ length before
    → build (length lists) (part_between (before ++ flatten lists) start (places_from start (map length lists))) ≡ lists
unfolding build flatten places_from part_between
parts_from before [] start e = refl
parts_from before (list ∷ lists) start e =
    let next : start + length list ≡ length (before ++ list) = omega (arith, length-append before list) in
    let again : build (length lists) (part_between ((before ++ list) ++ flatten lists) (start + length list) (places_from (start + length list) (map length lists))) ≡ lists
    = parts_from (before ++ list) lists (start + length list) next in
    ap₂ ◌∷◌
    (ap (λ (n : ℕ). part (before ++ (list ++ flatten lists)) n (n + length list - n)) e ∙ part-first before list (flatten lists))
    (ap (λ (whole : List ℕ). build (length lists) (part_between whole (start + length list) (places_from (start + length list) (map length lists))))
    (sym (append_assoc before list (flatten lists)))
    ∙ again)

-- Lists are the parts of what they make up between their ends.
pub parts_of_flatten : (whole ends : List ℕ) (lists : List (List ℕ)) → whole ≡ flatten lists → ends ≡ places_from 0 (map length lists)
    → build (length ends) (λ i. part whole (get_or (0 ∷ ends) i 0) (get_or ends i 0 - get_or (0 ∷ ends) i 0)) ≡ lists
unfolding part_between
parts_of_flatten whole ends lists e f =
    let count : length ends ≡ length lists = ap length f ∙ length-places 0 (map length lists) ∙ length-map lists length in
    ap (λ (n : ℕ). build n (part_between whole 0 ends)) count
    ∙ ap₂ (λ (bytes places : List ℕ). build (length lists) (part_between bytes 0 places)) e f
    ∙ parts_from [] lists 0 refl

-- ---- By the lengths

-- A list cut by lengths.
unfoldable pub cut_by : (lengths whole : List ℕ) → List (List ℕ)
cut_by [] whole = []
cut_by (size ∷ lengths) whole = take size whole ∷ cut_by lengths (drop size whole)

-- The parts have those lengths.
pub lengths-cut_by : (lengths whole : List ℕ) → total lengths ≡ length whole → map length (cut_by lengths whole) ≡ lengths
unfolding total cut_by
lengths-cut_by [] whole e = refl
lengths-cut_by (size ∷ lengths) whole e =
    ap₂ ◌∷◌ (length-take-le size whole (omega arith))
    (lengths-cut_by lengths (drop size whole) (omega (arith, length-drop size whole)))

-- They make up the list.
pub flatten-cut_by : (lengths whole : List ℕ) → total lengths ≡ length whole → flatten (cut_by lengths whole) ≡ whole
unfolding total cut_by flatten
flatten-cut_by [] whole e = sym (no_length_lem whole (omega arith))
flatten-cut_by (size ∷ lengths) whole e =
    ap (λ (rest : List ℕ). take size whole ++ rest)
    (flatten-cut_by lengths (drop size whole) (omega (arith, length-drop size whole)))
    ∙ take-append-drop size whole

-- ---- By a test of the ends

-- The ends of lists whose lengths pass are without fault.
pub lists-ends : (step_wrong : ℕ → Bool) (whole ends : List ℕ) (lists : List (List ℕ)) → whole ≡ flatten lists
    → ends ≡ places_from 0 (map length lists) → any step_wrong (map length lists) ≡ false
    → ends_wrong_for step_wrong ends (length whole) ≡ false
lists-ends step_wrong whole ends lists e f pass =
    let lengths : List ℕ = map length lists in
    let none : 0 + total lengths ≡ total lengths = omega arith in
    let last : get_or (0 ∷ ends) (length ends) 0 ≡ length whole =
    ap₂ (λ (places : List ℕ) (n : ℕ). get_or (0 ∷ places) n 0) f (ap length f ∙ length-places 0 lengths)
    ∙ last-place 0 lengths
    ∙ none
    ∙ sym (ap length e ∙ length_flatten lists) in
    neither_or _ _ (ap (any step_wrong) (ap (steps_from 0) f ∙ steps_of-places 0 lengths) ∙ pass) (true_not _ (eq-eqb _ _ last))

-- Lists that make up a list between its ends.
pub record CutAt (step_wrong : ℕ → Bool) (whole ends : List ℕ) (lists : List (List ℕ)) : Type 0 where
  pub counted : length lists ≡ length ends
  pub pass : any step_wrong (map length lists) ≡ false
  pub whole_is : whole ≡ flatten lists
  pub ends_are : ends ≡ places_from 0 (map length lists)

-- Ends without fault cut a list into such lists, where no length of 0 passes.
pub ends-lists : (step_wrong : ℕ → Bool) → ((size : ℕ) → step_wrong size ≡ false → 0 < size) → (whole ends : List ℕ)
    → ends_wrong_for step_wrong ends (length whole) ≡ false → CutAt step_wrong whole ends (cut_by (steps_from 0 ends) whole)
ends-lists step_wrong some whole ends right =
    let lengths : List ℕ = steps_from 0 ends in
    let parts : (any step_wrong lengths ≡ false) × (not (eqb (get_or (0 ∷ ends) (length ends) 0) (length whole)) ≡ false)
    = or-neither _ _ right in
    let back : places_from 0 lengths ≡ ends
    = places_of-rising 0 ends (all_too (λ size. step_wrong size ≡ false) (λ size. 0 < size) some lengths (any-all step_wrong lengths parts.0)) in
    let none : total lengths ≡ 0 + total lengths = omega arith in
    let last : total lengths ≡ length whole =
    none
    ∙ sym (last-place 0 lengths)
    ∙ ap₂ (λ (places : List ℕ) (n : ℕ). get_or (0 ∷ places) n 0) back (length-steps_from 0 ends)
    ∙ eqb-true _ _ (not-false _ parts.1) in
    let sizes : map length (cut_by lengths whole) ≡ lengths = lengths-cut_by lengths whole last in
    record {
      counted = sym (length-map (cut_by lengths whole) length) ∙ ap length sizes ∙ length-steps_from 0 ends;
      pass = ap (any step_wrong) sizes ∙ parts.0;
      whole_is = sym (flatten-cut_by lengths whole last);
      ends_are = sym (ap (places_from 0) sizes ∙ back);
    }

-- Laws of the faults 32 and 33. Assumes nothing.
use mathlib.Core.Path.{◌≡◌, refl, sym, ap, ◌∙◌}
use Prim.Native.Nat.{ℕ, ◌+◌, ◌-◌, ◌≤◌, ◌<◌, min, max}
use native.Mathlib.Numerals.{add-one}
use native.Mathlib.Omega.{arith}
use mathlib.Core.Bool.{Bool, true, false, cond, not, ◌||◌}
use mathlib.Core.List.{List, [], ◌∷◌}
use lib.ListN.{length, get_or, take, drop}
use lib.Seq.{take-suc, drop-cons, drop-length}
use lib.Dec.{ltb, eqb}
use borrow.Author.Tests.{eq-eqb, ne_eqb, eqb-true, eqb-false}
use Rattle.std.specs.Int.{from_bool}
use Rattle.base.proofs.ListLaws.{by_test}
use Rattle.base.specs.Lists.{any, member, steps_from}
use Rattle.base.proofs.Tests.{any_append}
use Rattle.dna.specs.Reference.{alphabet}
use Rattle.dna.specs.Sizes.{max_read_length, length_invalid}

-- ---- 33

-- The smaller of two flags is 0 where one of two tests holds.
pub smaller-flags : (a b : Bool) → min (cond a 0 1) (cond b 0 1) ≡ cond (a || b) 0 1
smaller-flags true true = refl
smaller-flags true false = refl
smaller-flags false true = refl
smaller-flags false false = refl

-- The larger of two is 1 where the first says so, or the second that its test fails.
pub larger-flags : (a b : Bool) → max (cond a 1 0) (cond b 0 1) ≡ cond (a || (not b || false)) 1 0
larger-flags true true = refl
larger-flags true false = refl
larger-flags false true = refl
larger-flags false false = refl

-- A flag of two letters is 0 where they are equal.
pub differs-flag : (a b : ℕ) → ◌≡◌ {A = ℕ} (from_bool (not (eqb a b))) (cond (eqb b a) 0 1)
differs-flag a b =
    by_test (eqb a b) (λ t. rw (t, eq-eqb b a (sym (eqb-true a b t))) refl)
    (λ t. rw (t, ne_eqb b a (λ e. eqb-false a b t (sym e))) refl)

or-false : (a : Bool) → a || false ≡ a
or-false true = refl
or-false false = refl

-- The five letters.
pub letter-flag : (letter : ℕ)
    → min (cond (eqb 65 letter) 0 1) (min (cond (eqb 67 letter) 0 1) (min (cond (eqb 71 letter) 0 1)
    (min (cond (eqb 84 letter) 0 1) (cond (eqb 78 letter) 0 1))))
    ≡ cond (member letter alphabet) 0 1
unfolding member any
letter-flag letter =
    let a : Bool = eqb 65 letter in
    let c : Bool = eqb 67 letter in
    let g : Bool = eqb 71 letter in
    let t : Bool = eqb 84 letter in
    let n : Bool = eqb 78 letter in
    ap (λ (x : ℕ). min (cond a 0 1) (min (cond c 0 1) (min (cond g 0 1) x))) (smaller-flags t n)
    ∙ ap (λ (x : ℕ). min (cond a 0 1) (min (cond c 0 1) x)) (smaller-flags g (t || n))
    ∙ ap (λ (x : ℕ). min (cond a 0 1) x) (smaller-flags c (g || (t || n)))
    ∙ smaller-flags a (c || (g || (t || n)))
    ∙ ap (λ (x : Bool). cond (a || (c || (g || (t || x)))) 0 1) (sym (or-false n))

-- One more letter is looked at.
pub letters_turn : (letters : List ℕ) (i flag : ℕ) → i < length letters
    → flag ≡ cond (any (λ letter. not (member letter alphabet)) (take i letters)) 1 0
    → max flag (cond (member (get_or letters i 0) alphabet) 0 1)
    ≡ cond (any (λ letter. not (member letter alphabet)) (take (i + 1) letters)) 1 0
unfolding any
letters_turn letters i flag inside so =
    ap (λ (f : ℕ). max f (cond (member (get_or letters i 0) alphabet) 0 1)) so
    ∙ larger-flags (any (λ letter. not (member letter alphabet)) (take i letters))
    (member (get_or letters i 0) alphabet)
    ∙ ap (λ (t : Bool). cond t 1 0)
    (sym (any_append (λ letter. not (member letter alphabet)) (take i letters) (get_or letters i 0 ∷ []))
    ∙ ap (any (λ letter. not (member letter alphabet)))
    (sym (take-suc letters i 0 inside) ∙ ap (λ (k : ℕ). take k letters) (sym (add-one i))))

-- ---- 32

-- A read that has no letter.
pub step-none : (before end : ℕ) → end ≤ before → length_invalid (end - before) ≡ true
unfolding length_invalid
step-none before end low = rw (eq-eqb (end - before) 0 (omega arith)) refl

-- One more end is looked at.
pub ends-turn : (ends : List ℕ) (i before : ℕ) → i < length ends
    → any length_invalid (steps_from before (drop i ends))
    ≡ length_invalid (get_or ends i 0 - before)
    || any length_invalid (steps_from (get_or ends i 0) (drop (i + 1) ends))
unfolding any steps_from
ends-turn ends i before inside =
    ap (λ (rest : List ℕ). any length_invalid (steps_from before rest))
    (drop-cons ends i 0 inside ∙ ap (λ (k : ℕ). get_or ends i 0 ∷ drop k ends) (sym (add-one i)))

-- A read of some letters has too many, or a length.
pub step-some : (before end : ℕ) → before < end
    → length_invalid (end - before) ≡ ltb max_read_length (end - before)
unfolding length_invalid
step-some before end more = rw (ne_eqb (end - before) 0 (λ e. omega arith)) refl

-- What an end gives: the first that is wrong decides.
pub ends_refused : (ends : List ℕ) (i before letters : ℕ) → i < length ends
    → any length_invalid (steps_from 0 ends) ≡ any length_invalid (steps_from before (drop i ends))
    → length_invalid (get_or ends i 0 - before) ≡ true
    → true ≡ any length_invalid (steps_from 0 ends)
    || not (eqb (get_or (0 ∷ ends) (length ends) 0) letters)
ends_refused ends i before letters inside so wrong =
    sym (ap (λ (t : Bool). t || not (eqb (get_or (0 ∷ ends) (length ends) 0) letters))
    (so ∙ ends-turn ends i before inside
    ∙ ap (λ (t : Bool). t || any length_invalid (steps_from (get_or ends i 0) (drop (i + 1) ends))) wrong))

pub ends-passed : (ends : List ℕ) (i before : ℕ) → i < length ends
    → length_invalid (get_or ends i 0 - before) ≡ false
    → any length_invalid (steps_from before (drop i ends))
    ≡ any length_invalid (steps_from (get_or ends i 0) (drop (i + 1) ends))
ends-passed ends i before inside right =
    ends-turn ends i before inside
    ∙ ap (λ (t : Bool). t || any length_invalid (steps_from (get_or ends i 0) (drop (i + 1) ends))) right

-- After the last end there is none.
pub ends-end : (ends : List ℕ) (i before letters : ℕ) → i ≡ length ends
    → before ≡ get_or (0 ∷ ends) i 0
    → any length_invalid (steps_from 0 ends) ≡ any length_invalid (steps_from before (drop i ends))
    → not (eqb before letters)
    ≡ any length_invalid (steps_from 0 ends) || not (eqb (get_or (0 ∷ ends) (length ends) 0) letters)
unfolding any steps_from
ends-end ends i before letters all last so =
    ap (λ (n : ℕ). not (eqb n letters)) (last ∙ ap (λ (k : ℕ). get_or (0 ∷ ends) k 0) all)
    ∙ ap (λ (t : Bool). t || not (eqb (get_or (0 ∷ ends) (length ends) 0) letters))
    (sym (so ∙ ap (λ (rest : List ℕ). any length_invalid (steps_from before rest))
    (ap (λ (k : ℕ). drop k ends) all ∙ drop-length ends)))

-- A flag says what its test says.
pub flag-shown : (test : Bool) (flag : ℕ) → flag ≡ cond test 1 0 → not (eqb flag 0) ≡ test
flag-shown true flag e = rw e refl
flag-shown false flag e = rw e refl

-- Places at which a test holds, and the steps that lead to them. Assumes nothing.
use mathlib.Core.Path.{◌≡◌, refl, sym, ap, ap₂, ◌∙◌, subst}
use Prim.Native.Nat.{ℕ, zero, suc, ◌+◌, ◌-◌, ◌≤◌, ◌<◌}
use native.Mathlib.Omega.{arith}
use native.Mathlib.Nat.{zero-add}
use mathlib.Core.Bool.{Bool, true, false, cond, ◌||◌}
use mathlib.Core.List.{List, [], ◌∷◌}
use lib.ListN.{length}
use lib.Dec.{eqb}
use borrow.Author.Tests.{eq-eqb, ne_eqb}
use Rattle.base.specs.Lists.{build, any, member, keep, places_where, places_from, steps_from}
use Rattle.base.specs.Lists.{All}
use Rattle.base.proofs.ListLaws.{by_order, by_test, build_cong}
use Rattle.base.proofs.Tests.{absurd_test, or-neither, neither_or, or_right}

-- The n numbers from s on.
unfoldable pub count_up : (s n : ℕ) → List ℕ
count_up s zero = []
count_up s (suc n) = s ∷ count_up (suc s) n

count-build : (s n : ℕ) → build n (λ k. s + k) ≡ count_up s n
unfolding build count_up
count-build s zero = refl
count-build s (suc n) =
    let z : s + 0 ≡ s = omega arith in
    ap₂ ◌∷◌ z
    (build_cong n (λ k. s + suc k) (λ k. suc s + k) (λ k h. let e : s + suc k ≡ suc s + k = omega arith in e)
    ∙ count-build (suc s) n)

pub places_count : (test : ℕ → Bool) (n : ℕ) → places_where test n ≡ keep test (count_up 0 n)
unfolding places_where
places_count test n =
    ap (keep test) (build_cong n (λ k. k) (λ k. 0 + k) (λ k h. sym (zero-add k)) ∙ count-build 0 n)

-- Places that rise from `low` on, below a bound.
abbrev pub Rise : (low bound : ℕ) (places : List ℕ) → Type 0
Rise low bound [] = Unit {0}
Rise low bound (place ∷ places) = (low ≤ place) × (place < bound) × Rise (suc place) bound places

pub rise_weaken : (low lower bound : ℕ) (places : List ℕ) → lower ≤ low → Rise low bound places → Rise lower bound places
rise_weaken low lower bound [] h r = tt
rise_weaken low lower bound (place ∷ places) h r = (omega (arith, r.0), r.1, r.2)

keep-rises : (test : ℕ → Bool) (s n bound : ℕ) → s + n ≤ bound → Rise s bound (keep test (count_up s n))
unfolding keep count_up
keep-rises test s zero bound h = tt
keep-rises test s (suc n) bound h =
    let more : Rise (suc s) bound (keep test (count_up (suc s) n)) = keep-rises test (suc s) n bound (omega arith) in
    by_test (test s) (λ t. rw t (omega arith, omega arith, more))
    (λ t. rw t (rise_weaken (suc s) s bound (keep test (count_up (suc s) n)) (omega arith) more))

pub places_rise : (test : ℕ → Bool) (n : ℕ) → Rise 0 n (places_where test n)
places_rise test n =
    subst (λ (places : List ℕ). Rise 0 n places) (sym (places_count test n)) (keep-rises test 0 n n (omega arith))

-- A number below all places is none of them.
pub member-low : (x low bound : ℕ) (places : List ℕ) → x < low → Rise low bound places → member x places ≡ false
unfolding member any
member-low x low bound [] h r = refl
member-low x low bound (place ∷ places) h r =
    neither_or _ _ (ne_eqb place x (omega (arith, r.0))) (member-low x (suc place) bound places (omega (arith, r.0)) r.2)

member-keep : (test : ℕ → Bool) (s n x : ℕ) → s ≤ x → x < s + n → member x (keep test (count_up s n)) ≡ test x
unfolding member any keep count_up
member-keep test s zero x low high = absurd (omega arith)
member-keep test s (suc n) x low high =
    by_order s x
    (λ less.
    let ih : member x (keep test (count_up (suc s) n)) ≡ test x = member-keep test (suc s) n x less (omega arith) in
    by_test (test s)
    (λ t. rw t (ap (λ (b : Bool). b || member x (keep test (count_up (suc s) n))) (ne_eqb s x (omega arith)) ∙ ih))
    (λ t. rw t ih))
    (λ more.
    let is : s ≡ x = omega arith in
    by_test (test s)
    (λ t. rw t (ap (λ (b : Bool). b || member x (keep test (count_up (suc s) n))) (eq-eqb s x is) ∙ sym (ap test (sym is) ∙ t)))
    (λ t.
    rw t
    (member-low x (suc s) (suc s + n) (keep test (count_up (suc s) n)) (omega arith) (keep-rises test (suc s) n (suc s + n) (omega arith))
    ∙ sym (ap test (sym is) ∙ t))))

no-places : (n : ℕ) (places : List ℕ) → Rise 0 n places → ((x : ℕ) → x < n → member x places ≡ false) → places ≡ []
unfolding member any
no-places n [] r none = refl
no-places n (x ∷ xs) r none = absurd_test (sym (eq-eqb x x refl) ∙ (or-neither (eqb x x) _ (none x r.1)).0)

-- A place is among those at which the test holds exactly if it holds there.
pub member-places : (test : ℕ → Bool) (n x : ℕ) → x < n → member x (places_where test n) ≡ test x
member-places test n x h = ap (member x) (places_count test n) ∙ member-keep test 0 n x (omega arith) (omega arith)

-- A test that holds nowhere has no place.
pub places_none : (test : ℕ → Bool) (n : ℕ) → ((k : ℕ) → k < n → test k ≡ false) → places_where test n ≡ []
places_none test n none =
    no-places n (places_where test n) (places_rise test n) (λ x h. member-places test n x h ∙ none x h)

one_place : (low n x : ℕ) (places : List ℕ) → Rise low n places → member x places ≡ true
    → ((k : ℕ) → k < n → member k places ≡ true → k ≡ x) → places ≡ x ∷ []
unfolding member any
one_place low n x [] r is alone = absurd_test (sym is)
one_place low n x (y ∷ []) r is alone =
    ap (λ (z : ℕ). z ∷ []) (alone y r.1 (ap (λ (b : Bool). b || false) (eq-eqb y y refl)))
one_place low n x (y ∷ (z ∷ places)) r is alone =
    let first : y ≡ x = alone y r.1 (ap (λ (b : Bool). b || member y (z ∷ places)) (eq-eqb y y refl)) in
    let second : z ≡ x =
    alone z r.2.1 (or_right (eqb y z) _ (ap (λ (b : Bool). b || member z places) (eq-eqb z z refl))) in
    absurd (omega (arith, r.2.0))

-- A test that holds at one place has that one.
pub places-one : (test : ℕ → Bool) (n x : ℕ) → x < n → test x ≡ true → ((k : ℕ) → k < n → test k ≡ true → k ≡ x)
    → places_where test n ≡ x ∷ []
places-one test n x h is alone =
    one_place 0 n x (places_where test n) (places_rise test n) (member-places test n x h ∙ is)
    (λ k l t. alone k l (sym (member-places test n k l) ∙ t))

-- Steps lead back to the places that they were taken from.
pub places-steps : (start low bound : ℕ) (places : List ℕ) → start ≤ low → Rise low bound places
    → places_from start (steps_from start places) ≡ places
unfolding places_from steps_from
places-steps start low bound [] h r = refl
places-steps start low bound (place ∷ places) h r =
    let back : start + (place - start) ≡ place = omega (arith, r.0) in
    rw back (ap (λ (rest : List ℕ). place ∷ rest) (places-steps place (suc place) bound places (omega arith) r.2))

-- A test that holds nowhere keeps nothing, and one that holds somewhere keeps something.
pub any-places : (test : ℕ → Bool) (list : List ℕ) → length (keep test list) ≡ 0 → any test list ≡ false
unfolding any keep
any-places test [] e = refl
any-places test (x ∷ xs) e =
    by_test (test x) (λ t. absurd (let h : length (x ∷ keep test xs) ≡ 0 = rw t at e in omega arith))
    (λ t. neither_or (test x) _ t (any-places test xs (rw t at e)))

pub places-any : (test : ℕ → Bool) (list : List ℕ) → any test list ≡ false → keep test list ≡ []
unfolding any keep
places-any test [] e = refl
places-any test (x ∷ xs) e =
    let parts = or-neither (test x) _ e in
    rw parts.0 (places-any test xs parts.1)

-- What follows from the test holds of all that it keeps.
pub all_keep : (P : ℕ → Type 0) (test : ℕ → Bool) (list : List ℕ) → ((x : ℕ) → test x ≡ true → P x) → All P (keep test list)
unfolding keep
all_keep P test [] h = tt
all_keep P test (x ∷ xs) h =
    by_test (test x) (λ t. rw t (h x t, all_keep P test xs h)) (λ t. rw t (all_keep P test xs h))

-- Two tests that agree on every element keep the same.
pub keep_same : (test other : ℕ → Bool) (list : List ℕ) → All (λ k. test k ≡ other k) list
    → keep test list ≡ keep other list
unfolding keep
keep_same test other [] same = refl
keep_same test other (x ∷ xs) same =
    ap₂ (λ (t : Bool) (rest : List ℕ). cond t (x ∷ rest) rest) same.0 (keep_same test other xs same.1)

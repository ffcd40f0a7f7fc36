-- Claims on every element: of mapped lists, of lists of lists, and as tests. Assumes nothing.
use mathlib.Core.Path.{◌≡◌, refl, sym, ◌∙◌, subst}
use Prim.Native.Nat.{ℕ, zero, suc, ◌*◌, ◌≤◌, ◌<◌}
use native.Mathlib.Nat.{mul-suc}
use native.Mathlib.Omega.{arith}
use mathlib.Core.Bool.{Bool, true, false, not}
use mathlib.Core.List.{List, [], ◌∷◌, map, flatten, flat_map}
use lib.ListN
use lib.ListN.{length, get_or, length-append, length-map}
use Rattle.base.specs.Lists.{any, All, Below}
use Rattle.base.proofs.ListLaws.{get_or-inside, all_append, all_left, all_right, below-nil, below-cons, below-append}
use Rattle.base.proofs.Tests.{or-neither, neither_or, not-false, true_not}

-- ---- Claims

-- A claim that follows from another.
pub all_too {ℓ} : {A : Type ℓ} (P Q : A → Type 0) → ((x : A) → P x → Q x) → (list : List A) → All P list → All Q list
all_too P Q more [] h = tt
all_too P Q more (x ∷ xs) h = (more x h.0, all_too P Q more xs h.1)

-- A claim that holds of everything.
pub all-each {ℓ} : {A : Type ℓ} (P : A → Type 0) → ((x : A) → P x) → (list : List A) → All P list
all-each P h [] = tt
all-each P h (x ∷ xs) = (h x, all-each P h xs)

-- A claim on each image.
pub all_map {ℓ κ} : {A : Type ℓ} {B : Type κ} (P : A → Type 0) (Q : B → Type 0) (f : A → B) → ((x : A) → P x → Q (f x))
    → (list : List A) → All P list → All Q (map f list)
all_map P Q f more [] h = tt
all_map P Q f more (x ∷ xs) h = (more x h.0, all_map P Q f more xs h.1)

-- What holds of all that some lists make up holds of all of each.
pub flatten-all {ℓ} : {A : Type ℓ} (P : A → Type 0) (lists : List (List A)) → All P (flatten lists) → All (All P) lists
unfolding flatten
flatten-all P [] h = tt
flatten-all P (list ∷ lists) h = (all_left P list (flatten lists) h, flatten-all P lists (all_right P list (flatten lists) h))

-- And back.
pub all_flatten {ℓ} : {A : Type ℓ} (P : A → Type 0) (lists : List (List A)) → All (All P) lists → All P (flatten lists)
unfolding flatten
all_flatten P [] h = tt
all_flatten P (list ∷ lists) h = all_append P list (flatten lists) h.0 (all_flatten P lists h.1)

-- A test that fails of none holds of all.
pub none-all {ℓ} : {A : Type ℓ} (test : A → Bool) (list : List A) → any (λ x. not (test x)) list ≡ false → All (λ x. test x ≡ true) list
unfolding any
none-all test [] e = tt
none-all test (x ∷ xs) e =
    let parts = or-neither (not (test x)) _ e in
    (not-false _ parts.0, none-all test xs parts.1)

-- A test that holds of all fails of none.
pub all_none {ℓ} : {A : Type ℓ} (test : A → Bool) (list : List A) → All (λ x. test x ≡ true) list → any (λ x. not (test x)) list ≡ false
unfolding any
all_none test [] h = refl
all_none test (x ∷ xs) h = neither_or _ _ (true_not _ h.0) (all_none test xs h.1)

-- A bound on every element.
pub all-below : (bound : ℕ) (list : List ℕ) → All (λ x. x < bound) list → Below bound list
all-below bound [] h = below-nil bound
all-below bound (x ∷ xs) h = below-cons x xs h.0 (all-below bound xs h.1)

-- ---- Lists

-- One of some lists is no longer than all together.
pub length_flatten-one {ℓ} : {A : Type ℓ} (lists : List (List A)) (k : ℕ) → length (get_or lists k []) ≤ length (flatten lists)
unfolding flatten
length_flatten-one [] k = omega arith
length_flatten-one (list ∷ lists) zero = omega (arith, length-append list (flatten lists))
length_flatten-one (list ∷ lists) (suc k) = omega (arith, length-append list (flatten lists), length_flatten-one lists k)

-- There are no more lists than elements where none is empty.
pub length_flatten-some {ℓ} : {A : Type ℓ} (lists : List (List A)) → All (λ list. 0 < length list) lists
    → length lists ≤ length (flatten lists)
unfolding flatten
length_flatten-some [] h = omega arith
length_flatten-some (list ∷ lists) h =
    omega (arith, h.0, length-append list (flatten lists), length_flatten-some lists h.1)

-- Inside a mapped list.
pub get_or-map_any {ℓ κ} : {A : Type ℓ} {B : Type κ} (f : A → B) (list : List A) (k : ℕ) (d : A) (e : B) → k < length list
    → get_or (map f list) k e ≡ f (get_or list k d)
get_or-map_any f list k d e h =
    get_or-inside (map f list) k e (f d) (subst (λ (n : ℕ). k < n) (sym (length-map list f)) h) ∙ ListN.get_or-map f list k d

-- A bound on the elements of each part.
pub below-flat_map {ℓ} : {A : Type ℓ} (bound : ℕ) (f : A → List ℕ) (list : List A) → All (λ x. Below bound (f x)) list
    → Below bound (flat_map f list)
unfolding flat_map
below-flat_map bound f [] h = below-nil bound
below-flat_map bound f (x ∷ xs) h = below-append (f x) (flat_map f xs) h.0 (below-flat_map bound f xs h.1)

-- Parts of at most so many elements each.
pub length-flat_map-most {ℓ} : {A : Type ℓ} (most : ℕ) (f : A → List ℕ) (list : List A) → All (λ x. length (f x) ≤ most) list
    → length (flat_map f list) ≤ most * length list
unfolding flat_map
length-flat_map-most most f [] h = omega arith
length-flat_map-most most f (x ∷ xs) h =
    let rest : length (flat_map f xs) ≤ most * length xs = length-flat_map-most most f xs h.1 in
    omega (arith, h.0, length-append (f x) (flat_map f xs), mul-suc most (length xs))

-- ---- By two claims, by images, by tests and by indices

-- A claim that follows from two.
pub all_two {ℓ} : {A : Type ℓ} (P Q R : A → Type 0) → ((x : A) → P x → Q x → R x) → (list : List A) → All P list → All Q list
    → All R list
all_two P Q R law [] h k = tt
all_two P Q R law (x ∷ xs) h k = (law x h.0 k.0, all_two P Q R law xs h.1 k.1)

-- What holds of every image.
pub map-all {ℓ κ} : {A : Type ℓ} {B : Type κ} (P : B → Type 0) (f : A → B) (list : List A) → All P (map f list)
    → All (λ x. P (f x)) list
map-all P f [] h = tt
map-all P f (x ∷ xs) h = (h.0, map-all P f xs h.1)

-- A test that holds of none fails of every one.
pub any-all {ℓ} : {A : Type ℓ} (test : A → Bool) (list : List A) → any test list ≡ false → All (λ x. test x ≡ false) list
unfolding any
any-all test [] e = tt
any-all test (x ∷ xs) e =
    let both = or-neither (test x) (any test xs) e in
    (both.0, any-all test xs both.1)

-- A test that fails of every one holds of none.
pub all_any {ℓ} : {A : Type ℓ} (test : A → Bool) (list : List A) → All (λ x. test x ≡ false) list → any test list ≡ false
unfolding any
all_any test [] h = refl
all_any test (x ∷ xs) h = neither_or (test x) (any test xs) h.0 (all_any test xs h.1)

-- A claim at every index holds of every element.
pub get_or-all {ℓ} : {A : Type ℓ} (P : A → Type 0) (list : List A) (d : A) → ((k : ℕ) → k < length list → P (get_or list k d))
    → All P list
get_or-all P [] d h = tt
get_or-all P (x ∷ xs) d h = (h 0 (omega arith), get_or-all P xs d (λ k l. h (suc k) (omega arith)))

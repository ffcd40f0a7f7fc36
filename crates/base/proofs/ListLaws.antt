-- Laws of lists by index. Assumes nothing.
use mathlib.Core.Path.{◌≡◌, refl, sym, ap, ap₂, ◌∙◌, subst}
use Prim.Native.Nat.{ℕ, zero, suc, ◌+◌, ◌-◌, ◌≤◌, ◌<◌}
use native.Mathlib.Nat.{add-zero, not-suc-le-zero, le_of_suc-le-suc, lt_of_not-le}
use native.Mathlib.Decide.{dec_le}
use native.Mathlib.Omega.{arith}
use mathlib.Core.Bool.{Bool, true, false, cond}
use mathlib.Core.List.{List, [], ◌∷◌, ◌++◌, map}
use lib.ListN.{length, get_or, take, drop, length-append, length-take, length-drop, get_or-append}
use lib.ListN.{get_or-eq_default}
use lib.Seq.{get_or-append-add, get_or-take, get_or-drop}
use Rattle.base.specs.Lists.{build, count_true, Below, All}

-- Two numbers are in one order or the other.
pub by_order {ℓ} : {X : Type ℓ} (a b : ℕ) → (a < b → X) → (b ≤ a → X) → X
by_order a b less more = elim (dec_le b a) [ yes h ↦ more h | no h ↦ less (lt_of_not-le h) ]

-- A test is true or false.
pub by_test {ℓ} : {X : Type ℓ} (test : Bool) → (test ≡ true → X) → (test ≡ false → X) → X
by_test true yes' no' = yes' refl
by_test false yes' no' = no' refl

-- A list without length is empty.
pub no_length_lem {ℓ} : {A : Type ℓ} (list : List A) → length list ≤ 0 → list ≡ []
no_length_lem [] h = refl
no_length_lem (x ∷ xs) h = absurd (omega arith)

-- ---- build

pub length-build {ℓ} : {A : Type ℓ} (n : ℕ) (f : ℕ → A) → length (build n f) ≡ n
unfolding build
length-build zero f = refl
length-build (suc n) f = ap suc (length-build n (λ k. f (suc k)))

pub get_or-build {ℓ} : {A : Type ℓ} (n : ℕ) (f : ℕ → A) (i : ℕ) (d : A) → i < n → get_or (build n f) i d ≡ f i
unfolding build
get_or-build zero f i d h = absurd (not-suc-le-zero h)
get_or-build (suc n) f zero d h = refl
get_or-build (suc n) f (suc i) d h = get_or-build n (λ k. f (suc k)) i d (le_of_suc-le-suc h)

pub build_cong {ℓ} : {A : Type ℓ} (n : ℕ) (f g : ℕ → A) → ((k : ℕ) → k < n → f k ≡ g k) → build n f ≡ build n g
unfolding build
build_cong zero f g h = refl
build_cong (suc n) f g h =
    ap₂ ◌∷◌ (h 0 (omega arith))
    (build_cong n (λ k. f (suc k)) (λ k. g (suc k)) (λ k l. h (suc k) (omega arith)))

pub build-append {ℓ} : {A : Type ℓ} (m n : ℕ) (f : ℕ → A)
    → build (m + n) f ≡ build m f ++ build n (λ k. f (m + k))
unfolding build
build-append zero n f =
    let e : 0 + n ≡ n = omega arith in
    ap (λ (k : ℕ). build k f) e
    ∙ build_cong n f (λ k. f (0 + k)) (λ k h. let z : k ≡ 0 + k = omega arith in ap f z)
build-append (suc m) n f =
    let e : suc m + n ≡ suc (m + n) = omega arith in
    ap (λ (k : ℕ). build k f) e
    ∙ ap (λ (rest : List _). f zero ∷ rest)
    (build-append m n (λ k. f (suc k))
    ∙ ap (λ (rest : List _). build m (λ k. f (suc k)) ++ rest)
    (build_cong n (λ k. f (suc (m + k))) (λ k. f (suc m + k))
    (λ k h. let z : suc (m + k) ≡ suc m + k = omega arith in ap f z)))

-- One element more.
pub build-snoc {ℓ} : {A : Type ℓ} (n : ℕ) (f : ℕ → A) → build (n + 1) f ≡ build n f ++ (f n ∷ [])
unfolding build
build-snoc n f = build-append n 1 f ∙ ap (λ (x : _). build n f ++ (x ∷ [])) (ap f (add-zero n))

-- A list is what stands at its indices.
pub build_get_or {ℓ} : {A : Type ℓ} (list : List A) (d : A) → build (length list) (λ k. get_or list k d) ≡ list
unfolding build
build_get_or [] d = refl
build_get_or (x ∷ xs) d = ap (λ (rest : List _). x ∷ rest) (build_get_or xs d)

-- Inside a list the default does not matter.
pub get_or-inside {ℓ} : {A : Type ℓ} (list : List A) (k : ℕ) (d e : A) → k < length list → get_or list k d ≡ get_or list k e
get_or-inside [] k d e h = absurd (not-suc-le-zero h)
get_or-inside (x ∷ xs) zero d e h = refl
get_or-inside (x ∷ xs) (suc k) d e h = get_or-inside xs k d e (le_of_suc-le-suc h)

-- ---- count_true

pub count_true-cons : (test : Bool) (tests : List Bool) → count_true (test ∷ tests) ≡ cond test 1 0 + count_true tests
unfolding count_true
count_true-cons true tests = omega arith
count_true-cons false tests = omega arith

-- ---- Below

-- Past the end the default is 0, so a bound above 0 holds there too.
pub below_at : {bound : ℕ} (list : List ℕ) → 0 < bound → Below bound list → (k : ℕ) → get_or list k 0 < bound
below_at {bound} list some h k =
    by_order k (length list) (h.each k)
    (λ past. subst (λ (x : ℕ). x < bound) (sym (get_or-eq_default list 0 past)) some)

pub below-nil : (bound : ℕ) → Below bound []
below-nil bound = record { each = λ k h. absurd (not-suc-le-zero h) }

pub below-cons : {bound : ℕ} (x : ℕ) (list : List ℕ) → x < bound → Below bound list → Below bound (x ∷ list)
below-cons x list h more = record { each = elim [ zero ↦ λ l. h | suc j ↦ λ l. more.each j (le_of_suc-le-suc l) ] }

pub below-append : {bound : ℕ} (front back : List ℕ) → Below bound front → Below bound back → Below bound (front ++ back)
below-append {bound} front back f b =
    record {
      each = λ k h.
          by_order k (length front)
          (λ l. subst (λ (x : ℕ). x < bound) (sym (get_or-append front back 0 k l)) (f.each k l))
          (λ g.
          let e : k ≡ length front + (k - length front) = omega arith in
          subst (λ (x : ℕ). x < bound)
          (sym (ap (λ (m : ℕ). get_or (front ++ back) m 0) e ∙ get_or-append-add front back (k - length front) 0))
          (b.each (k - length front) (omega (arith, length-append front back))));
    }

pub below-build : {bound : ℕ} (n : ℕ) (f : ℕ → ℕ) → ((k : ℕ) → f k < bound) → Below bound (build n f)
below-build {bound} n f h =
    record {
      each = λ k l.
          subst (λ (x : ℕ). x < bound) (sym (get_or-build n f k 0 (subst (λ (m : ℕ). k < m) (length-build n f) l))) (h k);
    }

pub below-take : {bound : ℕ} (list : List ℕ) (n : ℕ) → Below bound list → Below bound (take n list)
below-take {bound} list n h =
    record {
      each = λ k l.
          let small : k < n = omega (arith, length-take n list) in
          subst (λ (x : ℕ). x < bound) (sym (get_or-take n list k 0 small)) (h.each k (omega (arith, length-take n list)));
    }

pub below-drop : {bound : ℕ} (list : List ℕ) (n : ℕ) → Below bound list → Below bound (drop n list)
below-drop {bound} list n h =
    record {
      each = λ k l.
          subst (λ (x : ℕ). x < bound) (sym (get_or-drop n list k 0)) (h.each (n + k) (omega (arith, length-drop n list)));
    }

-- ---- All

pub all_get_or {ℓ} : {A : Type ℓ} (P : A → Type 0) (list : List A) (d : A) → All P list → (k : ℕ) → k < length list → P (get_or list k d)
all_get_or P [] d h k l = absurd (not-suc-le-zero l)
all_get_or P (x ∷ xs) d h zero l = h.0
all_get_or P (x ∷ xs) d h (suc k) l = all_get_or P xs d h.1 k (le_of_suc-le-suc l)

pub all_build {ℓ} : {A : Type ℓ} (P : A → Type 0) (n : ℕ) (f : ℕ → A) → ((k : ℕ) → k < n → P (f k)) → All P (build n f)
unfolding build
all_build P zero f h = tt
all_build P (suc n) f h = (h 0 (omega arith), all_build P n (λ k. f (suc k)) (λ k l. h (suc k) (omega arith)))

pub all_append {ℓ} : {A : Type ℓ} (P : A → Type 0) (front back : List A) → All P front → All P back → All P (front ++ back)
all_append P [] back f b = b
all_append P (x ∷ xs) back f b = (f.0, all_append P xs back f.1 b)

pub all_left {ℓ} : {A : Type ℓ} (P : A → Type 0) (front back : List A) → All P (front ++ back) → All P front
all_left P [] back h = tt
all_left P (x ∷ xs) back h = (h.0, all_left P xs back h.1)

pub all_right {ℓ} : {A : Type ℓ} (P : A → Type 0) (front back : List A) → All P (front ++ back) → All P back
all_right P [] back h = h
all_right P (x ∷ xs) back h = all_right P xs back h.1

-- Two functions that agree on every element of a list map it alike.
pub map_same : {A B : Type 0} (P : A → Type 0) (f g : A → B) → ((x : A) → P x → f x ≡ g x) → (list : List A)
    → All P list → map f list ≡ map g list
map_same P f g h [] all = refl
map_same P f g h (x ∷ xs) all = ap₂ ◌∷◌ (h x all.0) (map_same P f g h xs all.1)

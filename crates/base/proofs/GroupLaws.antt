-- Groups of eight: the first eight, then the groups of the rest. Assumes nothing.
use mathlib.Core.Path.{◌≡◌, refl, sym, ap, ap₂, ◌∙◌, subst}
use Prim.Native.Nat.{ℕ, zero, suc, ◌+◌, ◌*◌, ◌/◌, ◌≤◌, ◌<◌, min}
use native.Mathlib.Omega.{arith}
use mathlib.Core.List.{List, [], ◌∷◌, ◌++◌, map, flatten, nil≢cons, cons≢nil, head-eq_of_cons-eq}
use mathlib.Core.List.{tail-eq_of_cons-eq}
use lib.ListN.{length, take, drop, replicate, length-take, length-drop, length-append, length-map}
use lib.ListN.{length-replicate, take-append-drop}
use lib.Seq.{drop-drop, take_at, drop_at}
use Rattle.base.specs.Lists.{build, part, total, All}
use Rattle.base.specs.Groups.{group_count, in_groups, group_sizes}
use Rattle.base.proofs.ListLaws.{length-build, build_cong, all_build}

pub in_groups-nil {ℓ} : {A : Type ℓ} → in_groups {A = A} [] ≡ []
unfolding in_groups group_count build
in_groups-nil = refl

pub in_groups-cons {ℓ} : {A : Type ℓ} (x : A) (xs : List A)
    → in_groups (x ∷ xs) ≡ take 8 (x ∷ xs) ∷ in_groups (drop 8 (x ∷ xs))
unfolding in_groups group_count build
in_groups-cons x xs =
    let all : List _ = x ∷ xs in
    let count : (length all + 7) / 8 ≡ suc ((length (drop 8 all) + 7) / 8) = omega (arith, length-drop 8 all) in
    ap (λ (n : ℕ). build n (λ g. part all (8 * g) 8)) count
    ∙ ap₂ ◌∷◌ refl
    (build_cong ((length (drop 8 all) + 7) / 8) _ _
    (λ g h.
    let e : 8 * suc g ≡ 8 + 8 * g = omega arith in
    ap (λ (n : ℕ). take 8 (drop n all)) e ∙ ap (take 8) (sym (drop-drop (8 * g) 8 all))))

pub length-in_groups {ℓ} : {A : Type ℓ} (list : List A) → length (in_groups list) ≡ group_count (length list)
unfolding in_groups
length-in_groups list = length-build _ _

-- A claim that holds of no reads, and of a list if it holds of what follows its first eight, holds of all.
by-groups-within {ℓ κ} : {A : Type ℓ} (P : List A → Type κ) → P [] → ((x : A) (xs : List A) → P (drop 8 (x ∷ xs)) → P (x ∷ xs))
    → (n : ℕ) (list : List A) → length list ≤ n → P list
by-groups-within P none more zero [] h = none
by-groups-within P none more zero (x ∷ xs) h = absurd (omega arith)
by-groups-within P none more (suc n) [] h = none
by-groups-within P none more (suc n) (x ∷ xs) h =
    more x xs (by-groups-within P none more n (drop 8 (x ∷ xs)) (omega (arith, length-drop 8 (x ∷ xs))))

pub by-groups {ℓ κ} : {A : Type ℓ} (P : List A → Type κ) → P [] → ((x : A) (xs : List A) → P (drop 8 (x ∷ xs)) → P (x ∷ xs))
    → (list : List A) → P list
by-groups P none more list = by-groups-within P none more (length list) list (omega arith)

-- The groups make up the list.
pub flatten-in_groups {ℓ} : {A : Type ℓ} (list : List A) → flatten (in_groups list) ≡ list
unfolding flatten
flatten-in_groups =
    by-groups (λ list. flatten (in_groups list) ≡ list) (ap flatten in_groups-nil)
    (λ x xs ih.
    ap flatten (in_groups-cons x xs)
    ∙ ap (λ (rest : List _). take 8 (x ∷ xs) ++ rest) ih
    ∙ take-append-drop 8 (x ∷ xs))

-- ---- Claims on every element

pub all_take {ℓ} : {A : Type ℓ} (P : A → Type 0) (n : ℕ) (list : List A) → All P list → All P (take n list)
all_take P zero list h = tt
all_take P (suc n) [] h = tt
all_take P (suc n) (x ∷ xs) h = (h.0, all_take P n xs h.1)

pub all_drop {ℓ} : {A : Type ℓ} (P : A → Type 0) (n : ℕ) (list : List A) → All P list → All P (drop n list)
all_drop P zero list h = h
all_drop P (suc n) [] h = tt
all_drop P (suc n) (x ∷ xs) h = all_drop P n xs h.1

pub all-in_groups {ℓ} : {A : Type ℓ} (P : A → Type 0) (list : List A) → All P list → All (All P) (in_groups list)
all-in_groups {A} P =
    by-groups (λ (list : List A). All P list → All (All P) (in_groups list))
    (λ h. subst (λ (groups : List (List A)). All (All P) groups) (sym in_groups-nil) tt)
    (λ x xs ih h.
    subst (λ (groups : List (List A)). All (All P) groups) (sym (in_groups-cons x xs))
    (all_take P 8 (x ∷ xs) h, ih (all_drop P 8 (x ∷ xs) h)))

-- ---- Sizes of groups

pub map-build {ℓ κ} : {A : Type ℓ} {B : Type κ} (f : A → B) (n : ℕ) (g : ℕ → A) → map f (build n g) ≡ build n (λ k. f (g k))
unfolding build
map-build f zero g = refl
map-build f (suc n) g = ap (λ (rest : List _). f (g zero) ∷ rest) (map-build f n (λ k. g (suc k)))

-- The sizes of the groups of a list.
pub sizes-in_groups {ℓ} : {A : Type ℓ} (list : List A) → map length (in_groups list) ≡ group_sizes (length list)
unfolding in_groups group_sizes
sizes-in_groups list =
    map-build length (group_count (length list)) (λ g. part list (8 * g) 8)
    ∙ build_cong (group_count (length list)) _ _
    (λ g h. length-take 8 (drop (8 * g) list) ∙ ap (min 8) (length-drop (8 * g) list))

pub length_flatten {ℓ} : {A : Type ℓ} (groups : List (List A)) → length (flatten groups) ≡ total (map length groups)
unfolding flatten total
length_flatten [] = refl
length_flatten (group ∷ groups) = length-append group (flatten groups) ∙ ap (λ (n : ℕ). length group + n) (length_flatten groups)

pub total-group_sizes : (n : ℕ) → total (group_sizes n) ≡ n
total-group_sizes n =
    let zeros : List ℕ = replicate n 0 in
    ap (λ (m : ℕ). total (group_sizes m)) (sym (length-replicate n 0))
    ∙ ap total (sym (sizes-in_groups zeros))
    ∙ sym (length_flatten (in_groups zeros))
    ∙ ap length (flatten-in_groups zeros)
    ∙ length-replicate n 0

-- Lists of the same sizes that make up the same list are the same.
pub flatten-same {ℓ} : {A : Type ℓ} (ones others : List (List A)) → map length ones ≡ map length others → flatten ones ≡ flatten others
    → ones ≡ others
unfolding flatten
flatten-same [] [] sizes e = refl
flatten-same [] (other ∷ others) sizes e = absurd (nil≢cons sizes)
flatten-same (one ∷ ones) [] sizes e = absurd (cons≢nil sizes)
flatten-same (one ∷ ones) (other ∷ others) sizes e =
    let n : length one ≡ length other = head-eq_of_cons-eq sizes in
    ap₂ ◌∷◌
    (sym (take_at one (flatten ones) (length other) n) ∙ ap (take (length other)) e ∙ take_at other (flatten others) (length other) refl)
    (flatten-same ones others (tail-eq_of_cons-eq sizes)
    (sym (drop_at one (flatten ones) (length other) n) ∙ ap (drop (length other)) e ∙ drop_at other (flatten others) (length other) refl))

-- Groups of the sizes that n reads make are the groups of what they make up.
pub in_groups_unique {ℓ} : {A : Type ℓ} (n : ℕ) (groups : List (List A)) → map length groups ≡ group_sizes n
    → (length (flatten groups) ≡ n) × (in_groups (flatten groups) ≡ groups)
in_groups_unique n groups sizes =
    let count : length (flatten groups) ≡ n = length_flatten groups ∙ ap total sizes ∙ total-group_sizes n in (
      count,
      flatten-same (in_groups (flatten groups)) groups
          (sizes-in_groups (flatten groups) ∙ ap group_sizes count ∙ sym sizes) (flatten-in_groups (flatten groups)),
    )

-- No group has more than eight.
pub in_groups-small {ℓ} : {A : Type ℓ} (list : List A) → All (λ group. length group ≤ 8) (in_groups list)
unfolding in_groups
in_groups-small list =
    all_build (λ group. length group ≤ 8) (group_count (length list)) (λ g. part list (8 * g) 8)
    (λ g h. rw length-take (omega arith))

-- No group is empty.
pub in_groups-some {ℓ} : {A : Type ℓ} (list : List A) → All (λ group. 0 < length group) (in_groups list)
in_groups-some {A} =
    by-groups (λ (list : List A). All (λ group. 0 < length group) (in_groups list))
    (subst (λ (groups : List (List A)). All (λ group. 0 < length group) groups) (sym in_groups-nil) tt)
    (λ x xs ih.
    subst (λ (groups : List (List A)). All (λ group. 0 < length group) groups) (sym (in_groups-cons x xs)) (omega arith, ih))

-- ---- Groups of a mapped list

map-take {ℓ κ} : {A : Type ℓ} {B : Type κ} (f : A → B) (n : ℕ) (list : List A) → take n (map f list) ≡ map f (take n list)
map-take f zero list = refl
map-take f (suc n) [] = refl
map-take f (suc n) (x ∷ xs) = ap (λ (rest : List _). f x ∷ rest) (map-take f n xs)

map-drop {ℓ κ} : {A : Type ℓ} {B : Type κ} (f : A → B) (n : ℕ) (list : List A) → drop n (map f list) ≡ map f (drop n list)
map-drop f zero list = refl
map-drop f (suc n) [] = refl
map-drop f (suc n) (x ∷ xs) = map-drop f n xs

pub in_groups-map {ℓ κ} : {A : Type ℓ} {B : Type κ} (f : A → B) (list : List A) → in_groups (map f list) ≡ map (map f) (in_groups list)
unfolding in_groups
in_groups-map f list =
    ap (λ (n : ℕ). build (group_count n) (λ g. part (map f list) (8 * g) 8)) (length-map list f)
    ∙ build_cong (group_count (length list)) _ _
    (λ g h. ap (take 8) (map-drop f (8 * g) list) ∙ map-take f 8 (drop (8 * g) list))
    ∙ sym (map-build (map f) (group_count (length list)) (λ g. part list (8 * g) 8))

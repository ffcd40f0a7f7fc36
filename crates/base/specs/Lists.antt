-- Lists by index, and the few list functions that the definitions above share.
use Rattle.std.specs.Prelude.{ℕ, zero, suc, ◌+◌, ◌-◌, ◌<◌, ◌≡◌, Bool, true, false, cond, not, ◌||◌, List, [], ◌∷◌, ◌++◌, length, get_or, take, drop, ltb, eqb}

-- The list f 0, f 1, .. of n elements.
unfoldable pub build {ℓ} : {A : Type ℓ} (n : ℕ) (f : ℕ → A) → List A
build zero f = []
build (suc n) f = f zero ∷ build n (λ k. f (suc k))

-- The count elements of a list from index `from` on.
abbrev pub part {ℓ} : {A : Type ℓ} (list : List A) (from count : ℕ) → List A
part list from count = take count (drop from list)

-- Part i of a list that is cut at some ends: from the end before it, or 0, to its own.
abbrev pub part_ending {ℓ} : {A : Type ℓ} (list : List A) (ends : List ℕ) (i : ℕ) → List A
part_ending list ends i =
    part list (get_or (0 ∷ ends) i 0) (get_or ends i 0 - get_or (0 ∷ ends) i 0)

-- Whether a list ends before index `end`.
abbrev pub ends_before : (list : List ℕ) (end : ℕ) → Bool
ends_before list end = ltb (length list) end

-- Whether a test holds of some element.
unfoldable pub any {ℓ} : {A : Type ℓ} (test : A → Bool) (list : List A) → Bool
any test [] = false
any test (x ∷ xs) = test x || any test xs

-- Whether a number is in a list.
unfoldable pub member : (x : ℕ) (list : List ℕ) → Bool
member x list = any (λ y. eqb y x) list

-- The index of the first element that is x; the length of the list where there is none.
unfoldable pub index_of : (x : ℕ) (list : List ℕ) → ℕ
index_of x [] = 0
index_of x (y ∷ ys) = cond (eqb y x) 0 (suc (index_of x ys))

-- The elements of which a test holds.
unfoldable pub keep : (test : ℕ → Bool) (list : List ℕ) → List ℕ
keep test [] = []
keep test (x ∷ xs) = cond (test x) (x ∷ keep test xs) (keep test xs)

-- The places below `count` at which a test holds, in order.
unfoldable pub places_where : (test : ℕ → Bool) (count : ℕ) → List ℕ
places_where test count = keep test (build count (λ k. k))

-- How many of the tests hold.
unfoldable pub count_true : (tests : List Bool) → ℕ
count_true [] = 0
count_true (true ∷ ts) = suc (count_true ts)
count_true (false ∷ ts) = count_true ts

-- The sum of a list.
unfoldable pub total : (list : List ℕ) → ℕ
total [] = 0
total (x ∷ xs) = x + total xs

-- The running sums of a list, from `start` on: where each step leads.
unfoldable pub places_from : (start : ℕ) (steps : List ℕ) → List ℕ
places_from start [] = []
places_from start (step ∷ steps) = (start + step) ∷ places_from (start + step) steps

-- The steps that lead to some places, each from the one before, the first from `start`.
unfoldable pub steps_from : (start : ℕ) (places : List ℕ) → List ℕ
steps_from start [] = []
steps_from start (place ∷ places) = (place - start) ∷ steps_from place places

-- Whether ends are wrong: a step between them, the first from 0, is wrong, or the last end is not
-- `count` (0 where there is none).
abbrev pub ends_wrong_for : (step_wrong : ℕ → Bool) (ends : List ℕ) (count : ℕ) → Bool
ends_wrong_for step_wrong ends count =
    any step_wrong (steps_from 0 ends) || not (eqb (get_or (0 ∷ ends) (length ends) 0) count)

-- A claim that holds of every element.
abbrev pub All {ℓ} : {A : Type ℓ} (claim : A → Type 0) (list : List A) → Type 0
All claim [] = Unit {0}
All claim (x ∷ xs) = claim x × All claim xs

-- One list begins another: the other is it and some rest.
abbrev pub Begins : {A : Type 0} (front whole : List A) → Type 0
Begins {A} front whole = (rest : List A) × (front ++ rest ≡ whole)

-- Every element is below a bound.
pub record Below (bound : ℕ) (list : List ℕ) : Type 0 where
  pub each : (k : ℕ) → k < length list → get_or list k 0 < bound

-- A list of bytes.
abbrev pub AllBytes : (list : List ℕ) → Type 0
AllBytes list = Below 256 list

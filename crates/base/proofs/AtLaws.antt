-- Laws of what stands at a place. Assumes nothing.
use mathlib.Core.Path.{◌≡◌, sym, ap, ◌∙◌}
use Prim.Native.Nat.{ℕ, ◌+◌, ◌-◌, ◌≤◌, ◌<◌}
use native.Mathlib.Nat.{not-suc-le-zero, zero-add}
use native.Mathlib.Omega.{arith}
use mathlib.Core.List.{List, [], ◌∷◌, ◌++◌}
use lib.ListN.{length, get_or, take, drop, length-append, length-drop, get_or-append}
use lib.Seq.{get_or-append-add, get_or-take, get_or-drop, length-take-le, ext_get_or}
use Rattle.base.specs.Place.{At}
use Rattle.base.proofs.ListLaws.{by_order}

-- The middle of a list stands after its front.
pub at-middle : (front part back : List ℕ) → At (front ++ (part ++ back)) (length front) part
at-middle front part back =
    record {
      fits = simp length-append (omega arith);
      same = λ k h. get_or-append-add front (part ++ back) k 0 ∙ get_or-append part back 0 k h;
    }

pub at_self : (list : List ℕ) → At list 0 list
at_self list = record { fits = omega arith; same = λ k h. ap (λ (m : ℕ). get_or list m 0) (omega arith) }

-- The front of a list stands at its start.
pub at_take : (list : List ℕ) (n : ℕ) → n ≤ length list → At list 0 (take n list)
at_take list n h =
    let size : length (take n list) ≡ n = length-take-le n list h in
    record {
      fits = omega arith;
      same = λ k l.
          let small : k < n = omega arith in
          ap (λ (m : ℕ). get_or list m 0) (zero-add k) ∙ sym (get_or-take n list k 0 small);
    }

pub at_left : {list : List ℕ} {i : ℕ} (xs ys : List ℕ) → At list i (xs ++ ys) → At list i xs
at_left xs ys a =
    record {
      fits = omega (arith, a.fits, length-append xs ys);
      same = λ k h. a.same k (omega (arith, length-append xs ys)) ∙ get_or-append xs ys 0 k h;
    }

pub at_right : {list : List ℕ} {i : ℕ} (xs ys : List ℕ) → At list i (xs ++ ys) → At list (i + length xs) ys
at_right {list} {i} xs ys a =
    record {
      fits = omega (arith, a.fits, length-append xs ys);
      same = λ k h.
          ap (λ (m : ℕ). get_or list m 0) (omega arith)
          ∙ a.same (length xs + k) (omega (arith, length-append xs ys))
          ∙ get_or-append-add xs ys k 0;
    }

pub at_both : {list : List ℕ} {i : ℕ} (xs ys : List ℕ) → At list i xs → At list (i + length xs) ys
    → At list i (xs ++ ys)
at_both {list} {i} xs ys a b =
    record {
      fits = omega (arith, b.fits, length-append xs ys);
      same = λ k h.
          by_order k (length xs)
          (λ l. a.same k l ∙ sym (get_or-append xs ys 0 k l))
          (λ g.
          let e : k ≡ length xs + (k - length xs) = omega arith in
          ap (λ (m : ℕ). get_or list m 0) (omega arith)
          ∙ b.same (k - length xs) (omega (arith, length-append xs ys))
          ∙ sym (get_or-append-add xs ys (k - length xs) 0)
          ∙ ap (λ (m : ℕ). get_or (xs ++ ys) m 0) (sym e));
    }

-- Two lists of one length at one place are equal.
pub at_same : {list : List ℕ} {i : ℕ} (xs ys : List ℕ) → length xs ≡ length ys → At list i xs → At list i ys → xs ≡ ys
at_same xs ys e a b = ext_get_or 0 xs ys e (λ k h. sym (a.same k h) ∙ b.same k (omega arith))

pub at-to : {list part : List ℕ} (i j : ℕ) → i ≡ j → At list i part → At list j part
at-to i j e a = rw e at a

pub at-nil : {list : List ℕ} {i : ℕ} → i ≤ length list → At list i []
at-nil h = record { fits = omega arith; same = λ k l. absurd (not-suc-le-zero l) }

pub at_head : {list : List ℕ} {i x : ℕ} {xs : List ℕ} → At list i (x ∷ xs) → get_or list i 0 ≡ x
at_head {list} {i} a = ap (λ (m : ℕ). get_or list m 0) (omega arith) ∙ a.same 0 (omega arith)

pub at_tail : {list : List ℕ} {i x : ℕ} {xs : List ℕ} → At list i (x ∷ xs) → At list (i + 1) xs
at_tail {x = x} {xs = xs} a = at_right (x ∷ []) xs a

pub at-cons : {list : List ℕ} {i : ℕ} (x : ℕ) {xs : List ℕ} → get_or list i 0 ≡ x → i < length list → At list (i + 1) xs
    → At list i (x ∷ xs)
at-cons {list} {i} x {xs} e h a =
    at_both (x ∷ []) xs
    (record {
      fits = omega arith;
      same = λ k l. let z : k ≡ 0 = omega arith in rw z (ap (λ (m : ℕ). get_or list m 0) (omega arith) ∙ e);
    })
    a

-- What stands at a place is cut out there.
pub at_part : {list : List ℕ} {i : ℕ} (part : List ℕ) → At list i part → take (length part) (drop i list) ≡ part
at_part {list} {i} part a =
    let room : length part ≤ length (drop i list) = omega (arith, a.fits, length-drop i list) in
    ext_get_or 0 _ part (length-take-le (length part) (drop i list) room) (λ k h.
    let low : k < length part = omega (arith, length-take-le (length part) (drop i list) room) in
    get_or-take (length part) (drop i list) k 0 low ∙ get_or-drop i list k 0 ∙ a.same k low)

-- What is cut out of a list stands there.
pub at_cut : (list : List ℕ) (i n : ℕ) → i + n ≤ length list → At list i (take n (drop i list))
at_cut list i n h =
    let size : length (take n (drop i list)) ≡ n = length-take-le n (drop i list) (omega (arith, length-drop i list)) in
    record {
      fits = omega arith;
      same = λ k l.
          let small : k < n = omega arith in
          sym (get_or-take n (drop i list) k 0 small ∙ get_or-drop i list k 0);
    }

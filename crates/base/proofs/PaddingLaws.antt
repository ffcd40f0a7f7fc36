-- Padding (01, Records): the symbols of the last byte past the last one. They are all 0 exactly if a
-- remainder of the byte is 0. Over every base and number of symbols a byte. Assumes nothing.
use mathlib.Core.Path.{◌≡◌, sym, ap, ap₂, ◌∙◌}
use Prim.Native.Nat.{ℕ, zero, suc, ◌+◌, ◌-◌, ◌*◌, ◌/◌, ◌%◌, ◌^◌, ◌≤◌, ◌<◌}
use native.Mathlib.Nat.{zero-mul, zero-add, one-mul, add-mul, suc-mul, pow-zero, pow-suc}
use native.Mathlib.Nat.{one-le-pow, mod-one, mod-lt, div-add-mod'}
use native.Mathlib.Omega.{arith}
use mathlib.Core.Bool.{Bool, true, not, ◌||◌, or-false, not-not}
use mathlib.Core.List.{List, [], ◌∷◌, ◌++◌}
use lib.ListN.{length, get_or, length-append, get_or-append, get_or-eq_default}
use lib.Seq.{get_or-append-add}
use lib.Arith.{digits_div, digits_mod, mod-mul}
use lib.Dec.{eqb}
use borrow.Author.Tests.{ne_eqb}
use Rattle.base.specs.Lists.{build, any}
use Rattle.base.specs.Packed.{digit, byte_of, packed_length, pack, symbols_at}
use Rattle.base.proofs.ListLaws.{by_order, build_cong, build-snoc}
use Rattle.base.proofs.Tests.{any_append}
use Rattle.base.proofs.PackedLaws.{digit-last, digit-front, byte_of_cong, packed_length-whole}
use Rattle.base.proofs.PackedLaws.{packed_length-full, packed_length_partial}

-- Whether a symbol is not 0.
abbrev nonzero : (symbol : ℕ) → Bool
nonzero symbol = not (eqb symbol 0)

-- A number of two digits is 0 if both are.
nonzero-two : (base high low : ℕ) → 0 < base → nonzero high || nonzero low ≡ nonzero (high * base + low)
nonzero-two base zero low some =
    ap nonzero (sym (ap (λ (x : ℕ). x + low) (zero-mul base) ∙ zero-add low))
nonzero-two base (suc high) low some =
    ap (λ (t : Bool). not t || nonzero low) (ne_eqb (suc high) 0 (λ e. omega arith))
    ∙ sym (ap not (ne_eqb (suc high * base + low) 0 (λ e. omega (arith, suc-mul high base))))

-- The n lowest digits of a number are all 0 if its remainder by base ^ n is.
nonzero-digits : (base n x : ℕ) → 0 < base
    → any nonzero (build n (λ j. digit base n x j)) ≡ nonzero (x % base ^ n)
unfolding build any
nonzero-digits base zero x some = rw (pow-zero, mod-one)
nonzero-digits base (suc n) x some =
    let one : suc n ≡ n + 1 = omega arith in
    let split : x % base ^ suc n ≡ x / base % base ^ n * base + x % base =
    ap (λ (y : ℕ). x % y) (pow-suc base n) ∙ mod-mul x (one-le-pow n base some) some in
    ap (λ (m : ℕ). any nonzero (build m (λ j. digit base (suc n) x j))) one
    ∙ ap (any nonzero) (build-snoc n (λ j. digit base (suc n) x j))
    ∙ any_append nonzero (build n (λ j. digit base (suc n) x j)) (digit base (suc n) x n ∷ [])
    ∙ ap₂ (λ (front last : Bool). front || last)
    (ap (any nonzero) (build_cong n _ _ (λ j h. digit-front base n x j h))
    ∙ nonzero-digits base n (x / base) some)
    (or-false (nonzero (digit base (suc n) x n)) ∙ ap nonzero (digit-last base n x))
    ∙ nonzero-two base (x / base % base ^ n) (x % base) some
    ∙ ap nonzero (sym split)

-- The n last of a byte's digits are the digits of its n lowest places.
digit_low : (base per n x j : ℕ) → n ≤ per → j < n → digit base per x (per - n + j) ≡ digit base n x j
unfolding digit
digit_low base per n x j h l =
    let e : per - suc (per - n + j) ≡ n - suc j = omega arith in
    ap (λ (m : ℕ). x / base ^ m % base) e

module _ (base per : ℕ) (some_base : 0 < base) (some_per : 0 < per) (list : List ℕ) (at n : ℕ) where
  -- Where the symbols fill their bytes there is no padding.
  pub padding_none : n % per ≡ 0
      → not (any (λ symbol. not (eqb symbol 0)) (symbols_at base per list at n (packed_length per n * per - n))) ≡ true
  unfolding symbols_at build any
  padding_none full =
      let none : packed_length per n * per - n ≡ 0 =
      ap (λ (m : ℕ). m * per - n) (packed_length-full per n some_per full)
      ∙ omega (arith, div-add-mod' n per) in
      ap (λ (m : ℕ). not (any (λ symbol. not (eqb symbol 0)) (symbols_at base per list at n m))) none

  -- Where they do not, the padding is 0 exactly if the last byte's remainder is.
  pub padding_some : (divisor : ℕ) → 0 < n % per → divisor ≡ base ^ (per - n % per)
      → not (any (λ symbol. not (eqb symbol 0)) (symbols_at base per list at n (packed_length per n * per - n)))
      ≡ eqb (get_or list (at + n / per) 0 % divisor) 0
  unfolding symbols_at
  padding_some divisor left power =
      let rest : n % per < per = mod-lt n some_per in
      let whole : n ≡ n / per * per + n % per = sym (div-add-mod' n per) in
      let byte : ℕ = get_or list (at + n / per) 0 in
      let count : ℕ = per - n % per in
      let some : packed_length per n * per - n ≡ count =
      ap (λ (m : ℕ). m * per - n) (packed_length_partial per n some_per left)
      ∙ omega (arith, add-mul (n / per) 1 per, one-mul per) in
      let same : (j : ℕ) → j < count
      → digit base per (get_or list (at + (n + j) / per) 0) ((n + j) % per) ≡ digit base count byte j =
      λ j h.
      let flat : n + j ≡ n / per * per + (n % per + j) = omega arith in
      let inside : n % per + j < per = omega arith in
      let place : n % per + j ≡ per - count + j = omega arith in
      ap₂ (λ (u v : ℕ). digit base per (get_or list (at + u) 0) v)
      (ap (λ (k : ℕ). k / per) flat ∙ digits_div (n / per) inside)
      (ap (λ (k : ℕ). k % per) flat ∙ digits_mod (n / per) inside ∙ place)
      ∙ digit_low base per count byte j (omega arith) h in
      ap (λ (m : ℕ). not (any nonzero (symbols_at base per list at n m))) some
      ∙ ap (λ (l : List ℕ). not (any nonzero l)) (build_cong count _ _ same)
      ∙ ap not (nonzero-digits base count byte some_base)
      ∙ not-not (eqb (byte % base ^ count) 0)
      ∙ ap (λ (y : ℕ). eqb (byte % y) 0) (sym power)

-- Symbols that are 0 after the last one, as many as fill its byte, change nothing.
pub pack-padding : (base per : ℕ) (symbols padding : List ℕ) → 0 < per → ((k : ℕ) → get_or padding k 0 ≡ 0)
    → length symbols + length padding ≡ packed_length per (length symbols) * per
    → pack base per (symbols ++ padding) ≡ pack base per symbols
unfolding pack
pack-padding base per symbols padding some clear filled =
    let m : ℕ = packed_length per (length symbols) in
    let whole : packed_length per (length (symbols ++ padding)) ≡ m =
    ap (packed_length per) (length-append symbols padding ∙ filled) ∙ packed_length-whole per m some in
    let same : (i : ℕ) → get_or (symbols ++ padding) i 0 ≡ get_or symbols i 0 =
    λ i.
    by_order i (length symbols)
    (λ h. get_or-append symbols padding 0 i h)
    (λ h.
    let e : i ≡ length symbols + (i - length symbols) = omega arith in
    ap (λ (k : ℕ). get_or (symbols ++ padding) k 0) e
    ∙ get_or-append-add symbols padding (i - length symbols) 0
    ∙ clear (i - length symbols)
    ∙ sym (get_or-eq_default symbols 0 h)) in
    ap (λ (k : ℕ). build k (λ j. byte_of base per (λ k. get_or (symbols ++ padding) (j * per + k) 0))) whole
    ∙ build_cong m _ _ (λ j h. byte_of_cong base per _ _ (λ k l. same (j * per + k)))

-- Bytes of as many symbols as a width has room for. Assumes nothing.
use mathlib.Core.Path.{◌≡◌, refl, sym, ap, ap₂, ◌∙◌}
use Prim.Native.Nat.{ℕ, zero, suc, ◌+◌, ◌-◌, ◌*◌, ◌/◌, ◌%◌, ◌^◌, ◌<◌, ◌≤◌}
use native.Mathlib.Nat.{add-zero, mul-zero, mul-one, mul_assoc, pow-zero, pow-suc, mod-eq_of_lt}
use native.Mathlib.Omega.{arith}
use mathlib.Core.List.{List}
use lib.ListN.{length, get_or, get_or-eq_default}
use lib.Pow.{pow_pos, pow_mono}
use Rattle.base.specs.Lists.{Below}
use Rattle.base.specs.Packed.{byte_of}
use Rattle.base.proofs.ListLaws.{below_at}
use Rattle.base.proofs.PackedLaws.{byte_of-below, pow_pow}
use Rattle.packing.specs.Width.{Width}

-- A product that is not 0 has no factor 0.
factor_some : (bits per : ℕ) → bits * per ≡ 8 → 0 < per
factor_some bits zero e = absurd (omega (arith, sym (mul-zero bits) ∙ e))
factor_some bits (suc per) e = omega arith

-- A byte holds at least one symbol.
pub per_some : (bits : ℕ) → Width bits → 0 < 8 / bits
per_some bits w = factor_some bits (8 / bits) w.0

-- One more symbol that is 0.
filled_more : (base n m : ℕ) (f : ℕ → ℕ) → f (n + m) ≡ 0 → byte_of base (n + m) f ≡ byte_of base n f * base ^ m
    → byte_of base (n + suc m) f ≡ byte_of base n f * base ^ suc m
unfolding byte_of
filled_more base n m f clear e =
    let next : n + suc m ≡ suc (n + m) = omega arith in
    ap (λ (j : ℕ). byte_of base j f) next
    ∙ ap₂ (λ (u v : ℕ). u * base + v) e clear
    ∙ add-zero (byte_of base n f * base ^ m * base)
    ∙ mul_assoc (byte_of base n f) (base ^ m) base
    ∙ ap (λ (y : ℕ). byte_of base n f * y) (sym (pow-suc base m))

-- Symbols that are 0 move those before them up.
byte_of-filled : (base n m : ℕ) (f : ℕ → ℕ) → ((j : ℕ) → n ≤ j → f j ≡ 0)
    → byte_of base (n + m) f ≡ byte_of base n f * base ^ m
byte_of-filled base n zero f clear = rw (add-zero, pow-zero, mul-one) refl
byte_of-filled base n (suc m) f clear = filled_more base n m f (clear (n + m) (omega arith)) (byte_of-filled base n m f clear)

module _ (bits : ℕ) (w : Width bits) (codes : List ℕ) (narrow : Below (2 ^ bits) codes) where
  -- So many symbols make a byte.
  pub symbols_fit : (k : ℕ) → k ≤ 8 / bits → byte_of (2 ^ bits) k (λ j. get_or codes j 0) < 256
  symbols_fit k room =
      let small : bits * k ≤ 8 = grind (arith, w.0) in
      omega (
        arith,
        byte_of-below (2 ^ bits) k (λ j. get_or codes j 0) (λ j h. below_at codes (pow_pos bits) narrow j),
        pow_pow bits k,
        pow_mono small,
      )

  -- The next symbol still fits.
  pub next_fits : (k : ℕ) → k < 8 / bits
      → byte_of (2 ^ bits) k (λ j. get_or codes j 0) * 2 ^ bits + get_or codes k 0 < 256
  unfolding byte_of
  next_fits k room = symbols_fit (suc k) room

  -- A byte that lacks symbols counts them as 0.
  pub lacking_zero : length codes ≤ 8 / bits
      → byte_of (2 ^ bits) (length codes) (λ j. get_or codes j 0) * 2 ^ (bits * (8 / bits - length codes)) % 256
      ≡ byte_of (2 ^ bits) (8 / bits) (λ j. get_or codes j 0)
  lacking_zero room =
      let per = 8 / bits in
      let n = length codes in
      let f : ℕ → ℕ = λ j. get_or codes j 0 in
      ap (λ (y : ℕ). byte_of (2 ^ bits) n f * y % 256) (pow_pow bits (per - n))
      ∙ ap (λ (y : ℕ). y % 256) (sym (byte_of-filled (2 ^ bits) n (per - n) f (λ j h. get_or-eq_default codes 0 h)))
      ∙ ap (λ (m : ℕ). byte_of (2 ^ bits) m f % 256) (omega arith)
      ∙ mod-eq_of_lt (symbols_fit per (omega arith))

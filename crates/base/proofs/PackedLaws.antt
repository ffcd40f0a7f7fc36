-- Laws of packed symbols, over every base and number of symbols a byte. Assumes nothing.
use mathlib.Core.Path.{◌≡◌, refl, sym, ap, ap₂, ◌∙◌, subst}
use Prim.Native.Nat.{ℕ, zero, suc, ◌+◌, ◌-◌, ◌*◌, ◌/◌, ◌%◌, ◌^◌, ◌≤◌, ◌<◌}
use native.Mathlib.Nat.{not-suc-le-zero, pow-zero, pow-suc, pow-succ', div-one, div-div-eq-div-mul}
use native.Mathlib.Nat.{div-add-mod', div-lt_iff_lt-mul, le-div_iff_mul-le, div-mul-le_self, mod-lt}
use native.Mathlib.Nat.{mod-eq_of_lt, suc-mul, mul-zero, mul-suc, one-mul, add-mul}
use native.Mathlib.Nat.{add-mul-div_right, add-mul-mod_self_right, mul-le-mul_right, zero-add}
use native.Mathlib.Omega.{arith}
use mathlib.Core.List.{List, ◌++◌}
use lib.ListN.{length, get_or}
use lib.Seq.{ext_get_or}
use lib.Pow.{pow-add, pow-lt, pow_pos}
use lib.Arith.{digits_lt, digits_div, digits_mod}
use Rattle.base.specs.Lists.{build, Below}
use Rattle.base.specs.Packed.{digit, byte_of, packed_length, symbol_at, pack, symbols_at}
use Rattle.base.specs.Place.{At}
use Rattle.base.proofs.ListLaws.{by_order, length-build, get_or-build, build_cong}
use Rattle.base.proofs.ListLaws.{build-append, below_at, below-build}

-- ---- Digits of one byte

pub byte_of-below : (base per : ℕ) (f : ℕ → ℕ) → ((k : ℕ) → k < per → f k < base) → byte_of base per f < base ^ per
unfolding byte_of
byte_of-below base zero f h = rw pow-zero (omega arith)
byte_of-below base (suc per) f h =
    rw pow-suc (digits_lt (byte_of-below base per f (λ k l. h k (omega arith))) (h per (omega arith)))

pub byte_of_cong : (base per : ℕ) (f g : ℕ → ℕ) → ((k : ℕ) → k < per → f k ≡ g k) → byte_of base per f ≡ byte_of base per g
unfolding byte_of
byte_of_cong base zero f g h = refl
byte_of_cong base (suc per) f g h =
    ap₂ (λ (v w : ℕ). v * base + w) (byte_of_cong base per f g (λ k l. h k (omega arith))) (h per (omega arith))

pub digit-last : (base per x : ℕ) → digit base (suc per) x per ≡ x % base
unfolding digit
digit-last base per x =
    let e : suc per - suc per ≡ 0 = omega arith in
    rw (e, pow-zero, div-one)

pub digit-front : (base per x k : ℕ) → k < per → digit base (suc per) x k ≡ digit base per (x / base) k
unfolding digit
digit-front base per x k h =
    let e : suc per - suc k ≡ suc (per - suc k) = omega arith in
    rw (e, pow-succ' base (per - suc k), ← div-div-eq-div-mul x base (base ^ (per - suc k)))

pub digit-below : (base per x k : ℕ) → 0 < base → digit base per x k < base
unfolding digit
digit-below base per x k some = mod-lt (x / base ^ (per - suc k)) some

-- A byte's digits are those that it was made of.
pub digit-byte_of : (base per : ℕ) (f : ℕ → ℕ) → ((k : ℕ) → k < per → f k < base) → (k : ℕ) → k < per
    → digit base per (byte_of base per f) k ≡ f k
unfolding byte_of
digit-byte_of base zero f h k l = absurd (not-suc-le-zero l)
digit-byte_of base (suc per) f h k l =
    by_order k per
    (λ m.
    digit-front base per (byte_of base per f * base + f per) k m
    ∙ ap (λ (x : ℕ). digit base per x k) (digits_div (byte_of base per f) (h per (omega arith)))
    ∙ digit-byte_of base per f (λ j o. h j (omega arith)) k m)
    (λ m.
    let e : k ≡ per = omega arith in
    rw e (digit-last base per (byte_of base per f * base + f per) ∙ digits_mod (byte_of base per f) (h per (omega arith))))

-- A byte is made of its digits.
pub byte_of-digit : (base per x : ℕ) → 0 < base → x < base ^ per → byte_of base per (λ k. digit base per x k) ≡ x
unfolding byte_of
byte_of-digit base zero x some h = let k : x < 1 = rw pow-zero at h in omega arith
byte_of-digit base (suc per) x some h =
    ap₂ (λ (v w : ℕ). v * base + w)
    (byte_of_cong base per _ _ (λ k l. digit-front base per x k l)
    ∙ byte_of-digit base per (x / base) some ((div-lt_iff_lt-mul some).1 (rw pow-suc at h)))
    (digit-last base per x)
    ∙ div-add-mod' x base

-- ---- Lengths

pub length-pack : (base per : ℕ) (symbols : List ℕ) → length (pack base per symbols) ≡ packed_length per (length symbols)
unfolding pack
length-pack base per symbols = length-build _ _

pub length-symbols_at : (base per : ℕ) (list : List ℕ) (at from n : ℕ) → length (symbols_at base per list at from n) ≡ n
unfolding symbols_at
length-symbols_at base per list at from n = length-build _ _

-- The byte of a symbol is among those that the symbols take.
pub byte_of_symbol : (per j n : ℕ) → 0 < per → j < n → j / per < packed_length per n
unfolding packed_length
byte_of_symbol per j n some h = (le-div_iff_mul-le some).1 (omega (arith, div-mul-le_self j per, suc-mul (j / per) per))

-- The bytes of n symbols hold n, and fewer than one byte more.
pub packed_length-holds : (per n : ℕ) → 0 < per → n ≤ packed_length per n * per
unfolding packed_length
packed_length-holds per n some = omega (arith, div-add-mod' (n + (per - 1)) per, mod-lt (n + (per - 1)) some)

pub packed_length-least : (per n : ℕ) → 0 < per → packed_length per n * per < n + per
unfolding packed_length
packed_length-least per n some = omega (arith, div-mul-le_self (n + (per - 1)) per)

-- Whole bytes take themselves.
pub packed_length-whole : (per m : ℕ) → 0 < per → packed_length per (m * per) ≡ m
unfolding packed_length
packed_length-whole per m some = digits_div m (omega arith)

-- ---- Packing and reading

module _ (base per : ℕ) (some_base : 0 < base) (some_per : 0 < per) where
  symbol_pack : (symbols : List ℕ) → Below base symbols → (j : ℕ) → j < length symbols
      → digit base per (get_or (pack base per symbols) (j / per) 0) (j % per) ≡ get_or symbols j 0
  unfolding pack
  symbol_pack symbols h j l =
      ap (λ (x : ℕ). digit base per x (j % per))
      (get_or-build (packed_length per (length symbols)) (λ m. byte_of base per (λ k. get_or symbols (m * per + k) 0)) (j / per) 0
      (byte_of_symbol per j (length symbols) some_per l))
      ∙ digit-byte_of base per (λ k. get_or symbols (j / per * per + k) 0)
      (λ k m. below_at symbols some_base h (j / per * per + k)) (j % per) (mod-lt j some_per)
      ∙ ap (λ (m : ℕ). get_or symbols m 0) (div-add-mod' j per)

  -- What is packed at a place is read back there.
  pub symbols_at_pack : {list : List ℕ} {at : ℕ} (symbols : List ℕ) (from n : ℕ) (part' : List ℕ) → Below base symbols
      → At list at (pack base per symbols) → from + n ≤ length symbols → length part' ≡ n
      → ((j : ℕ) → j < n → get_or symbols (from + j) 0 ≡ get_or part' j 0)
      → symbols_at base per list at from n ≡ part'
  unfolding symbols_at
  symbols_at_pack {list} {at} symbols from n part' h a fits len agree =
      ext_get_or 0 _ part' (length-symbols_at base per list at from n ∙ sym len)
      (λ j l.
      let m : j < n = rw length-build at l in
      get_or-build n (λ j. digit base per (get_or list (at + (from + j) / per) 0) ((from + j) % per)) j 0 m
      ∙ ap (λ (x : ℕ). digit base per x ((from + j) % per))
      (a.same ((from + j) / per) (rw length-pack (byte_of_symbol per (from + j) (length symbols) some_per (omega arith))))
      ∙ symbol_pack symbols h (from + j) (omega arith)
      ∙ agree j m)

  pub symbols_at_below : (list : List ℕ) (at from n : ℕ) → Below base (symbols_at base per list at from n)
  unfolding symbols_at
  symbols_at_below list at from n = below-build n _ (λ k. digit-below base per _ _ some_base)

  pub pack_below : (symbols : List ℕ) → Below base symbols → Below (base ^ per) (pack base per symbols)
  unfolding pack
  pack_below symbols h =
      below-build _ _ (λ j. byte_of-below base per _ (λ k l. below_at symbols some_base h (j * per + k)))

  -- The symbols of whole bytes, packed, stand where they were read.
  pub pack_symbols_at : {list : List ℕ} (at m : ℕ) → at + m ≤ length list → ((k : ℕ) → get_or list k 0 < base ^ per)
      → At list at (pack base per (symbols_at base per list at 0 (m * per)))
  unfolding symbols_at pack
  pack_symbols_at {list} at m fits small =
      let symbols : List ℕ = symbols_at base per list at 0 (m * per) in
      let whole : packed_length per (length symbols) ≡ m =
      ap (packed_length per) (length-symbols_at base per list at 0 (m * per)) ∙ packed_length-whole per m some_per in
      record {
        fits = subst (λ (n : ℕ). at + n ≤ length list) (sym (length-pack base per symbols ∙ whole)) fits;
        same = λ j h.
            let l : j < m = subst (λ (n : ℕ). j < n) (length-pack base per symbols ∙ whole) h in
            let x : ℕ = get_or list (at + j) 0 in
            let room : suc j * per ≤ m * per = mul-le-mul_right per l in
            sym
            (get_or-build (packed_length per (length symbols)) (λ j. byte_of base per (λ k. get_or symbols (j * per + k) 0)) j 0
            (subst (λ (n : ℕ). j < n) (sym whole) l)
            ∙ byte_of_cong base per _ _
            (λ k kp.
            get_or-build (m * per) (λ j. digit base per (get_or list (at + (0 + j) / per) 0) ((0 + j) % per)) (j * per + k) 0
            (omega (arith, suc-mul j per))
            ∙ ap (λ (i : ℕ). digit base per (get_or list (at + i / per) 0) (i % per)) (zero-add (j * per + k))
            ∙ ap₂ (λ (u v : ℕ). digit base per (get_or list (at + u) 0) v) (digits_div j kp) (digits_mod j kp))
            ∙ byte_of-digit base per x some_base (small (at + j)));
      }

  -- Reading on: the symbols from the first on are the first n and those after them.
  pub symbols_at_append : (list : List ℕ) (at n k : ℕ)
      → symbols_at base per list at 0 (n + k) ≡ symbols_at base per list at 0 n ++ symbols_at base per list at n k
  unfolding symbols_at
  symbols_at_append list at n k =
      build-append n k (λ j. digit base per (get_or list (at + (0 + j) / per) 0) ((0 + j) % per))
      ∙ ap (λ (back : List ℕ). build n (λ j. digit base per (get_or list (at + (0 + j) / per) 0) ((0 + j) % per)) ++ back)
      (build_cong k _ _
      (λ j h. ap (λ (i : ℕ). digit base per (get_or list (at + i / per) 0) (i % per)) (zero-add (n + j))))

  -- A symbol from byte `at` on, by its index in the whole list.
  pub symbol_at_from : (list : List ℕ) (at i : ℕ)
      → symbol_at base per list (at * per + i) ≡ digit base per (get_or list (at + i / per) 0) (i % per)
  unfolding symbol_at
  symbol_at_from list at i =
      let split : at * per + i ≡ i + at * per = omega arith in
      ap₂ (λ (u v : ℕ). digit base per (get_or list u 0) v)
      (ap (λ (k : ℕ). k / per) split ∙ add-mul-div_right i at some_per ∙ omega arith)
      (ap (λ (k : ℕ). k % per) split ∙ add-mul-mod_self_right i at per)

  -- A symbol that is read from byte `at` on, by its index in the whole list.
  pub get_or_symbols_at : (list : List ℕ) (at from n j : ℕ) → j < n
      → get_or (symbols_at base per list at from n) j 0 ≡ symbol_at base per list (at * per + (from + j))
  unfolding symbols_at
  get_or_symbols_at list at from n j h =
      get_or-build n (λ j. digit base per (get_or list (at + (from + j) / per) 0) ((from + j) % per)) j 0 h
      ∙ sym (symbol_at_from list at (from + j))

-- ---- Bytes by the remainder of the number of symbols

-- As many symbols as fill their bytes.
pub packed_length-full : (per n : ℕ) → 0 < per → n % per ≡ 0 → packed_length per n ≡ n / per
packed_length-full per n some full =
    ap (packed_length per) (sym (div-add-mod' n per) ∙ omega arith) ∙ packed_length-whole per (n / per) some

-- The last byte is not full.
pub packed_length_partial : (per n : ℕ) → 0 < per → 0 < n % per → packed_length per n ≡ n / per + 1
unfolding packed_length
packed_length_partial per n some left =
    let rest : n % per - 1 < per = omega (arith, mod-lt n some) in
    let split : n + (per - 1) ≡ (n / per + 1) * per + (n % per - 1) =
    omega (arith, div-add-mod' n per, add-mul (n / per) 1 per, one-mul per) in
    ap (λ (k : ℕ). k / per) split ∙ digits_div (n / per + 1) rest

-- ---- Digits by shifts

-- A power of a power of two.
pub pow_pow : (bits n : ℕ) → 2 ^ (bits * n) ≡ (2 ^ bits) ^ n
pow_pow bits zero = ap (λ (m : ℕ). 2 ^ m) (mul-zero bits) ∙ sym (pow-zero (2 ^ bits))
pow_pow bits (suc n) =
    ap (λ (m : ℕ). 2 ^ m) (mul-suc bits n)
    ∙ pow-add 2 (bits * n) bits
    ∙ ap (λ (m : ℕ). m * 2 ^ bits) (pow_pow bits n)
    ∙ sym (pow-suc (2 ^ bits) n)

-- A digit of so many bits is a shift, then a remainder.
pub shift-digit : (bits per x k shift : ℕ) → shift ≡ bits * (per - suc k)
    → x / 2 ^ shift % 2 ^ bits ≡ digit (2 ^ bits) per x k
unfolding digit
shift-digit bits per x k shift e =
    ap (λ (y : ℕ). x / y % 2 ^ bits) (ap (λ (m : ℕ). 2 ^ m) e ∙ pow_pow bits (per - suc k))

-- A one shifted is a power of two, where it fits the width.
pub shift_one : (width shift : ℕ) → shift < width → (1 * 2 ^ shift) % 2 ^ width ≡ 2 ^ shift
shift_one width shift fits =
    ap (λ (y : ℕ). y % 2 ^ width) (one-mul (2 ^ shift)) ∙ mod-eq_of_lt (pow-lt fits)

pub shift-one-some : (width shift : ℕ) → shift < width → 0 < (1 * 2 ^ shift) % 2 ^ width
shift-one-some width shift fits = rw (shift_one width shift fits) (pow_pos shift)

-- A one shifted by so many digits is a power of the base.
pub shift_power : (bits count width shift : ℕ) → shift ≡ bits * count → shift < width
    → (1 * 2 ^ shift) % 2 ^ width ≡ (2 ^ bits) ^ count
shift_power bits count width shift e fits =
    shift_one width shift fits ∙ ap (λ (m : ℕ). 2 ^ m) e ∙ pow_pow bits count

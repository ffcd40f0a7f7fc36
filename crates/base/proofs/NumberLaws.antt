-- Laws of numbers in bytes. Assumes nothing.
use mathlib.Core.Path.{◌≡◌, refl, sym, ap, ap₂, ◌∙◌}
use Prim.Native.Nat.{ℕ, zero, suc, ◌+◌, ◌*◌, ◌/◌, ◌%◌, ◌^◌, ◌≤◌, ◌<◌}
use native.Mathlib.Nat.{zero-add, add-zero, suc-add, one-mul, mul_assoc, add_assoc, mul-add}
use native.Mathlib.Nat.{pow-zero, pow-suc, pow-succ', mod-add-div, div-lt_iff_lt-mul, div-one}
use native.Mathlib.Nat.{div-div-eq-div-mul, mod-lt, one-le-pow, zero-lt-suc}
use native.Mathlib.Omega.{arith}
use mathlib.Core.List.{List, ◌∷◌, ◌++◌}
use lib.ListN.{length, get_or}
use lib.Arith.{digits_div, mod-mul}
use Rattle.base.specs.Lists.{AllBytes}
use Rattle.base.specs.Numbers.{le, le_bytes}
use Rattle.base.specs.Place.{At}
use Rattle.base.specs.Paste.{pasted}
use Rattle.base.proofs.ListLaws.{below_at, below-nil, below-cons}
use Rattle.base.proofs.PasteLaws.{pasted_then}
use Rattle.base.proofs.AtLaws.{at_head, at_tail, at-cons, at-nil}

pub length-le_bytes : (width x : ℕ) → length (le_bytes width x) ≡ width
unfolding le_bytes
length-le_bytes zero x = refl
length-le_bytes (suc width) x = ap suc (length-le_bytes width (x / 256))

-- The bytes of a number are bytes.
pub le_bytes-bytes : (width x : ℕ) → AllBytes (le_bytes width x)
unfolding le_bytes
le_bytes-bytes zero x = below-nil 256
le_bytes-bytes (suc width) x = below-cons (x % 256) _ (omega arith) (le_bytes-bytes width (x / 256))

-- A number is read where its bytes stand.
pub le-le_bytes : (width x : ℕ) {list : List ℕ} {i : ℕ} → x < 256 ^ width → At list i (le_bytes width x) → le width list i ≡ x
unfolding le_bytes le
le-le_bytes zero x h a = let k : x < 1 = rw pow-zero at h in omega arith
le-le_bytes (suc width) x h a =
    ap₂ (λ (u v : ℕ). u + 256 * v) (at_head a)
    (le-le_bytes width (x / 256) ((div-lt_iff_lt-mul (zero-lt-suc 255)).1 (rw pow-suc at h)) (at_tail a))
    ∙ mod-add-div x 256

pub le_below : (width : ℕ) (list : List ℕ) (i : ℕ) → AllBytes list → le width list i < 256 ^ width
unfolding le
le_below zero list i small = rw pow-zero (omega arith)
le_below (suc width) list i small =
    rw pow-succ' (omega (arith, below_at list (zero-lt-suc 255) small i, le_below width list (i + 1) small))

-- The bytes of the number that is read stand there.
pub le_bytes-le : (width : ℕ) {list : List ℕ} (i : ℕ) → AllBytes list → i + width ≤ length list
    → At list i (le_bytes width (le width list i))
unfolding le_bytes le
le_bytes-le zero i small h = at-nil (omega arith)
le_bytes-le (suc width) {list} i small h =
    let x : ℕ = get_or list i 0 in
    let y : ℕ = le width list (i + 1) in
    let byte : x < 256 = below_at list (zero-lt-suc 255) small i in
    let lo : (x + 256 * y) % 256 ≡ x = omega arith in
    let hi : (x + 256 * y) / 256 ≡ y = omega arith in
    at-cons _ (sym lo) (omega arith) (rw hi (le_bytes-le width (i + 1) small (omega arith)))

-- A number in m + n bytes is that of the first m and 256 ^ m times that of the rest.
pub le-add : (m n : ℕ) (list : List ℕ) (i : ℕ) → le (m + n) list i ≡ le m list i + 256 ^ m * le n list (i + m)
unfolding le
le-add zero n list i = simp (zero-add, add-zero, pow-zero, one-mul)
le-add (suc m) n list i =
    let e : i + 1 + m ≡ i + suc m = omega arith in
    ap (λ (k : ℕ). le k list i) (suc-add m n)
    ∙ ap (λ (k : ℕ). get_or list i 0 + 256 * k) (le-add m n list (i + 1))
    ∙ rw (e, pow-succ') (simp (mul-add, mul_assoc, add_assoc))

-- The bytes of a number in m + n bytes are the m lowest and the n of the rest.
pub le_bytes-add : (m n x : ℕ) → le_bytes (m + n) x ≡ le_bytes m x ++ le_bytes n (x / 256 ^ m)
unfolding le_bytes
le_bytes-add zero n x = ap₂ le_bytes (zero-add n) (sym (rw (pow-zero, div-one)))
le_bytes-add (suc m) n x =
    ap (λ (k : ℕ). le_bytes k x) (suc-add m n)
    ∙ ap (λ (rest : List ℕ). x % 256 ∷ rest)
    (le_bytes-add m n (x / 256)
    ∙ ap (λ (y : ℕ). le_bytes m (x / 256) ++ le_bytes n y)
    (div-div-eq-div-mul x 256 (256 ^ m) ∙ ap (λ (y : ℕ). x / y) (sym (pow-succ' 256 m))))

-- Bytes above those that are stored do not matter.
pub le_bytes-mod : (width x : ℕ) → le_bytes width (x % 256 ^ width) ≡ le_bytes width x
unfolding le_bytes
le_bytes-mod zero x = refl
le_bytes-mod (suc width) x =
    let high : ℕ = x / 256 % 256 ^ width in
    let split : x % 256 ^ suc width ≡ high * 256 + x % 256 =
    ap (λ (y : ℕ). x % y) (pow-suc 256 width)
    ∙ mod-mul x (one-le-pow width 256 (zero-lt-suc 255)) (zero-lt-suc 255) in
    ap₂ (λ (low : ℕ) (rest : List ℕ). low ∷ rest)
    (ap (λ (y : ℕ). y % 256) split ∙ omega arith)
    (ap (λ (y : ℕ). le_bytes width (y / 256)) split
    ∙ ap (le_bytes width) (digits_div high (mod-lt x (zero-lt-suc 255)))
    ∙ le_bytes-mod width (x / 256))

-- Writing a number's low m bytes, and the n of the rest after them, writes the number.
pub pasted-le_bytes : (m n : ℕ) (buffer first second : List ℕ) (at place x low high : ℕ)
    → at + (m + n) ≤ length buffer → place ≡ at + m → low ≡ x % 256 ^ m → high ≡ x / 256 ^ m
    → first ≡ pasted buffer at (le_bytes m low) → second ≡ pasted first place (le_bytes n high) → second ≡ pasted buffer at (le_bytes (m + n) x)
pasted-le_bytes m n buffer first second at place x low high room there lower upper one two =
    let part : List ℕ = le_bytes m x in
    let len : length part ≡ m = length-le_bytes m x in
    pasted_then buffer first second at place part (le_bytes n (x / 256 ^ m)) (omega arith) (omega arith)
    (one ∙ ap (pasted buffer at) (ap (le_bytes m) lower ∙ le_bytes-mod m x))
    (two ∙ ap (λ (y : ℕ). pasted first place (le_bytes n y)) upper)
    ∙ ap (pasted buffer at) (sym (le_bytes-add m n x))

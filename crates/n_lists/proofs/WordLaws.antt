-- A word of letters in which no byte has bit 3 holds no N. Assumes nothing.
use mathlib.Core.Path.{◌≡◌, refl, sym, ap, ap₂, ◌∙◌, subst}
use Prim.Native.Nat.{ℕ, zero, suc, ◌+◌, ◌*◌, ◌^◌, ◌≤◌, ◌<◌}
use native.Mathlib.Omega.{arith}
use mathlib.Core.List.{List}
use lib.ListN.{get_or}
use lib.Bits.{bit_and, and_block}
use Rattle.base.specs.Lists.{AllBytes}
use Rattle.base.specs.Numbers.{le}
use Rattle.base.proofs.ListLaws.{below_at}
use Rattle.letter_packing.proofs.LetterCodes.{every_byte}
use Rattle.n_lists.specs.NPlaces.{n_places}
use Rattle.n_lists.proofs.NPlaceLaws.{places_skipped}

bit-step : (a rest mask : ℕ) → a < 256
    → bit_and (a + 256 * rest) (8 + 256 * mask) ≡ bit_and rest mask * 256 + bit_and a 8
bit-step a rest mask small =
    let one : a + 256 * rest ≡ rest * 2 ^ 8 + a = omega arith in
    let two : 8 + 256 * mask ≡ mask * 2 ^ 8 + 8 = omega arith in
    ap₂ bit_and one two ∙ and_block 8 rest mask a 8 small (omega arith)

bytes-clear : (width : ℕ) (list : List ℕ) (i : ℕ) → AllBytes list
    → bit_and (le width list i) (every_byte 8 width) ≡ 0
    → (k : ℕ) → k < width → bit_and (get_or list (i + k) 0) 8 ≡ 0
unfolding le
bytes-clear zero list i bytes clear k h = absurd (omega arith)
bytes-clear (suc width) list i bytes clear zero h =
    let here : i + 0 ≡ i = omega arith in
    let step = bit-step (get_or list i 0) (le width list (i + 1)) (every_byte 8 width)
    (below_at list (omega arith) bytes i) in
    ap (λ (n : ℕ). bit_and (get_or list n 0) 8) here ∙ omega arith
bytes-clear (suc width) list i bytes clear (suc k) h =
    let there : i + suc k ≡ i + 1 + k = omega arith in
    let step = bit-step (get_or list i 0) (le width list (i + 1)) (every_byte 8 width)
    (below_at list (omega arith) bytes i) in
    ap (λ (n : ℕ). bit_and (get_or list n 0) 8) there
    ∙ bytes-clear width list (i + 1) bytes (omega arith) k (omega arith)

n-has-bit : (letter : ℕ) → bit_and letter 8 ≡ 0 → letter ≡ 78 → ⊥
n-has-bit letter clear is =
    let eight : bit_and 78 8 ≡ 0 = subst (λ (l : ℕ). bit_and l 8 ≡ 0) is clear in
    let eq : bit_and 78 8 ≡ 8 = refl in
    omega arith

-- The mask is that of the code.
pub word-skipped : (letters : List ℕ) (i to word : ℕ) → AllBytes letters → i + 8 ≤ to
    → word ≡ le 8 letters i → bit_and word 578721382704613384 ≡ 0
    → n_places letters i to ≡ n_places letters (i + 8) to
word-skipped letters i to word bytes fits is clear =
    places_skipped letters 8 i to fits
    (λ k h.
    n-has-bit (get_or letters (i + k) 0)
    (bytes-clear 8 letters i bytes (ap (λ (w : ℕ). bit_and w 578721382704613384) (sym is) ∙ clear) k
    h))

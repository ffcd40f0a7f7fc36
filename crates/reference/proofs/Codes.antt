-- Codes and their letters. Assumes nothing.
use mathlib.Core.Path.{◌≡◌, refl}
use Prim.Native.Nat.{ℕ, zero, suc, ◌*◌, ◌/◌, ◌%◌, ◌^◌, ◌<◌}
use native.Mathlib.Omega.{arith}
use Rattle.dna.specs.Reference.{letter_of_code}

-- A base is a code that has a letter.
pub code-small : (code base : ℕ) → code ≡ base → base < 4 → code < 5
code-small code base e small = omega arith

-- The letter of a code, out of one constant.
pub letter-shifted : (code : ℕ) → code < 5 → 336421405505 / 2 ^ (8 * code) % 256 ≡ letter_of_code code
unfolding letter_of_code
letter-shifted zero h = refl
letter-shifted (suc zero) h = refl
letter-shifted (suc (suc zero)) h = refl
letter-shifted (suc (suc (suc zero))) h = refl
letter-shifted (suc (suc (suc (suc zero)))) h = refl
letter-shifted (suc (suc (suc (suc (suc code))))) h = absurd (let z : ◌≡◌ {A = ℕ} 0 1 = omega arith in omega arith)

-- Groups of eight reads (01, Lengths and Records): all of eight, the last of 1 to 8.
use Rattle.std.specs.Prelude.{ℕ, ◌+◌, ◌-◌, ◌*◌, ◌/◌, min, Bool, false, cond, List, map, length, get_or}
use Rattle.base.specs.Lists.{build, part, any}
use Rattle.base.specs.Packed.{bit, byte_of}

-- How many groups n reads make.
unfoldable pub group_count : (n : ℕ) → ℕ
group_count n = (n + 7) / 8

-- A list in groups of eight.
unfoldable pub in_groups {ℓ} : {A : Type ℓ} (list : List A) → List (List A)
in_groups list = build (group_count (length list)) (λ g. part list (8 * g) 8)

-- How many reads each group has, of n reads in all.
unfoldable pub group_sizes : (n : ℕ) → List ℕ
group_sizes n = build (group_count n) (λ g. min 8 (n - 8 * g))

-- A byte of flags for a group: bit k is set exactly if the test holds of read k; bits past the last
-- read are 0.
unfoldable pub flag_byte : {A : Type 0} (test : A → Bool) (group : List A) → ℕ
flag_byte test group = byte_of 2 8 (λ k. cond (get_or (map test group) k false) 1 0)

-- A bit past the last of so many reads is set.
unfoldable pub byte_bit_stray : (count byte : ℕ) → Bool
byte_bit_stray count byte = any (bit byte) (build (8 - count) (λ k. count + k))

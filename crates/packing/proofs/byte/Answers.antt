-- `packing::byte` meets its contract: the codes are digits, and those that are missing are 0.
-- Assumes nothing.
use mathlib.Core.Path.{◌≡◌, refl, ap, ◌∙◌}
use Prim.Native.Nat.{ℕ, suc, ◌+◌, ◌-◌, ◌*◌, ◌/◌, ◌%◌, ◌^◌}
use native.Mathlib.Omega.{arith}
use lib.ListN.{length, get_or}
use Rattle.base.specs.Packed.{byte_of}
use Rattle.base.proofs.PackedLaws.{shift_one}
use Rattle.packing.proofs.Widths.{next_fits, lacking_zero}
use Rattle.packing.proofs.byte.Goals as goal

pub loop-code-init : goal.loop-code-init
unfolding byte_of
loop-code-init g c = refl

pub overflow_mul-byte : goal.overflow_mul-byte
overflow_mul-byte g c =
    rw (shift_one 8 g.row.BITS c.requires.width.1, c.loop-code.invariant)
    (omega (arith, next_fits g.row.BITS c.requires.width c.args.codes.now c.requires.below c.loop-code.code-index (omega arith)))

pub overflow_add-byte : goal.overflow_add-byte
overflow_add-byte g c =
    rw (shift_one 8 g.row.BITS c.requires.width.1, c.loop-code.invariant)
    (omega (arith, next_fits g.row.BITS c.requires.width c.args.codes.now c.requires.below c.loop-code.code-index (omega arith)))

pub loop-code-preserved : goal.loop-code-preserved
unfolding byte_of
loop-code-preserved g c =
    let one : suc c.loop-code.code-index ≡ c.loop-code.code-index + 1 = omega arith in
    rw (shift_one 8 g.row.BITS c.requires.width.1, c.loop-code.invariant)
    (ap (λ (j : ℕ). byte_of (2 ^ g.row.BITS) j (λ k. get_or c.args.codes.now k 0)) one)

pub returns : goal.returns
returns g c =
    let bits = g.row.BITS in
    let codes = c.args.codes.now in
    let all : c.loop-code.code-index ≡ length codes = omega arith in
    ap (λ (x : ℕ). x * 2 ^ (bits * (8 / bits - length codes)) % 256)
    (c.loop-code.invariant ∙ ap (λ (j : ℕ). byte_of (2 ^ bits) j (λ k. get_or codes k 0)) all)
    ∙ lacking_zero bits c.requires.width codes c.requires.below c.requires.few.1

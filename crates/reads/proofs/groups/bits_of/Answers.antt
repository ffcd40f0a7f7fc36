-- `reads::groups::bits_of` meets its contract: one shift serves the four bytes. Assumes nothing.
use Prim.Native.Nat.{◌%◌}
use native.Mathlib.Omega.{arith}
use Rattle.reads.specs.Cursor.{flags_of, bits_at}
use Rattle.reads.proofs.GroupByteLaws.{shifted-bit, shifted-low}
use Rattle.reads.proofs.groups.bits_of.Goals as goal

pub returns : goal.returns
unfolding flags_of bits_at
returns c =
    let group = c.args.group in
    let k = c.args.read % 8 in
    let low = shifted-low group k (omega arith) in
    let forward = shifted-bit group 256 k (omega arith) in
    let n = shifted-bit group 65536 k (omega arith) in
    let step = shifted-bit group 16777216 k (omega arith) in
    λ t. record { perfect = low t; forward = forward t; with_n = n t; step = step t }

-- Parts that are written one after the other. Assumes nothing.
use mathlib.Core.Path.{◌≡◌}
use Prim.Native.Nat.{ℕ, ◌+◌, ◌≤◌}
use native.Mathlib.Omega.{arith}
use mathlib.Core.List.{List, ◌++◌}
use lib.ListN.{length, length-append}
use Rattle.base.specs.Paste.{pasted}
use Rattle.base.proofs.PasteLaws.{pasted_then}

-- A part is written, and the place is the one after it.
abbrev pub Put : (buffer : List ℕ) (at : ℕ) (part out : List ℕ) (place : ℕ) → Type 0
Put buffer at part out place = (out ≡ pasted buffer at part) × (place ≡ at + length part)

-- One more.
pub put_next : (buffer : List ℕ) (at : ℕ) (part next middle out : List ℕ) (place end : ℕ)
    → Put buffer at part middle place → place ≤ length buffer → Put middle place next out end
    → Put buffer at (part ++ next) out end
put_next buffer at part next middle out place end before room after = (
  pasted_then buffer middle out at place part next (omega (arith, before.1)) before.1
      before.0 after.0,
  (let size : length (part ++ next) ≡ length part + length next = length-append part next in
      omega (arith, before.1, after.1)),
)

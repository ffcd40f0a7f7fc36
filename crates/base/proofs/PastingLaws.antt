-- Writing a list part by part: what is left to be written, and what the buffer becomes. Assumes
-- nothing.
use mathlib.Core.Path.{◌≡◌, refl, sym, ap, ap₂, ◌∙◌}
use Prim.Native.Nat.{ℕ, ◌+◌, ◌≤◌}
use native.Mathlib.Omega.{arith}
use mathlib.Core.List.{List, [], ◌++◌}
use lib.ListN.{length, length-append}
use Rattle.base.specs.Paste.{pasted}
use Rattle.base.proofs.PasteLaws.{pasted_nil, pasted_append, length_pasted}

-- Writing `left` from `place` on makes the buffer `goal` and stops at `end`.
pub record Pasting (goal : List ℕ) (end : ℕ) (out : List ℕ) (place : ℕ)
    (left : List ℕ) : Type 0 where
  pub becomes : pasted out place left ≡ goal
  pub ends : place + length left ≡ end
  pub room : place + length left ≤ length out

pub pasting-start : (buffer : List ℕ) (at : ℕ) (part : List ℕ) → at + length part ≤ length buffer
    → Pasting (pasted buffer at part) (at + length part) buffer at part
pasting-start buffer at part fits = record { becomes = refl; ends = refl; room = fits }

module _ {goal : List ℕ} {end : ℕ} {out : List ℕ} {place : ℕ} {left : List ℕ}
    (writing : Pasting goal end out place left) where
  -- The next part fits.
  pub pasting_room : (part rest : List ℕ) → left ≡ part ++ rest → place + length part ≤ length out
  pasting_room part rest split =
      let n : length left ≡ length part + length rest = ap length split ∙ length-append part rest in
      omega (arith, writing.room)

  -- It is written.
  pub pasting_turn : (part rest out' : List ℕ) (place' : ℕ) → left ≡ part ++ rest
      → out' ≡ pasted out place part
      → place' ≡ place + length part → Pasting goal end out' place' rest
  pasting_turn part rest out' place' split written there =
      let n : length left ≡ length part + length rest = ap length split ∙ length-append part rest in
      let fits : place + length part ≤ length out = pasting_room part rest split in
      let size : length out' ≡ length out = ap length written ∙ length_pasted out place part fits in
      record {
        becomes =
            ap₂ (λ (o : List ℕ) (p : ℕ). pasted o p rest) written there
            ∙ pasted_append out place part fits rest
            ∙ ap (pasted out place) (sym split)
            ∙ writing.becomes;
        ends = omega (arith, writing.ends);
        room = omega (arith, writing.room);
      }

  -- Nothing is left.
  pub pasting_end : left ≡ [] → (out ≡ goal) × (place ≡ end)
  pasting_end none = (
    sym (pasted_nil out place) ∙ ap (pasted out place) (sym none) ∙ writing.becomes,
    omega (arith, ap length none, writing.ends),
  )

-- A part that is written in pieces, which may overlap. Assumes nothing.
use mathlib.Core.Path.{◌≡◌, refl, sym, ap, ◌∙◌}
use Prim.Native.Nat.{ℕ, ◌+◌, ◌-◌, ◌≤◌, ◌<◌}
use native.Mathlib.Nat.{not-suc-le-zero}
use native.Mathlib.Omega.{arith}
use mathlib.Core.List.{List, [], ◌∷◌}
use lib.ListN.{length, get_or, set}
use lib.Seq.{ext_get_or}
use Rattle.base.specs.Paste.{pasted}
use Rattle.base.proofs.ListLaws.{by_order}
use Rattle.base.proofs.PasteLaws.{length_pasted, get_or_pasted_before, get_or_pasted_inside}
use Rattle.base.proofs.PasteLaws.{get_or_pasted_after, set_pasted}

-- The first `done` elements of a part stand in a buffer from index `at` on; outside the part all is as it was.
pub record Filled (old new : List ℕ) (at : ℕ) (part : List ℕ) (done : ℕ) : Type 0 where
  pub sized : length new ≡ length old
  pub before : (i : ℕ) → i < at → get_or new i 0 ≡ get_or old i 0
  pub after : (i : ℕ) → at + length part ≤ i → get_or new i 0 ≡ get_or old i 0
  pub stands : (k : ℕ) → k < done → get_or new (at + k) 0 ≡ get_or part k 0

pub filled_none : (buffer : List ℕ) (at : ℕ) (part : List ℕ) → Filled buffer buffer at part 0
filled_none buffer at part =
    record {
      sized = refl;
      before = λ i h. refl;
      after = λ i h. refl;
      stands = λ k h. absurd (not-suc-le-zero h);
    }

-- A piece of the part is written at its place: it may overlap what stands, and leaves no gap.
pub filled_more : {old now : List ℕ} {at : ℕ} {part : List ℕ} {done : ℕ} (new piece : List ℕ) (place k more : ℕ)
    → Filled old now at part done → at + length part ≤ length old → new ≡ pasted now place piece → place ≡ at + k
    → k ≤ done → k + length piece ≤ length part → more ≤ k + length piece
    → ((j : ℕ) → j < length piece → get_or piece j 0 ≡ get_or part (k + j) 0) → Filled old new at part more
filled_more {old} {now} {at} {part} {done} new piece place k more filled room e at_place near inside least same =
    let size : length now ≡ length old = filled.sized in
    let inside-now : place + length piece ≤ length now = omega arith in
    let at_new : (i : ℕ) → get_or new i 0 ≡ get_or (pasted now place piece) i 0 = λ i. ap (λ (l : List ℕ). get_or l i 0) e in
    record {
      sized = ap length e ∙ length_pasted now place piece inside-now ∙ size;
      before = λ i h. at_new i ∙ get_or_pasted_before now place piece inside-now i 0 (omega arith) ∙ filled.before i h;
      after = λ i h. at_new i ∙ get_or_pasted_after now place piece inside-now i 0 (omega arith) ∙ filled.after i h;
      stands = λ i h.
          by_order i k
          (λ l.
          at_new (at + i) ∙ get_or_pasted_before now place piece inside-now (at + i) 0 (omega arith) ∙ filled.stands i (omega arith))
          (λ g.
          let j : ℕ = i - k in
          let f : at + i ≡ place + j = omega arith in
          let s : k + j ≡ i = omega arith in
          at_new (at + i)
          ∙ ap (λ (n : ℕ). get_or (pasted now place piece) n 0) f
          ∙ get_or_pasted_inside now place piece inside-now j 0 (omega arith)
          ∙ same j (omega arith)
          ∙ ap (λ (n : ℕ). get_or part n 0) s);
    }

-- One store writes the next element of the part.
pub filled_next : {old now : List ℕ} {at : ℕ} {part : List ℕ} {k : ℕ} (place x : ℕ) → Filled old now at part k
    → at + length part ≤ length old → k < length part → place ≡ at + k → x ≡ get_or part k 0
    → Filled old (set now place x) at part (k + 1)
filled_next {old} {now} {at} {part} {k} place x filled room h there e =
    let size = filled.sized in
    filled_more (set now place x) (x ∷ []) place k (k + 1) filled room (set_pasted now place x (omega arith)) there
    (omega arith) (omega arith) (omega arith)
    (λ j l.
    let none : j ≡ 0 = omega arith in
    let here : k + 0 ≡ k = omega arith in
    rw (none, here) e)

-- The whole part stands.
pub filled-all : {old new : List ℕ} {at : ℕ} {part : List ℕ} {done : ℕ} → Filled old new at part done
    → at + length part ≤ length old → length part ≤ done → new ≡ pasted old at part
filled-all {old} {new} {at} {part} {done} filled room all =
    ext_get_or 0 new (pasted old at part) (filled.sized ∙ sym (length_pasted old at part room))
    (λ i h.
    by_order i at
    (λ l. filled.before i l ∙ sym (get_or_pasted_before old at part room i 0 l))
    (λ g.
    by_order i (at + length part)
    (λ l.
    let k : ℕ = i - at in
    let e : i ≡ at + k = omega arith in
    rw e (filled.stands k (omega arith) ∙ sym (get_or_pasted_inside old at part room k 0 (omega arith))))
    (λ m. filled.after i m ∙ sym (get_or_pasted_after old at part room i 0 m))))

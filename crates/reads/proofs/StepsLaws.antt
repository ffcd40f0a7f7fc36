-- Many steps: n and then m are n + m; how many reads they take, and where they end. Assumes
-- nothing.
use mathlib.Core.Path.{◌≡◌, refl, sym, ap, ◌∙◌, subst}
use Prim.Native.Nat.{ℕ, zero, suc, ◌+◌}
use native.Mathlib.Nat.{add-zero, zero-add, suc-add}
use native.Mathlib.Omega.{arith}
use mathlib.Core.Bool.{Bool}
use mathlib.Core.List.{List, [], ◌∷◌, ◌++◌}
use lib.ListN.{length}
use Rattle.base.specs.Lists.{AllBytes}
use Rattle.base.specs.Answer.{found, and_then}
use Rattle.base.proofs.AnswerLaws.{found-same, and_then-parts}
use Rattle.dna.specs.Walk.{Walk}
use Rattle.reads.specs.declared.ReadCursor.{ReadCursor}
use Rattle.reads.specs.ReadWalk.{Source}
use Rattle.reads.specs.Cursor.{SourceFits, CursorFits, first_read, Taken, Arrived, read_step}
use Rattle.reads.specs.Cursor.{read_steps}
use Rattle.reads.proofs.AndThenLaws.{and_then_assoc, and_then_cong, and_then-same}
use Rattle.reads.proofs.TakenLaws.{TakenStands, taken-stands, cursor-fits}

-- n steps, and then m, are n + m steps.
pub steps-add : (n m : ℕ) (source : Source) (cursor : ReadCursor)
    → read_steps (n + m) source cursor
    ≡ and_then (read_steps n source cursor) (λ first next.
    and_then (read_steps m source first.cursor) (λ second end.
    found (record { reads = first.reads ++ second.reads; cursor = second.cursor }) end))
unfolding read_steps and_then
steps-add zero m source cursor =
    ap (λ (k : ℕ). read_steps k source cursor) (zero-add m)
    ∙ sym (and_then-same (read_steps m source cursor))
steps-add (suc n) m source cursor =
    ap (λ (k : ℕ). read_steps k source cursor) (suc-add n m)
    ∙ and_then_cong (read_step source cursor) _ _
    (λ taken next.
    let some' : Walk Arrived = read_steps n source taken.cursor in
    ap
    (λ (walk : Walk Arrived).
    and_then walk (λ arrived end.
    found (record { reads = taken.read ∷ arrived.reads; cursor = arrived.cursor }) end))
    (steps-add n m source taken.cursor)
    ∙ and_then_assoc some' _ _
    ∙ and_then_cong some' _ _ (λ first next'. and_then_assoc (read_steps m source first.cursor) _ _)
    ∙ sym (and_then_assoc some' _ _))
    ∙ sym (and_then_assoc (read_step source cursor) _ _)

-- What n + m steps found was found by n steps, and then by m.
pub record StepsSplit (n m : ℕ) (source : Source) (cursor : ReadCursor) (arrived : Arrived)
    (end : ℕ) : Type 0 where
  pub first : Arrived
  pub place : ℕ
  pub second : Arrived
  pub first_steps : read_steps n source cursor ≡ found first place
  pub second_steps : read_steps m source first.cursor ≡ found second end
  pub reads-are : arrived.reads ≡ first.reads ++ second.reads
  pub cursor_is : arrived.cursor ≡ second.cursor

pub steps-split : (n m : ℕ) (source : Source) (cursor : ReadCursor) (arrived : Arrived) (end : ℕ)
    → read_steps (n + m) source cursor ≡ found arrived end
    → StepsSplit n m source cursor arrived end
steps-split n m source cursor arrived end e =
    and_then-parts (read_steps n source cursor) _ (sym (steps-add n m source cursor) ∙ e)
    (λ first place e₁ e₂.
    and_then-parts (read_steps m source first.cursor) _ e₂ (λ second last e₃ e₄.
    let same = found-same e₄ in
    record {
      first = first;
      place = place;
      second = second;
      first_steps = e₁;
      second_steps = e₃ ∙ ap (found second) same.1;
      reads-are = sym (ap (λ (a : Arrived). a.reads) same.0);
      cursor_is = sym (ap (λ (a : Arrived). a.cursor) same.0);
    }))

-- So many steps take so many reads, and end where the cursor then stands.
pub record StepsCounted (n : ℕ) (cursor : ReadCursor) (arrived : Arrived) (end : ℕ) : Type 0 where
  pub count : length arrived.reads ≡ n
  pub index : arrived.cursor.read ≡ cursor.read + n
  pub end_is : end ≡ arrived.cursor.at

pub steps-counted : (n : ℕ) (source : Source) (cursor : ReadCursor) (arrived : Arrived) (end : ℕ)
    → read_steps n source cursor ≡ found arrived end → StepsCounted n cursor arrived end
unfolding read_steps
steps-counted zero source cursor arrived end e =
    let same = found-same e in
    subst (λ (a : Arrived). StepsCounted 0 cursor a end) same.0
    (record { count = refl; index = sym (add-zero cursor.read); end_is = sym same.1 })
steps-counted (suc n) source cursor arrived end e =
    let ih : (c : ReadCursor) (a : Arrived) (i : ℕ) → read_steps n source c ≡ found a i
    → StepsCounted n c a i
    = λ c a i. steps-counted n source c a i in
    and_then-parts (read_step source cursor) _ e (λ taken next e₁ e₂.
    and_then-parts (read_steps n source taken.cursor) _ e₂ (λ rest last e₃ e₄.
    let same = found-same e₄ in
    let counted : StepsCounted n taken.cursor rest last = ih taken.cursor rest last e₃ in
    let stands : TakenStands source cursor taken next = taken-stands source cursor taken next e₁ in
    subst (λ (a : Arrived). StepsCounted (suc n) cursor a end) same.0
    (record {
      count = ap suc counted.count;
      index = omega (arith, counted.index, stands.read_is);
      end_is = sym same.1 ∙ counted.end_is;
    })))

-- A cursor that fits fits after some steps.
pub steps-fit : (n : ℕ) (source : Source) (cursor : ReadCursor) (arrived : Arrived) (end : ℕ)
    → AllBytes source.dna → SourceFits source → CursorFits source.dna cursor
    → read_steps n source cursor ≡ found arrived end → CursorFits source.dna arrived.cursor
unfolding read_steps
steps-fit zero source cursor arrived end bytes fits before e =
    subst (λ (a : Arrived). CursorFits source.dna a.cursor) (found-same e).0 before
steps-fit (suc n) source cursor arrived end bytes fits before e =
    let ih : (c : ReadCursor) (a : Arrived) (i : ℕ) → CursorFits source.dna c
    → read_steps n source c ≡ found a i → CursorFits source.dna a.cursor
    = λ c a i. steps-fit n source c a i bytes fits in
    and_then-parts (read_step source cursor) _ e (λ taken next e₁ e₂.
    and_then-parts (read_steps n source taken.cursor) _ e₂ (λ rest last e₃ e₄.
    subst (λ (a : Arrived). CursorFits source.dna a.cursor) (found-same e₄).0
    (ih taken.cursor rest last
    (cursor-fits source cursor taken next bytes fits before e₁) e₃)))

pub first_fits : (dna : List ℕ) (fixed : Bool) (each : ℕ) → CursorFits dna (first_read fixed each)
unfolding first_read
first_fits dna fixed each = record { inside = omega arith; near = omega arith }

-- One step.
pub one-step : (source : Source) (cursor : ReadCursor) (one : Arrived) (end : ℕ)
    → read_steps 1 source cursor ≡ found one end
    → (taken : Taken) × ((read_step source cursor ≡ found taken end)
    × (one ≡ record { reads = taken.read ∷ []; cursor = taken.cursor }))
unfolding read_steps
one-step source cursor one end e =
    and_then-parts (read_step source cursor) _ e (λ taken next e₁ e₂.
    and_then-parts (read_steps 0 source taken.cursor) _ e₂ (λ rest last e₃ e₄.
    let stop = found-same e₃ in
    let same = found-same e₄ in
    let stands : TakenStands source cursor taken next = taken-stands source cursor taken next e₁ in
    let place : next ≡ end = omega (arith, stands.at_is, stands.end_is, stop.1, same.1) in (
      taken,
      (
        e₁ ∙ ap (found taken) place,
        sym
            (ap
            (λ (a : Arrived). record { reads = taken.read ∷ a.reads; cursor = a.cursor })
            stop.0
            ∙ same.0),
      ),
    )))

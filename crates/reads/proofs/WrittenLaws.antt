-- The lent buffers turn by turn: what a walk leaves from a cursor on, with what was written before.
-- Assumes nothing.
use mathlib.Core.Path.{◌≡◌, refl, sym, ap, ap₂, ◌∙◌}
use Prim.Native.Nat.{ℕ, ◌+◌, ◌-◌, ◌≤◌, ◌<◌}
use mathlib.Core.Bool.{Bool, true, false, cond}
use mathlib.Core.List.{List, [], ◌∷◌, ◌++◌, map, flatten}
use lib.ListN.{length}
use Rattle.base.specs.Lists.{total, places_from}
use Rattle.base.specs.Paste.{pasted}
use Rattle.base.specs.Answer.{found, refused}
use Rattle.base.proofs.ListLaws.{length-build}
use Rattle.base.proofs.PasteLaws.{pasted_nil, pasted_append}
use Rattle.dna.specs.Letters.{record_letters}
use Rattle.dna.specs.Walk.{ReadRefusal, Walk}
use Rattle.reads.specs.declared.ReadCursor.{ReadCursor}
use Rattle.reads.specs.ReadWalk.{Source, FoundRead}
use Rattle.reads.specs.Cursor.{Taken, Arrived, read_step, read_steps}
use Rattle.reads.specs.Walked.{found_reads, is_arrived, read_letters, read_size, letters_of}
use Rattle.reads.specs.Walked.{ends_of, size_of}
use Rattle.reads.proofs.TurnLaws.{steps_none, steps_refused, reads_found}

-- What a walk leaves if it writes, from element `at` on, what `written` gives of its reads.
unfoldable pub pasted_on : (write : Bool) (out : List ℕ) (at : ℕ)
    (written : List FoundRead → List ℕ) (walk : Walk Arrived) → List ℕ
pasted_on write out at written walk = cond write (pasted out at (written (found_reads walk))) out

-- A part is written, the rest is left.
pasted-step : (write : Bool) (out out' : List ℕ) (at at' : ℕ) (whole part rest : List ℕ)
    → (write ≡ true → whole ≡ part ++ rest) → (write ≡ true → at + length part ≤ length out)
    → out' ≡ cond write (pasted out at part) out → at' ≡ at + length part
    → cond write (pasted out at whole) out ≡ cond write (pasted out' at' rest) out'
pasted-step true out out' at at' whole part rest split room new on =
    ap (pasted out at) (split refl)
    ∙ sym (pasted_append out at part (room refl) rest)
    ∙ sym (ap₂ (λ (o : List ℕ) (k : ℕ). pasted o k rest) new on)
pasted-step false out out' at at' whole part rest split room new on = sym new

-- Nothing is written.
pasted-none : (write : Bool) (out : List ℕ) (at : ℕ) → cond write (pasted out at []) out ≡ out
pasted-none true out at = pasted_nil out at
pasted-none false out at = refl

module _ (write : Bool) (out : List ℕ) (at : ℕ) (written : List FoundRead → List ℕ)
    (source : Source) (cursor : ReadCursor) (n : ℕ) where
  -- A part of the next read, then what is left.
  pub pasted_turn : (out' : List ℕ) (at' : ℕ) (next : ReadCursor) (part : List ℕ)
      (written' : List FoundRead → List ℕ) (taken : Taken) {end : ℕ}
      → 0 < n → read_step source cursor ≡ found taken end → next ≡ taken.cursor
      → ((reads : List FoundRead) → written (taken.read ∷ reads) ≡ part ++ written' reads)
      → (write ≡ true → is_arrived (read_steps n source cursor) ≡ true)
      → (write ≡ true → at + length part ≤ length out)
      → out' ≡ cond write (pasted out at part) out → at' ≡ at + length part
      → pasted_on write out at written (read_steps n source cursor)
      ≡ pasted_on write out' at' written' (read_steps (n - 1) source next)
  unfolding pasted_on
  pasted_turn out' at' next part written' taken more e there split arrives room new on =
      let rest : ReadCursor → List FoundRead =
      λ c. found_reads (read_steps (n - 1) source c) in
      pasted-step write out out' at at' (written (found_reads (read_steps n source cursor))) part
      (written' (rest taken.cursor))
      (λ yes'.
      ap written (reads_found source cursor n more e (arrives yes')).1
      ∙ split (rest taken.cursor))
      room new on
      ∙ ap
      (λ (c : ReadCursor). cond write (pasted out' at' (written' (rest c))) out')
      (sym there)

  module _ (none : written [] ≡ []) where
    -- Nothing is left where the walk is refused.
    pub pasted_refused : {why : ReadRefusal} → 0 < n → read_step source cursor ≡ refused why
        → pasted_on write out at written (read_steps n source cursor) ≡ out
    unfolding pasted_on found_reads
    pasted_refused more e =
        ap (λ (walk : Walk Arrived). pasted_on write out at written walk)
        (steps_refused source cursor n more e)
        ∙ ap (λ (part : List ℕ). cond write (pasted out at part) out) none
        ∙ pasted-none write out at

    -- Nor where no step is left.
    pub pasted_end : n ≤ 0 → pasted_on write out at written (read_steps n source cursor) ≡ out
    unfolding pasted_on found_reads
    pasted_end last =
        ap (λ (walk : Walk Arrived). pasted_on write out at written walk)
        (steps_none source cursor n last)
        ∙ ap (λ (part : List ℕ). cond write (pasted out at part) out) none
        ∙ pasted-none write out at

-- ---- Letters and ends

pub letters_none : (reference : List ℕ) → letters_of reference [] ≡ []
unfolding letters_of flatten
letters_none reference = refl

pub letters-cons : (reference : List ℕ) (read : FoundRead) (reads : List FoundRead)
    → letters_of reference (read ∷ reads) ≡ read_letters reference read ++ letters_of reference reads
unfolding letters_of flatten
letters-cons reference read reads = refl

pub length-read_letters : (reference : List ℕ) (read : FoundRead)
    → length (read_letters reference read) ≡ read_size read
unfolding read_letters read_size record_letters
length-read_letters reference read = length-build _ _

pub ends-none : (from : ℕ) → ends_of from [] ≡ []
unfolding ends_of places_from
ends-none from = refl

pub ends-cons : (from from' : ℕ) (read : FoundRead) (reads : List FoundRead)
    → from' ≡ from + read_size read
    → ends_of from (read ∷ reads) ≡ (from' ∷ []) ++ ends_of from' reads
unfolding ends_of places_from
ends-cons from from' read reads on =
    sym (ap (λ (k : ℕ). k ∷ places_from k (map read_size reads)) on)

pub size-cons : (read : FoundRead) (reads : List FoundRead)
    → size_of (read ∷ reads) ≡ read_size read + size_of reads
unfolding size_of total
size-cons read reads = refl

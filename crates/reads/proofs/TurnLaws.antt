-- A walk turn by turn: what it answers and leaves from a cursor on, with what was counted and
-- written before. Assumes nothing.
use mathlib.Core.Path.{◌≡◌, refl, sym, ap, ap₂, ◌∙◌}
use Prim.Native.Nat.{ℕ, zero, suc, ◌-◌, ◌≤◌, ◌<◌}
use native.Mathlib.Nat.{not-suc-le-zero}
use native.Mathlib.Omega.{arith}
use mathlib.Core.Bool.{Bool, true}
use mathlib.Core.List.{List, [], ◌∷◌}
use Rattle.std.specs.Prelude.{Result, Ok, Err}
use Rattle.base.specs.Answer.{found, refused, and_then}
use Rattle.base.proofs.Tests.{absurd_test}
use Rattle.dna.specs.Counts.{Counted, zero_counts, plus, sum_counts}
use Rattle.dna.specs.Walk.{ReadRefusal, Walk}
use Rattle.dna.specs.declared.Counts.{Counts}
use Rattle.dna.proofs.PlusLaws.{none-plus, plus_none, plus_assoc}
use Rattle.format.specs.Answered.{counted_of}
use Rattle.reads.specs.declared.Read.{Read}
use Rattle.reads.specs.declared.ReadCursor.{ReadCursor}
use Rattle.reads.specs.declared.Walked.{Walked}
use Rattle.reads.specs.ReadWalk.{Source}
use Rattle.reads.specs.Cursor.{Taken, Arrived, read_step, read_steps, read_in}
use Rattle.reads.specs.Walked.{found_reads, is_arrived, read_counts, reads_counts, counts_of}
use Rattle.reads.specs.Walked.{no_read, last_of, walk_answer}

-- ---- One step, then the others

-- A read before those that were found.
abbrev one_more : (taken : Taken) (rest : Walk Arrived) → Walk Arrived
one_more taken rest =
    and_then rest (λ arrived end.
    found (record { reads = taken.read ∷ arrived.reads; cursor = arrived.cursor }) end)

module _ (source : Source) (cursor : ReadCursor) where
  -- No step is left.
  pub steps_none : (n : ℕ) → n ≤ 0
      → read_steps n source cursor ≡ found (record { reads = []; cursor = cursor }) cursor.at
  unfolding read_steps
  steps_none zero h = refl
  steps_none (suc n) h = absurd (omega arith)

  pub steps_refused : (n : ℕ) {why : ReadRefusal} → 0 < n → read_step source cursor ≡ refused why
      → read_steps n source cursor ≡ refused why
  unfolding read_steps and_then
  steps_refused zero more e = absurd (not-suc-le-zero more)
  steps_refused (suc n) more e = rw e

  pub steps_found : (n : ℕ) {taken : Taken} {end : ℕ} → 0 < n
      → read_step source cursor ≡ found taken end
      → read_steps n source cursor ≡ one_more taken (read_steps (n - 1) source taken.cursor)
  unfolding read_steps and_then
  steps_found zero more e = absurd (not-suc-le-zero more)
  steps_found (suc n) {taken} more e =
      let d : n ≡ suc n - 1 = omega arith in
      rw e (ap (λ (m : ℕ). one_more taken (read_steps m source taken.cursor)) d)

-- Reads that were found with one before them.
more_reads : (taken : Taken) (rest : Walk Arrived) → is_arrived (one_more taken rest) ≡ true
    → (is_arrived rest ≡ true) × (found_reads (one_more taken rest) ≡ taken.read ∷ found_reads rest)
unfolding and_then is_arrived found_reads
more_reads taken (found arrived end) e = (refl, refl)
more_reads taken (refused why) e = absurd_test (sym e)

pub reads_found : (source : Source) (cursor : ReadCursor) (n : ℕ) {taken : Taken} {end : ℕ}
    → 0 < n → read_step source cursor ≡ found taken end
    → is_arrived (read_steps n source cursor) ≡ true
    → (is_arrived (read_steps (n - 1) source taken.cursor) ≡ true)
    × (found_reads (read_steps n source cursor)
    ≡ taken.read ∷ found_reads (read_steps (n - 1) source taken.cursor))
reads_found source cursor n {taken} more e arrives =
    let is = steps_found source cursor n more e in
    let parts = more_reads taken (read_steps (n - 1) source taken.cursor)
    (sym (ap is_arrived is) ∙ arrives) in
    (parts.0, ap found_reads is ∙ parts.1)

-- ---- The answer

-- It arrived.
abbrev pub walked_at : (cursor : ReadCursor) (last : Read) (counts : Counts)
    → Result Walked ReadRefusal
walked_at cursor last counts = Ok (record { cursor = cursor; last = last; counts = counts })

-- What a walk answers with these counts and this read before it.
unfoldable pub walked_on : (differences : Bool) (reference : List ℕ) (counts : Counts) (last : Read)
    (walk : Walk Arrived) → Result Walked ReadRefusal
walked_on differences reference counts last (found arrived next) =
    walked_at arrived.cursor (last_of last arrived.reads)
    (counts_of (plus (counted_of counts) (reads_counts differences reference arrived.reads)))
walked_on differences reference counts last (refused why) =
    Err why

-- Before the first turn.
pub walked-first : (differences : Bool) (reference : List ℕ) (counts : Counts) (last : Read)
    (walk : Walk Arrived) → counts ≡ counts_of zero_counts → last ≡ no_read
    → walk_answer differences reference walk ≡ walked_on differences reference counts last walk
unfolding walk_answer walked_on
walked-first differences reference counts last (found arrived next) none first =
    let later : Counted = reads_counts differences reference arrived.reads in
    sym
    (ap₂
    (λ (c : Counted) (r : Read).
    walked_at arrived.cursor (last_of r arrived.reads) (counts_of c))
    (ap (λ (c : Counts). plus (counted_of c) later) none ∙ none-plus later) first)
walked-first differences reference counts last (refused why) none first = refl

-- One read more.
walked_more : (differences : Bool) (reference : List ℕ) (counts counts' : Counts)
    (last last' : Read) (taken : Taken) (rest : Walk Arrived)
    → counts' ≡ counts_of (plus (counted_of counts) (read_counts differences reference taken.read))
    → last' ≡ read_in taken.read
    → walked_on differences reference counts last (one_more taken rest)
    ≡ walked_on differences reference counts' last' rest
unfolding walked_on and_then last_of reads_counts sum_counts
walked_more differences reference counts counts' last last' taken (found arrived end) more is =
    let now' : Counted = read_counts differences reference taken.read in
    let later : Counted = reads_counts differences reference arrived.reads in
    ap
    (λ (c : Counted).
    walked_at arrived.cursor (last_of (read_in taken.read) arrived.reads) (counts_of c))
    (sym (plus_assoc (counted_of counts) now' later))
    ∙ sym
    (ap₂
    (λ (c : Counts) (r : Read).
    walked_at arrived.cursor (last_of r arrived.reads) (counts_of (plus (counted_of c) later)))
    more is)
walked_more differences reference counts counts' last last' taken (refused why) more is = refl

module _ (differences : Bool) (reference : List ℕ) (counts : Counts) (last : Read)
    (source : Source) (cursor : ReadCursor) (n : ℕ) where
  pub walked_turn : (counts' : Counts) (last' : Read) (next : ReadCursor) (taken : Taken)
      {end : ℕ} → 0 < n → read_step source cursor ≡ found taken end
      → counts'
      ≡ counts_of (plus (counted_of counts) (read_counts differences reference taken.read))
      → last' ≡ read_in taken.read → next ≡ taken.cursor
      → walked_on differences reference counts last (read_steps n source cursor)
      ≡ walked_on differences reference counts' last' (read_steps (n - 1) source next)
  walked_turn counts' last' next taken more e added is there =
      ap (walked_on differences reference counts last) (steps_found source cursor n more e)
      ∙ walked_more differences reference counts counts' last last' taken
      (read_steps (n - 1) source taken.cursor) added is
      ∙ ap
      (λ (c : ReadCursor).
      walked_on differences reference counts' last' (read_steps (n - 1) source c))
      (sym there)

  -- A refusal is passed on.
  pub walked_refused : (why : ReadRefusal) → 0 < n → read_step source cursor ≡ refused why
      → walked_on differences reference counts last (read_steps n source cursor) ≡ Err why
  unfolding walked_on
  walked_refused why more e =
      ap (walked_on differences reference counts last) (steps_refused source cursor n more e)

  -- No step is left.
  pub walked_end : n ≤ 0
      → walked_on differences reference counts last (read_steps n source cursor)
      ≡ walked_at cursor last counts
  unfolding walked_on last_of reads_counts sum_counts
  walked_end none =
      ap (walked_on differences reference counts last) (steps_none source cursor n none)
      ∙ ap (λ (c : Counted). walked_at cursor last (counts_of c)) (plus_none (counted_of counts))

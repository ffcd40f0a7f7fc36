-- Where a walk stands after some of its turns, and how the first begins. Assumes nothing.
use mathlib.Core.Path.{◌≡◌, refl, sym, ap, ap₂, ◌∙◌, subst}
use Prim.Native.Nat.{ℕ, ◌+◌, ◌-◌, ◌*◌, ◌^◌, ◌≤◌, ◌<◌}
use native.Mathlib.Omega.{arith}
use mathlib.Core.Bool.{Bool, true, false, cond, ◌||◌}
use mathlib.Core.List.{List}
use lib.ListN.{length}
use Rattle.base.specs.Paste.{pasted}
use Rattle.base.specs.Answer.{found}
use Rattle.base.proofs.PasteLaws.{length_pasted}
use Rattle.dna.specs.Counts.{zero_counts}
use Rattle.dna.specs.Walk.{Walk}
use Rattle.dna.specs.declared.Counts.{Counts}
use Rattle.reads.specs.declared.Read.{Read}
use Rattle.reads.specs.declared.ReadCursor.{ReadCursor}
use Rattle.reads.specs.ReadWalk.{Source, FoundRead}
use Rattle.reads.specs.Cursor.{CursorFits, Taken, Arrived, read_step, read_steps}
use Rattle.reads.specs.Walked.{found_reads, is_arrived, read_size, letters_of, ends_of, size_of}
use Rattle.reads.specs.Walked.{counts_of, no_read, walk_answer, letters_after, ends_after}
use Rattle.reads.specs.Walked.{Writable}
use Rattle.reads.proofs.TurnLaws.{reads_found, walked_on, walked-first}
use Rattle.reads.proofs.WrittenLaws.{pasted_on, size-cons}

-- ---- Room

-- The walk cannot be refused, and what is left of it has room from `from` on.
pub record RoomLeft (walk : Walk Arrived) (from letter_room : ℕ) : Type 0 where
  pub arrives : is_arrived walk ≡ true
  pub letters_fit : from + size_of (found_reads walk) ≤ letter_room
  pub small : from + size_of (found_reads walk) < 2 ^ 32

pub room-turn : (source : Source) (cursor next : ReadCursor) (n from from' letter_room : ℕ)
    (taken : Taken) {end : ℕ} → 0 < n → read_step source cursor ≡ found taken end
    → next ≡ taken.cursor → from' ≡ from + read_size taken.read
    → RoomLeft (read_steps n source cursor) from letter_room
    → (from' ≤ letter_room) × ((from' < 2 ^ 32)
    × RoomLeft (read_steps (n - 1) source next) from' letter_room)
room-turn source cursor next n from from' letter_room taken more e there on room =
    let parts = reads_found source cursor n more e room.arrives in
    let rest : List FoundRead = found_reads (read_steps (n - 1) source taken.cursor) in
    let size : size_of (found_reads (read_steps n source cursor))
    ≡ read_size taken.read + size_of rest =
    ap size_of parts.1 ∙ size-cons taken.read rest in (
      omega (arith, room.letters_fit),
      (
        omega (arith, room.small),
        subst (λ (c : ReadCursor). RoomLeft (read_steps (n - 1) source c) from' letter_room)
            (sym there)
            (record {
              arrives = parts.0;
              letters_fit = omega (arith, room.letters_fit);
              small = omega (arith, room.small);
            }),
      ),
    )

-- ---- Counts

-- After so many turns no count has grown past 64 bits.
pub record CountsBelow (counts : Counts) (turns : ℕ) : Type 0 where
  pub reads : counts.reads ≤ turns
  pub letters : counts.letters ≤ 100_000 * turns
  pub entries : counts.entries ≤ 31 * turns
  pub differences : counts.differences ≤ 31 * turns
  pub top : counts.top ≤ turns

-- ---- Buffers

-- Writing keeps the length of a buffer.
pub kept-length : (write : Bool) (out out' : List ℕ) (at : ℕ) (part : List ℕ)
    → (write ≡ true → at + length part ≤ length out) → out' ≡ cond write (pasted out at part) out
    → length out' ≡ length out
kept-length true out out' at part room e = ap length e ∙ length_pasted out at part (room refl)
kept-length false out out' at part room e = ap length e

-- ---- A walk after some turns

-- `start`, `letters_before` and `ends_before` are as they were at first.
pub record Walking (source : Source) (reference : List ℕ) (start : ReadCursor) (steps : ℕ)
    (count write : Bool) (letters_before ends_before letters ends : List ℕ) (cursor : ReadCursor)
    (last : Read) (counts : Counts) (turns : ℕ) : Type 0 where
  pub within : turns ≤ steps
  pub read : cursor.read ≡ start.read + turns
  pub fits : CursorFits source.dna cursor
  pub below : CountsBelow counts turns
  pub same_letters : length letters ≡ length letters_before
  pub same_ends : length ends ≡ length ends_before
  pub answer :
      walk_answer (write || count) reference (read_steps steps source start)
      ≡ walked_on (write || count) reference counts last
      (read_steps (steps - turns) source cursor)
  pub room :
      write ≡ true
      → RoomLeft (read_steps (steps - turns) source cursor) counts.letters (length letters)
  pub end-room : write ≡ true → steps ≤ length ends
  pub letters_are :
      letters_after write reference (read_steps steps source start) letters_before
      ≡ pasted_on write letters counts.letters (letters_of reference)
      (read_steps (steps - turns) source cursor)
  pub ends_are :
      ends_after write (read_steps steps source start) ends_before
      ≡ pasted_on write ends turns (ends_of counts.letters)
      (read_steps (steps - turns) source cursor)

-- The tables do not matter here.
pub walking-first : (source : Source) (reference : List ℕ) (start : ReadCursor) (steps : ℕ)
    (count write : Bool) (letters ends : List ℕ) (last : Read) (counts : Counts)
    → CursorFits source.dna start
    → (write ≡ true
    → Writable (read_steps steps source start) steps (length letters) (length ends))
    → counts ≡ counts_of zero_counts → last ≡ no_read
    → Walking source reference start steps count write letters ends letters ends start last counts
    0
unfolding letters_after ends_after pasted_on
walking-first source reference start steps count write letters ends last counts fits room none first =
    let z : steps ≡ steps - 0 = omega arith in
    let letters-zero : 0 ≡ counts.letters = sym (ap (λ (c : Counts). c.letters) none) in
    record {
      within = omega arith;
      read = omega arith;
      fits = fits;
      below = record {
        reads = omega (arith, ap (λ (c : Counts). c.reads) none);
        letters = omega arith;
        entries = omega (arith, ap (λ (c : Counts). c.entries) none);
        differences = omega (arith, ap (λ (c : Counts). c.differences) none);
        top = omega (arith, ap (λ (c : Counts). c.top) none);
      };
      same_letters = refl;
      same_ends = refl;
      answer =
          walked-first (write || count) reference counts last (read_steps steps source start) none
          first
          ∙ ap
          (λ (n : ℕ).
          walked_on (write || count) reference counts last (read_steps n source start))
          z;
      room = λ yes'.
          subst
          (λ (n : ℕ). RoomLeft (read_steps n source start) counts.letters (length letters)) z
          (record {
            arrives = (room yes').arrives;
            letters_fit = omega (arith, (room yes').letters_fit);
            small = omega (arith, (room yes').small);
          });
      end-room = λ yes'. (room yes').ends_fit;
      letters_are =
          ap₂
          (λ (n at : ℕ). pasted_on write letters at (letters_of reference) (read_steps n source start))
          z letters-zero;
      ends_are =
          ap₂
          (λ (n from : ℕ). pasted_on write ends 0 (ends_of from) (read_steps n source start))
          z letters-zero;
    }

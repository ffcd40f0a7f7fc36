-- A walk after some turns: what one more turn keeps, and what the walk answers and leaves at its
-- end. Assumes nothing.
use mathlib.Core.Path.{◌≡◌, sym, ap, ◌∙◌, subst}
use Prim.Native.Nat.{ℕ, ◌+◌, ◌-◌, ◌^◌, ◌≤◌, ◌<◌}
use native.Mathlib.Omega.{arith}
use mathlib.Core.Bool.{Bool, true, cond, ◌||◌}
use mathlib.Core.List.{List, [], ◌∷◌, ◌++◌}
use lib.ListN.{length}
use Rattle.std.specs.Prelude.{Ok, Err}
use Rattle.base.specs.Lists.{AllBytes}
use Rattle.base.specs.Paste.{pasted}
use Rattle.dna.specs.Reference.{ReferenceFits}
use Rattle.dna.specs.Counts.{plus}
use Rattle.dna.specs.Refused.{read_refusal, numbered_block}
use Rattle.dna.specs.declared.refusals.BlockRefusal.{BlockRefusal}
use Rattle.base.specs.Answer.{refused}
use Rattle.dna.specs.declared.Counts.{Counts}
use Rattle.format.specs.Answered.{counted_of}
use Rattle.record_letters.specs.Printed.{Printable}
use Rattle.reads.specs.declared.Read.{Read}
use Rattle.reads.specs.declared.ReadCursor.{ReadCursor}
use Rattle.reads.specs.ReadWalk.{Source}
use Rattle.reads.specs.Cursor.{SourceFits, CursorFits, read_step, read_steps, read_in}
use Rattle.reads.specs.Walked.{read_letters, read_size, letters_of, ends_of, read_counts, counts_of}
use Rattle.reads.specs.Walked.{CountsAdd, WalkDone, RoomAt, letters_in, counts_in}
use Rattle.reads.proofs.TakenLaws.{StepTook, TakenStands, taken-stands, cursor-fits}
use Rattle.reads.proofs.TakenLaws.{taken_printable, taken_letters, taken_counts, counts-few}
use Rattle.reads.proofs.TurnLaws.{walked_on, walked_turn, walked_refused, walked_end}
use Rattle.reads.proofs.WrittenLaws.{pasted_on, pasted_turn, pasted_refused, pasted_end}
use Rattle.reads.proofs.WrittenLaws.{letters_none, letters-cons, length-read_letters}
use Rattle.reads.proofs.WrittenLaws.{ends-none, ends-cons}
use Rattle.reads.proofs.WalkingLaws.{RoomLeft, room-turn, CountsBelow, kept-length, Walking}

module _ (source : Source) (reference : List ℕ) (start : ReadCursor) (steps : ℕ)
    (count write : Bool) (letters_before ends_before letters ends : List ℕ) (cursor : ReadCursor)
    (last : Read) (counts : Counts) (turns : ℕ)
    (walking : Walking source reference start steps count write letters_before ends_before letters
    ends cursor last counts turns) where
  module _ (bytes : AllBytes source.dna) (few : steps < 2 ^ 32)
      (fits : SourceFits source) (reference_fits : ReferenceFits source.bases reference)
      (more : turns < steps) (read : Read) (next : ReadCursor)
      (took : StepTook source cursor read next) where
    stands : TakenStands source cursor took.taken took.end
    stands = taken-stands source cursor took.taken took.end took.stepped

    size_is : read.length ≡ read_size took.taken.read
    unfolding read_in read_size
    size_is = ap (λ (r : Read). r.length) took.read_is

    short : read.length ≤ 100_000
    unfolding read_size
    short = omega (arith, size_is, stands.read.short)

    left : 0 < steps - turns
    left = omega arith

    -- The read can be printed.
    pub turn_printable : Printable source.dna reference read.length read.«record»
        read.layout
    turn_printable =
        subst
        (λ (r : Read). Printable source.dna reference r.length r.«record» r.layout)
        (sym took.read_is)
        (taken_printable source took.taken.read bytes stands.read reference reference_fits)

    -- There is room for it.
    pub turn_room : (from : ℕ) → from ≡ counts.letters → write ≡ true
        → RoomAt (length letters) (length ends) from turns read.length
    turn_room from e yes' =
        let parts =
        room-turn source cursor next (steps - turns) counts.letters (from + read.length)
        (length letters) took.taken left took.stepped took.next_is
        (omega (arith, size_is)) (walking.room yes') in
        record {
          letters_fit = parts.0;
          end_fits = omega (arith, walking.end-room yes');
          small = parts.1.0;
        }

    module _ (visited : Counts)
        (counted : visited ≡ counts_in (write || count) reference source.dna read) where
      visited_few : (visited.entries ≤ 31) × (visited.differences ≤ 31) × (visited.top ≤ 1)
      visited_few =
          subst (λ (c : Counts). (c.entries ≤ 31) × (c.differences ≤ 31) × (c.top ≤ 1)) (sym counted)
          (counts-few (write || count) reference source.dna read turn_printable)

      visited_read : visited.reads ≡ 1
      unfolding counts_in
      visited_read = ap (λ (c : Counts). c.reads) counted

      visited_letters : visited.letters ≡ read.length
      unfolding counts_in
      visited_letters = ap (λ (c : Counts). c.letters) counted

      visited_is : visited ≡ counts_of (read_counts (write || count) reference took.taken.read)
      visited_is =
          counted
          ∙ ap (counts_in (write || count) reference source.dna) took.read_is
          ∙ taken_counts source took.taken.read bytes stands.read (write || count) reference

      -- Its counts can be added.
      pub turn_counts : CountsAdd counts visited
      turn_counts =
          record {
            reads = omega (arith, walking.below.reads, visited_read);
            letters = omega (arith, walking.below.letters, visited_letters, short);
            entries = omega (arith, walking.below.entries, visited_few.0);
            differences = omega (arith, walking.below.differences, visited_few.1);
            top = omega (arith, walking.below.top, visited_few.2);
          }

      module _ (from : ℕ) (from_is : from ≡ counts.letters) (counts' : Counts)
          (added : counts' ≡ counts_of (plus (counted_of counts) (counted_of visited)))
          (letters' ends' : List ℕ)
          (letters_are : letters'
          ≡ cond write (pasted letters from (letters_in reference source.dna read)) letters)
          (ends_are : ends'
          ≡ cond write (pasted ends turns ((from + read.length) ∷ [])) ends) where
        part_is : letters_in reference source.dna read
            ≡ read_letters reference took.taken.read
        part_is =
            ap (letters_in reference source.dna) took.read_is
            ∙ taken_letters source took.taken.read bytes stands.read reference

        part_length : length (letters_in reference source.dna read) ≡ read.length
        part_length =
            ap length part_is
            ∙ length-read_letters reference took.taken.read
            ∙ sym size_is

        on : counts'.letters ≡ from + read.length
        unfolding plus
        on = omega (arith, ap (λ (c : Counts). c.letters) added, from_is, visited_letters)

        fewer : steps - turns - 1 ≡ steps - (turns + 1)
        fewer = omega arith

        letters_kept : length letters' ≡ length letters
        letters_kept =
            kept-length write letters letters' from (letters_in reference source.dna read)
            (λ yes'. omega (arith, (turn_room from from_is yes').letters_fit, part_length))
            letters_are

        ends_kept : length ends' ≡ length ends
        ends_kept =
            kept-length write ends ends' turns ((from + read.length) ∷ [])
            (λ yes'. omega (arith, (turn_room from from_is yes').end_fits)) ends_are

        below' : CountsBelow counts' (turns + 1)
        unfolding plus
        below' =
            record {
              reads =
                  omega (
                    arith,
                    ap (λ (c : Counts). c.reads) added,
                    walking.below.reads,
                    visited_read,
                  );
              letters = omega (arith, on, from_is, walking.below.letters, short);
              entries =
                  omega (
                    arith,
                    ap (λ (c : Counts). c.entries) added,
                    walking.below.entries,
                    visited_few.0,
                  );
              differences =
                  omega (
                    arith,
                    ap (λ (c : Counts). c.differences) added,
                    walking.below.differences,
                    visited_few.1,
                  );
              top =
                  omega (
                    arith,
                    ap (λ (c : Counts). c.top) added,
                    walking.below.top,
                    visited_few.2,
                  );
            }

        -- The walk after the turn.
        pub turn_next : Walking source reference start steps count write letters_before ends_before
            letters' ends' next read counts' (turns + 1)
        turn_next =
            record {
              within = omega arith;
              read =
                  omega (
                    arith,
                    ap (λ (c : ReadCursor). c.read) took.next_is,
                    stands.read_is,
                    walking.read,
                  );
              fits =
                  subst (λ (c : ReadCursor). CursorFits source.dna c) (sym took.next_is)
                  (cursor-fits source cursor took.taken took.end bytes fits walking.fits
                  took.stepped);
              below = below';
              same_letters = letters_kept ∙ walking.same_letters;
              same_ends = ends_kept ∙ walking.same_ends;
              answer =
                  walking.answer
                  ∙ walked_turn (write || count) reference counts last source cursor (steps - turns)
                  counts' read next took.taken left took.stepped
                  (added
                  ∙ ap (λ (c : Counts). counts_of (plus (counted_of counts) (counted_of c)))
                  visited_is)
                  took.read_is took.next_is
                  ∙ ap
                  (λ (n : ℕ).
                  walked_on (write || count) reference counts' read (read_steps n source next))
                  fewer;
              room = λ yes'.
                  let parts =
                  room-turn source cursor next (steps - turns) counts.letters counts'.letters
                  (length letters) took.taken left took.stepped took.next_is
                  (omega (arith, on, from_is, size_is)) (walking.room yes') in
                  subst
                  (λ (k : ℕ). RoomLeft (read_steps (steps - (turns + 1)) source next)
                  counts'.letters k)
                  (sym letters_kept)
                  (subst
                  (λ (n : ℕ). RoomLeft (read_steps n source next) counts'.letters
                  (length letters))
                  fewer parts.1.1);
              end-room = λ yes'. omega (arith, walking.end-room yes', ends_kept);
              letters_are =
                  walking.letters_are
                  ∙ pasted_turn write letters counts.letters (letters_of reference) source cursor
                  (steps - turns) letters' counts'.letters next
                  (letters_in reference source.dna read) (letters_of reference) took.taken left
                  took.stepped took.next_is
                  (λ reads.
                  letters-cons reference took.taken.read reads
                  ∙ ap (λ (part : List ℕ). part ++ letters_of reference reads) (sym part_is))
                  (λ yes'. (walking.room yes').arrives)
                  (λ yes'.
                  omega (arith, from_is, (turn_room from from_is yes').letters_fit, part_length))
                  (letters_are
                  ∙ ap
                  (λ (k : ℕ).
                  cond write (pasted letters k (letters_in reference source.dna read)) letters)
                  from_is)
                  (omega (arith, on, from_is, part_length))
                  ∙ ap
                  (λ (n : ℕ).
                  pasted_on write letters' counts'.letters (letters_of reference)
                  (read_steps n source next))
                  fewer;
              ends_are =
                  walking.ends_are
                  ∙ pasted_turn write ends turns (ends_of counts.letters) source cursor
                  (steps - turns) ends' (turns + 1) next ((from + read.length) ∷ [])
                  (ends_of counts'.letters) took.taken left took.stepped took.next_is
                  (λ reads.
                  ends-cons counts.letters counts'.letters took.taken.read reads
                  (omega (arith, on, from_is, size_is))
                  ∙ ap (λ (k : ℕ). k ∷ ends_of counts'.letters reads) on)
                  (λ yes'. (walking.room yes').arrives)
                  (λ yes'. omega (arith, (turn_room from from_is yes').end_fits))
                  ends_are (omega arith)
                  ∙ ap
                  (λ (n : ℕ).
                  pasted_on write ends' (turns + 1) (ends_of counts'.letters)
                  (read_steps n source next))
                  fewer;
            }

  -- ---- The end

  -- A refusal is passed on.
  pub walking_refused : (why : BlockRefusal) → turns < steps
      → read_step source cursor ≡ refused (read_refusal why)
      → WalkDone (read_steps steps source start) write count reference (Err why)
      letters_before letters ends_before ends
  unfolding numbered_block
  walking_refused why more e =
      let left : 0 < steps - turns = omega arith in
      record {
        answered =
            sym
            (walking.answer
            ∙ walked_refused (write || count) reference counts last source cursor (steps - turns)
            (read_refusal why) left e);
        letters_are =
            sym
            (walking.letters_are
            ∙ pasted_refused write letters counts.letters (letters_of reference) source cursor
            (steps - turns) (letters_none reference) left e);
        ends_are =
            sym
            (walking.ends_are
            ∙ pasted_refused write ends turns (ends_of counts.letters) source cursor
            (steps - turns) (ends-none counts.letters) left e);
      }

  -- All steps are taken.
  pub walking_end : steps ≤ turns
      → WalkDone (read_steps steps source start) write count reference
      (Ok (record { cursor = cursor; last = last; counts = counts })) letters_before letters ends_before ends
  unfolding numbered_block
  walking_end done =
      let none : steps - turns ≤ 0 = omega arith in
      record {
        answered =
            sym
            (walking.answer
            ∙ walked_end (write || count) reference counts last source cursor (steps - turns) none);
        letters_are =
            sym
            (walking.letters_are
            ∙ pasted_end write letters counts.letters (letters_of reference) source cursor
            (steps - turns) (letters_none reference) none);
        ends_are =
            sym
            (walking.ends_are
            ∙ pasted_end write ends turns (ends_of counts.letters) source cursor (steps - turns)
            (ends-none counts.letters) none);
      }

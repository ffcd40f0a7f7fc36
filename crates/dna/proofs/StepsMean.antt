-- Steps hold of every division: each read knows the position of the nearest earlier read that has one, else 0.
-- Assumes nothing.
use mathlib.Core.Path.{◌≡◌, sym, ap, ◌∙◌}
use Prim.Native.Nat.{ℕ}
use mathlib.Core.Bool.{true, false}
use mathlib.Core.List.{List, [], ◌∷◌, ◌++◌, nil≢cons, head-eq_of_cons-eq, tail-eq_of_cons-eq}
use Rattle.base.specs.Lists.{All}
use Rattle.base.specs.Groups.{in_groups}
use Rattle.dna.specs.Record.{ReadContext, RecordFields}
use Rattle.dna.specs.Alignment.{is_aligned, position, position_after}
use Rattle.dna.specs.Division.{Division, Slot, Read, context_of, slots, reads_from, reads_of}
use Rattle.dna.specs.Rules.{Placed, Unplaced, StepsHold}

-- A record without a place keeps the position before it, one with a place sets it.
after_unplaced : (context : ReadContext) (fields : RecordFields) → is_aligned fields ≡ false
    → position_after context fields ≡ context.previous_position
unfolding position_after
after_unplaced context fields e = rw e

after-placed : (context : ReadContext) (fields : RecordFields) → is_aligned fields ≡ true
    → position_after context fields ≡ position context fields
unfolding position_after
after-placed context fields e = rw e

-- The position of a read, and the position before it.
position_of : (read : Read) → ℕ
position_of read = position read.context read.piece.stored.fields

previous_of : (read : Read) → ℕ
previous_of read = read.context.previous_position

-- After reads without a place the position is still the one that they began with.
none_from : (bases previous : ℕ) (all : List Slot) (before : List Read) (read : Read) (after : List Read)
    → reads_from bases previous all ≡ before ++ (read ∷ after) → All Unplaced before
    → read.context.previous_position ≡ previous
unfolding reads_from context_of previous_of
none_from bases previous [] [] read after e none = absurd (nil≢cons e)
none_from bases previous [] (first ∷ before) read after e none = absurd (nil≢cons e)
none_from bases previous (slot ∷ later) [] read after e none = sym (ap previous_of (head-eq_of_cons-eq e))
none_from bases previous (slot ∷ later) (first ∷ before) read after e none =
    let context : ReadContext = context_of bases slot.flags slot.place previous slot.read_length in
    let fields : RecordFields = slot.piece.stored.fields in
    let unplaced : is_aligned fields ≡ false = ap (λ (r : Read). is_aligned r.piece.stored.fields) (head-eq_of_cons-eq e) ∙ none.0 in
    none_from bases (position_after context fields) later before read after (tail-eq_of_cons-eq e) none.1
    ∙ after_unplaced context fields unplaced

-- After a read with a place and reads without one the position is that read's.
nearest-from : (bases previous : ℕ) (all : List Slot) (before : List Read) (earlier : Read) (between : List Read) (read : Read)
    (after : List Read) → reads_from bases previous all ≡ before ++ (earlier ∷ (between ++ (read ∷ after)))
    → Placed earlier → All Unplaced between
    → read.context.previous_position ≡ position earlier.context earlier.piece.stored.fields
unfolding reads_from position_of
nearest-from bases previous [] [] earlier between read after e placed none = absurd (nil≢cons e)
nearest-from bases previous [] (first ∷ before) earlier between read after e placed none = absurd (nil≢cons e)
nearest-from bases previous (slot ∷ later) [] earlier between read after e placed none =
    let context : ReadContext = context_of bases slot.flags slot.place previous slot.read_length in
    let fields : RecordFields = slot.piece.stored.fields in
    let same = head-eq_of_cons-eq e in
    none_from bases (position_after context fields) later between read after (tail-eq_of_cons-eq e) none
    ∙ after-placed context fields (ap (λ (r : Read). is_aligned r.piece.stored.fields) same ∙ placed)
    ∙ ap position_of same
nearest-from bases previous (slot ∷ later) (first ∷ before) earlier between read after e placed none =
    nearest-from bases
    (position_after (context_of bases slot.flags slot.place previous slot.read_length) slot.piece.stored.fields)
    later before earlier between read after (tail-eq_of_cons-eq e) placed none

-- A step of a read of a division adds to the position of the nearest earlier read of the block that has one, else
-- to 0.
pub steps_hold : (bases : ℕ) (lengths : List ℕ) (division : Division) → StepsHold (reads_of bases lengths division)
unfolding reads_of
steps_hold bases lengths division =
    record {
      nearest = nearest-from bases 0 (slots (in_groups lengths) division);
      none = none_from bases 0 (slots (in_groups lengths) division);
    }

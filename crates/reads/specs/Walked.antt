-- What a walk of so many steps answers and leaves in the lent buffers, from the reads that it
-- found. Where it writes, the letters and ends begin at the start of the buffers.
use Rattle.std.specs.Prelude.{ℕ, ◌+◌, ◌^◌, ◌≤◌, ◌<◌, ◌≡◌, Bool, true, false, cond, ◌||◌, Result, Ok, Err}
use mathlib.Core.List.{List, [], ◌∷◌, map, flatten}
use Rattle.base.specs.Lists.{total, places_from}
use Rattle.base.specs.Paste.{pasted}
use Rattle.base.specs.Answer.{found, refused}
use Rattle.dna.specs.Letters.{record_letters}
use Rattle.dna.specs.Counts.{Counted, sum_counts, top_of, record_counts}
use Rattle.dna.specs.Walk.{Walk, ReadRefusal}
use Rattle.dna.specs.Refused.{numbered_block}
use Rattle.dna.specs.declared.refusals.BlockRefusal.{BlockRefusal}
use Rattle.dna.specs.declared.Counts.{Counts}
use Rattle.dna.specs.declared.Record.TheVariants as kinds
use Rattle.reference.specs.Tables.{word_table}
use Rattle.record_letters.specs.Laid.{stored_in, context_in}
use Rattle.record_letters.specs.Printed.{pair_words}
use Rattle.reads.specs.declared.Read.{Read}
use Rattle.reads.specs.declared.Walked.{Walked}
use Rattle.reads.specs.ReadWalk.{FoundRead}
use Rattle.reads.specs.Cursor.{Arrived, read_in}

-- ---- What is found

-- The reads that a walk found; none where it was refused.
unfoldable pub found_reads : (walk : Walk Arrived) → List FoundRead
found_reads (found arrived next) = arrived.reads
found_reads (refused why) = []

unfoldable pub is_arrived : (walk : Walk Arrived) → Bool
is_arrived (found arrived next) = true
is_arrived (refused why) = false

-- The letters of a read, and how many they are.
unfoldable pub read_letters : (reference : List ℕ) (read : FoundRead) → List ℕ
read_letters reference read = record_letters reference read.context read.stored

unfoldable pub read_size : (read : FoundRead) → ℕ
read_size read = read.context.read_length

-- The letters of some reads, one after the other.
unfoldable pub letters_of : (reference : List ℕ) (reads : List FoundRead) → List ℕ
letters_of reference reads = flatten (map (read_letters reference) reads)

-- The end of each, counted in letters, if the first begins at `from`.
unfoldable pub ends_of : (from : ℕ) (reads : List FoundRead) → List ℕ
ends_of from reads = places_from from (map read_size reads)

-- How many letters they have.
unfoldable pub size_of : (reads : List FoundRead) → ℕ
size_of reads = total (map read_size reads)

-- ---- What is counted

-- Counts, with the differences only where they are asked for.
unfoldable pub counts_with : (differences : Bool) (counts : Counted) → Counted
counts_with differences counts =
    record {
      reads = counts.reads;
      letters = counts.letters;
      entries = counts.entries;
      differences = cond differences counts.differences 0;
      top = counts.top;
    }

-- The counts of a read, and of some reads.
unfoldable pub read_counts : (differences : Bool) (reference : List ℕ) (read : FoundRead) → Counted
read_counts differences reference read =
    counts_with differences (record_counts reference read.context read.stored)

unfoldable pub reads_counts : (differences : Bool) (reference : List ℕ) (reads : List FoundRead)
    → Counted
reads_counts differences reference reads =
    sum_counts (map (read_counts differences reference) reads)

-- Counts in the code's terms.
abbrev pub counts_of : (counts : Counted) → Counts
counts_of counts =
    record {
      reads = counts.reads;
      letters = counts.letters;
      entries = counts.entries;
      differences = counts.differences;
      top = counts.top;
    }

-- Two counts whose sums fit 64 bits.
pub record CountsAdd (a b : Counts) : Type 0 where
  pub reads : a.reads + b.reads < 2 ^ 64
  pub letters : a.letters + b.letters < 2 ^ 64
  pub entries : a.entries + b.entries < 2 ^ 64
  pub differences : a.differences + b.differences < 2 ^ 64
  pub top : a.top + b.top < 2 ^ 64

-- ---- The answer

-- The read that a walk of no steps answers.
unfoldable pub no_read : Read
no_read =
    record {
      length = 0;
      «record» = kinds.Raw;
      layout = record {
        entries = 0;
        entry_count = 0;
        packed = 0;
        n_list = 0;
        n_count = 0;
        end = 0;
      };
    }

-- The last of some reads, or the one before them where there is none.
unfoldable pub last_of : (before : Read) (reads : List FoundRead) → Read
last_of before [] = before
last_of before (read ∷ reads) = last_of (read_in read) reads

unfoldable pub walk_answer : (differences : Bool) (reference : List ℕ) (walk : Walk Arrived)
    → Result Walked ReadRefusal
walk_answer differences reference (found arrived next) =
    Ok
    (record {
      cursor = arrived.cursor;
      last = last_of no_read arrived.reads;
      counts = counts_of (reads_counts differences reference arrived.reads);
    })
walk_answer differences reference (refused why) = Err why

-- The buffers, if the walk writes.
unfoldable pub letters_after : (write : Bool) (reference : List ℕ) (walk : Walk Arrived)
    (letters : List ℕ) → List ℕ
letters_after write reference walk letters =
    cond write (pasted letters 0 (letters_of reference (found_reads walk))) letters

unfoldable pub ends_after : (write : Bool) (walk : Walk Arrived) (ends : List ℕ) → List ℕ
ends_after write walk ends = cond write (pasted ends 0 (ends_of 0 (found_reads walk))) ends

-- What a call of the walk gives, and what it leaves in the buffers.
pub record WalkDone (walk : Walk Arrived) (write count : Bool) (reference : List ℕ)
    (answer : Result Walked BlockRefusal) (letters_before letters_now ends_before ends_now : List ℕ) : Type 0 where
  pub answered : numbered_block answer ≡ walk_answer (write || count) reference walk
  pub letters_are : letters_now ≡ letters_after write reference walk letters_before
  pub ends_are : ends_now ≡ ends_after write walk ends_before

-- ---- What writing needs

-- The tables that letters are written with.
pub record TablesMade (forward reverse pairs : List ℕ) : Type 0 where
  pub forward_is : forward ≡ word_table true
  pub reverse_is : reverse ≡ word_table false
  pub pairs_are : pairs ≡ pair_words

-- The walk cannot be refused, and there is room for the letters and ends, which fit 32 bits.
pub record Writable (walk : Walk Arrived) (steps letter_room end_room : ℕ) : Type 0 where
  pub arrives : is_arrived walk ≡ true
  pub letters_fit : size_of (found_reads walk) ≤ letter_room
  pub ends_fit : steps ≤ end_room
  pub small : size_of (found_reads walk) < 2 ^ 32

-- ---- One read, as the code holds it

-- Its letters.
unfoldable pub letters_in : (reference dna : List ℕ) (read : Read) → List ℕ
letters_in reference dna read =
    record_letters reference (context_in 0 read.length read.«record»)
    (stored_in dna read.length read.«record» read.layout)

-- Its counts, with so many differences.
abbrev pub counts_as : (read : Read) (differences : ℕ) → Counts
counts_as read differences =
    record {
      reads = 1;
      letters = read.length;
      entries = read.layout.entry_count;
      differences = differences;
      top = top_of read.layout.entry_count;
    }

-- Its counts, with its differences only where they are asked for.
unfoldable pub counts_in : (differences : Bool) (reference dna : List ℕ) (read : Read) → Counts
counts_in differences reference dna read =
    counts_as read
    (cond differences
    (record_counts reference (context_in 0 read.length read.«record»)
    (stored_in dna read.length read.«record» read.layout)).differences
    0)

-- Room for a read from letter `from` on, and for its end at `index`.
pub record RoomAt (letter_room end_room from index size : ℕ) : Type 0 where
  pub letters_fit : from + size ≤ letter_room
  pub end_fits : index < end_room
  pub small : from + size < 2 ^ 32

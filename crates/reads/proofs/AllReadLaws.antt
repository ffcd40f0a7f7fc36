-- Letters, ends and counts of all reads of a block are those of its division. Assumes nothing.
use mathlib.Core.Path.{◌≡◌, refl, sym, ap, ap₂, ◌∙◌, subst}
use Prim.Native.Nat.{ℕ, ◌+◌, ◌^◌, ◌≤◌, ◌<◌}
use native.Mathlib.Omega.{arith}
use mathlib.Core.Bool.{Bool, true, false, cond}
use mathlib.Core.List.{List, [], ◌∷◌, map, flatten, map-map}
use lib.ListN.{length, length-map, length-append}
use Rattle.base.specs.Lists.{total, places_from}
use Rattle.dna.specs.Letters.{record_letters}
use Rattle.dna.specs.Counts.{Counted, plus, sum_counts, record_counts}
use Rattle.dna.specs.Division.{Division, Read, division_letters, division_counts, read_ends}
use Rattle.reads.specs.ReadWalk.{Source, FoundRead, read_of}
use Rattle.reads.specs.Walked.{read_letters, read_size, letters_of, ends_of, size_of, counts_with}
use Rattle.reads.specs.Walked.{read_counts, reads_counts, found_reads, is_arrived, Writable}
use Rattle.reads.proofs.WrittenLaws.{length-read_letters}
use Rattle.reads.proofs.ReadLaws.{AllReads}
use Rattle.dna.specs.Walk.{Walk}
use Rattle.reads.specs.Cursor.{first_read, Arrived, read_steps}

-- Differences are left out of a sum as of its parts.
cond-add : (t : Bool) (a b : ℕ) → cond t (a + b) 0 ≡ cond t a 0 + cond t b 0
cond-add true a b = refl
cond-add false a b = refl

with-plus : (differences : Bool) (a b : Counted)
    → counts_with differences (plus a b) ≡ plus (counts_with differences a) (counts_with differences b)
unfolding counts_with plus
with-plus differences a b =
    ap
    (λ (n : ℕ).
    record {
      reads = a.reads + b.reads;
      letters = a.letters + b.letters;
      entries = a.entries + b.entries;
      differences = n;
      top = a.top + b.top;
    })
    (cond-add differences a.differences b.differences)

with-sum : (differences : Bool) {A : Type 0} (f : A → Counted) (list : List A)
    → sum_counts (map (λ a. counts_with differences (f a)) list)
    ≡ counts_with differences (sum_counts (map f list))
unfolding sum_counts counts_with
with-sum true f [] = refl
with-sum false f [] = refl
with-sum differences f (x ∷ xs) =
    ap (plus (counts_with differences (f x))) (with-sum differences f xs)
    ∙ sym (with-plus differences (f x) (sum_counts (map f xs)))

module _ {source : Source} {fixed : Bool} {each : ℕ} {lengths' : List ℕ} {division : Division}
    {end : ℕ} (all : AllReads source fixed each lengths' division end) where
  pub all_letters : (reference : List ℕ)
      → letters_of reference all.arrived.reads
      ≡ flatten (division_letters reference source.bases lengths' division)
  unfolding letters_of read_letters division_letters
  all_letters reference =
      let letters : Read → List ℕ =
      λ read. record_letters reference read.context read.piece.stored in
      ap flatten
      (sym (map-map letters read_of all.arrived.reads) ∙ ap (map letters) all.reads-are)

  pub all_ends : ends_of 0 all.arrived.reads ≡ read_ends lengths'
  unfolding ends_of read_ends
  all_ends = ap (places_from 0) all.lengths_are

  pub all_counts : (differences : Bool) (reference : List ℕ)
      → reads_counts differences reference all.arrived.reads
      ≡ counts_with differences (division_counts reference source.bases lengths' division)
  unfolding reads_counts read_counts division_counts
  all_counts differences reference =
      let counts : Read → Counted =
      λ read. record_counts reference read.context read.piece.stored in
      with-sum differences (λ read. record_counts reference read.context read.stored)
      all.arrived.reads
      ∙ ap (λ (list : List Counted). counts_with differences (sum_counts list))
      (sym (map-map counts read_of all.arrived.reads) ∙ ap (map counts) all.reads-are)

  -- How many letters and reads they are.
  pub all_sizes : (size_of all.arrived.reads ≡ total lengths')
      × (length all.arrived.reads ≡ length lengths')
  unfolding size_of
  all_sizes = (
    ap total all.lengths_are,
    sym (length-map all.arrived.reads read_size) ∙ ap length all.lengths_are,
  )

-- ---- What is counted and written of some reads

-- Each read is one, with its letters.
pub counts-sizes : (differences : Bool) (reference : List ℕ) (reads : List FoundRead)
    → ((reads_counts differences reference reads).reads ≡ length reads)
    × ((reads_counts differences reference reads).letters ≡ size_of reads)
unfolding reads_counts read_counts counts_with record_counts sum_counts plus size_of total read_size
counts-sizes differences reference [] = (refl, refl)
counts-sizes differences reference (read ∷ reads) =
    let more = counts-sizes differences reference reads in (
      omega (arith, more.0),
      ap (λ (n : ℕ). read.context.read_length + n) more.1,
    )

-- As many letters are written.
pub length-letters_of : (reference : List ℕ) (reads : List FoundRead)
    → length (letters_of reference reads) ≡ size_of reads
unfolding letters_of size_of total flatten
length-letters_of reference [] = refl
length-letters_of reference (read ∷ reads) =
    length-append (read_letters reference read) (letters_of reference reads)
    ∙ ap₂ (λ (m n : ℕ). m + n) (length-read_letters reference read)
    (length-letters_of reference reads)

-- All reads can be written where there is room for them.
pub all-writable : (source : Source) (fixed : Bool) (each : ℕ) (lengths' : List ℕ)
    (division : Division) (end letter_room end_room : ℕ)
    → AllReads source fixed each lengths' division end → total lengths' ≤ letter_room
    → source.reads ≤ end_room → total lengths' < 2 ^ 32
    → Writable (read_steps source.reads source (first_read fixed each)) source.reads
    letter_room end_room
unfolding is_arrived found_reads size_of
all-writable source fixed each lengths' division end letter_room end_room all letters ends small =
    let sum : total (map read_size all.arrived.reads) ≡ total lengths' =
    ap total all.lengths_are in
    subst (λ (walk : Walk Arrived). Writable walk source.reads letter_room end_room)
    (sym all.steps)
    (record {
      arrives = refl;
      letters_fit = omega arith;
      ends_fit = ends;
      small = omega arith;
    })

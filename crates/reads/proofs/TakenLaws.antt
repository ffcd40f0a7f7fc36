-- What is known of a read that a step took, and of the cursor after it. Assumes nothing.
use mathlib.Core.Path.{◌≡◌, refl, sym, ap, ◌∙◌, subst}
use Prim.Native.Nat.{ℕ, ◌+◌, ◌^◌, ◌≤◌, ◌<◌}
use native.Mathlib.Omega.{arith}
use mathlib.Core.Bool.{Bool, true, false, cond}
use mathlib.Core.List.{List, [], ◌∷◌}
use lib.ListN.{length}
use lib.Dec.{eqb}
use Rattle.lengths.specs.Cursor.{LengthStep}
use Rattle.std.specs.Prelude.{Ok, Err, Some, None}
use Rattle.base.specs.Lists.{AllBytes, build, count_true}
use Rattle.base.specs.Answer.{found, refused, refused_as}
use Rattle.base.proofs.ListLaws.{length-build, by_test}
use Rattle.base.proofs.AnswerLaws.{found-same, absurd-found, checked-found, and_then-parts}
use Rattle.base.proofs.AnswerLaws.{found-refused_as}
use Rattle.dna.specs.Reference.{ReferenceFits}
use Rattle.dna.specs.Sizes.{max_read_length}
use Rattle.dna.specs.Record.{max_entries, ReadContext, RecordFields, StoredRecord}
use Rattle.dna.specs.Alignment.{is_aligned, position_after, entries_of}
use Rattle.dna.specs.Counts.{is_difference, top_of, record_counts}
use Rattle.dna.specs.Division.{context_of}
use Rattle.dna.specs.RecordAt.{record_at}
use Rattle.dna.specs.Rules.{RulesHold}
use Rattle.dna.specs.Walk.{ReadRefusal, Walk, of_read}
use Rattle.dna.proofs.RecordSound.{RecordFoundAt, record-found}
use Rattle.dna.proofs.StretchMeans.{position-inside}
use Rattle.dna.proofs.RulesMean.{rules_mean}
use Rattle.lengths.specs.Cursor.{length_step}
use Rattle.lengths.proofs.StepLaws.{step_ranged}
use Rattle.records.specs.Decoded.{layout_of}
use Rattle.record_letters.specs.Laid.{fields_in, stored_in, context_in}
use Rattle.record_letters.specs.Printed.{Printable}
use Rattle.record_letters.proofs.DecodedLaid.{decoded-printable}
use Rattle.record_letters.proofs.LaidLaws.{letters_laid, differences_laid}
use Rattle.reads.specs.declared.Read.{Read}
use Rattle.reads.specs.declared.ReadStep.{ReadStep}
use Rattle.reads.specs.declared.ReadCursor.{ReadCursor}
use Rattle.reads.specs.ReadWalk.{Source, Standing, FoundRead, faults_before, context_at}
use Rattle.reads.specs.ReadWalk.{record_place, read_at}
use Rattle.reads.specs.Cursor.{SourceFits, CursorFits, standing_of, cursor_after, Taken}
use Rattle.reads.specs.Cursor.{step_of_length, read_step, read_in, step_answer}
use Rattle.reads.specs.Walked.{read_letters, counts_with, read_counts, counts_of, letters_in}
use Rattle.reads.specs.Walked.{counts_in}

-- ---- The answer of a step, taken apart

-- What a step of the code took.
pub record StepTook (source : Source) (cursor : ReadCursor) (read : Read) (next : ReadCursor)
    : Type 0 where
  pub taken : Taken
  pub end : ℕ
  pub stepped : read_step source cursor ≡ found taken end
  pub read_is : read ≡ read_in taken.read
  pub next_is : next ≡ taken.cursor

took : (source : Source) (cursor : ReadCursor) (read : Read) (next : ReadCursor)
    (step : Walk Taken) → read_step source cursor ≡ step → Ok (record { read = read; cursor = next }) ≡ step_answer step
    → StepTook source cursor read next
unfolding step_answer
took source cursor read next (found taken end) is e =
    let same : ◌≡◌ {A = ReadStep} (record { read = read; cursor = next })
    (record { read = read_in taken.read; cursor = taken.cursor }) =
    cc in
    record {
      taken = taken;
      end = end;
      stepped = is;
      read_is = ap (λ (s : ReadStep). s.read) same;
      next_is = ap (λ (s : ReadStep). s.cursor) same;
    }
took source cursor read next (refused why) is e =
    let z : ◌≡◌ {A = ℕ} 0 1 = cc in absurd (omega arith)

pub step-took : (source : Source) (cursor : ReadCursor) (read : Read) (next : ReadCursor)
    → Ok (record { read = read; cursor = next }) ≡ step_answer (read_step source cursor)
    → StepTook source cursor read next
step-took source cursor read next e =
    took source cursor read next (read_step source cursor) refl e

-- What a step of the code refused.
pub record StepRefused (source : Source) (cursor : ReadCursor) (why : ReadRefusal) : Type 0 where
  pub stepped : read_step source cursor ≡ refused why

refuses : (source : Source) (cursor : ReadCursor) (why : ReadRefusal) (step : Walk Taken)
    → read_step source cursor ≡ step → Err why ≡ step_answer step
    → StepRefused source cursor why
unfolding step_answer
refuses source cursor why (found taken end) is e =
    let z : ◌≡◌ {A = ℕ} 0 1 = cc in absurd (omega arith)
refuses source cursor why (refused why') is e =
    let same : why' ≡ why = cc in
    record { stepped = is ∙ ap refused same }

pub step-refused : (source : Source) (cursor : ReadCursor) (why : ReadRefusal)
    → Err why ≡ step_answer (read_step source cursor)
    → StepRefused source cursor why
step-refused source cursor why e =
    refuses source cursor why (read_step source cursor) refl e

-- ---- The read

-- The read stands in the section, and is no longer than a read may be.
pub record ReadStands (source : Source) (read : FoundRead) : Type 0 where
  pub stands :
      record_at read.context source.dna read.at ≡ found read.stored read.end
  pub short : read.context.read_length ≤ max_read_length
  pub bases : read.context.reference_bases ≡ source.bases

-- And the cursor after it.
pub record TakenStands (source : Source) (cursor : ReadCursor) (taken : Taken) (end : ℕ)
    : Type 0 where
  pub read : ReadStands source taken.read
  pub at_is : taken.cursor.at ≡ taken.read.end
  pub end_is : end ≡ taken.read.end
  pub position_is :
      taken.cursor.position
      ≡ position_after taken.read.context taken.read.stored.fields
  pub previous_is : taken.read.context.previous_position ≡ cursor.position
  pub read_is : taken.cursor.read ≡ cursor.read + 1

pub read-stands : (source : Source) (standing : Standing) (size at : ℕ) (read : FoundRead) (end : ℕ)
    → read_at source standing size at ≡ found read end
    → (record_at read.context source.dna read.at ≡ found read.stored read.end)
    × ((read.context ≡ context_at source standing size at) × (end ≡ read.end))
unfolding read_at
read-stands source standing size at read end e =
    let first =
    checked-found (of_read standing.read) (faults_before source standing.read at) _ e in
    let scan = record_at (context_at source standing size at) source.dna
    (record_place standing.read at) in
    and_then-parts (refused_as (of_read standing.read) scan) _ first.1 (λ stored next e₁ e₂.
    let same = found-same e₂ in
    let scanned : scan ≡ found stored next = found-refused_as (of_read standing.read) scan e₁ in
    subst
    (λ (r : FoundRead).
    (record_at r.context source.dna r.at ≡ found r.stored r.end)
    × ((r.context ≡ context_at source standing size at) × (end ≡ r.end)))
    same.0 (scanned, (refl, sym same.1)))

length-stands : (source : Source) (cursor : ReadCursor) (taken : Taken) (end : ℕ)
    (step : LengthStep) → length_step source.sizes cursor.sizes ≡ step
    → step_of_length source cursor step ≡ found taken end → TakenStands source cursor taken end
unfolding step_of_length cursor_after context_at context_of
length-stands source cursor taken end None is e = absurd-found e
length-stands source cursor taken end (Some (size, next)) is e =
    and_then-parts (read_at source (standing_of cursor) size cursor.at) _ e (λ read end' e₁ e₂.
    let same = found-same e₂ in
    let there = read-stands source (standing_of cursor) size cursor.at read end' e₁ in
    let range = step_ranged source.sizes cursor.sizes size next is in
    subst (λ (t : Taken). TakenStands source cursor t end) same.0
    (record {
      read = record {
        stands = there.0;
        short =
            subst (λ (c : ReadContext). c.read_length ≤ max_read_length) (sym there.1.0)
            range.1;
        bases = ap (λ (c : ReadContext). c.reference_bases) there.1.0;
      };
      at_is = refl;
      end_is = sym same.1 ∙ there.1.1;
      position_is = refl;
      previous_is = ap (λ (c : ReadContext). c.previous_position) there.1.0;
      read_is = refl;
    }))

-- What a step took stands there.
pub taken-stands : (source : Source) (cursor : ReadCursor) (taken : Taken) (end : ℕ)
    → read_step source cursor ≡ found taken end → TakenStands source cursor taken end
unfolding read_step
taken-stands source cursor taken end e =
    length-stands source cursor taken end (length_step source.sizes cursor.sizes) refl e

-- ---- The cursor after it

-- The position after a record is the one before, or that of a base.
position-near : (context : ReadContext) (stored : StoredRecord) (bound : ℕ)
    → RulesHold context stored → context.previous_position < bound
    → context.reference_bases < bound → position_after context stored.fields < bound
unfolding position_after
position-near context stored bound rules before small =
    by_test (is_aligned stored.fields)
    (λ t. rw t (omega (arith, position-inside context stored.fields rules.inside t)))
    (λ t. rw t before)

-- It stands in the section, and its position is that of a base.
pub cursor-fits : (source : Source) (cursor : ReadCursor) (taken : Taken) (end : ℕ)
    → AllBytes source.dna → SourceFits source → CursorFits source.dna cursor
    → read_step source cursor ≡ found taken end → CursorFits source.dna taken.cursor
cursor-fits source cursor taken end bytes fits before e =
    let stands : TakenStands source cursor taken end = taken-stands source cursor taken end e in
    let read : FoundRead = taken.read in
    let f : RecordFoundAt read.context source.dna read.at read.stored read.end =
    record-found read.context source.dna read.at bytes stands.read.stands in
    let rules : RulesHold read.context read.stored =
    (rules_mean read.context read.stored).0 f.none in
    record {
      inside = omega (arith, stands.at_is, f.ends, f.stands.fits);
      near =
          omega (
            arith,
            stands.position_is,
            position-near read.context read.stored (2 ^ 32) rules
                (omega (arith, stands.previous_is, before.near))
                (omega (arith, stands.read.bases, fits.small)),
          );
    }

-- ---- Its letters and counts

module _ (source : Source) (read : FoundRead) (bytes : AllBytes source.dna)
    (stands : ReadStands source read) where
  -- It can be printed.
  pub taken_printable : (reference : List ℕ) → ReferenceFits source.bases reference
      → Printable source.dna reference (read_in read).length (read_in read).«record»
      (read_in read).layout
  unfolding read_in
  taken_printable reference fits =
      decoded-printable read.context reference source.dna read.at bytes
      (subst (λ (n : ℕ). ReferenceFits n reference) (sym stands.bases) fits) stands.short
      stands.stands

  -- Its letters in the code's terms are the record's.
  pub taken_letters : (reference : List ℕ)
      → letters_in reference source.dna (read_in read) ≡ read_letters reference read
  unfolding letters_in read_letters read_in
  taken_letters reference =
      letters_laid read.context source.dna read.at bytes stands.stands reference 0

  -- So are its counts.
  pub taken_counts : (differences : Bool) (reference : List ℕ)
      → counts_in differences reference source.dna (read_in read)
      ≡ counts_of (read_counts differences reference read)
  unfolding counts_in read_counts counts_with read_in record_counts layout_of
  taken_counts differences reference =
      ap
      (λ (n : ℕ).
      record {
        reads = 1;
        letters = read.context.read_length;
        entries = length (entries_of read.stored.fields);
        differences = cond differences n 0;
        top = top_of (length (entries_of read.stored.fields));
      })
      (differences_laid read.context source.dna read.at bytes stands.stands reference 0)

-- ---- Bounds

count_true-le : (tests : List Bool) → count_true tests ≤ length tests
unfolding count_true
count_true-le [] = omega arith
count_true-le (true ∷ tests) = omega (arith, count_true-le tests)
count_true-le (false ∷ tests) = omega (arith, count_true-le tests)

-- A read is at the top once or not at all.
top_of-le : (entries : ℕ) → top_of entries ≤ 1
unfolding top_of
top_of-le entries = by_test (eqb entries max_entries) (λ t. rw t (omega arith)) (λ t. rw t (omega arith))

-- Entries, and the differences among them, are few.
pub counts-few : (differences : Bool) (reference dna : List ℕ) (read : Read)
    → Printable dna reference read.length read.«record» read.layout
    → ((counts_in differences reference dna read).entries ≤ 31)
    × ((counts_in differences reference dna read).differences ≤ 31)
    × ((counts_in differences reference dna read).top ≤ 1)
unfolding counts_in record_counts
counts-few differences reference dna read printable =
    let few : read.layout.entry_count ≤ 31 = printable.laid.lists.entry_count in
    let size : ℕ = read.length in
    let fields : RecordFields = fields_in dna size read.«record» read.layout in
    let tests : List Bool =
    build (length (entries_of fields))
    (is_difference reference (context_in 0 size read.«record»)
    (stored_in dna size read.«record» read.layout)) in
    let n : length tests ≡ length (entries_of fields) = length-build _ _ in
    let least : count_true tests ≤ 31 =
    omega (arith, count_true-le tests, printable.counted) in (
      few,
      by_test differences (λ t. rw t least) (λ t. rw t (omega arith)),
      top_of-le read.layout.entry_count,
    )

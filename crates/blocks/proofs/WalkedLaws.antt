-- What the answer of a walk over all reads of a block says of its DNA section. Assumes nothing.
use mathlib.Core.Path.{◌≡◌, refl, sym, ap, ◌∙◌}
use Prim.Native.Nat.{ℕ}
use native.Mathlib.Omega.{arith}
use mathlib.Core.Bool.{Bool}
use mathlib.Core.List.{List}
use Rattle.std.specs.Prelude.{Result, Err}
use Rattle.reads.specs.declared.Walked.{Walked}
use Rattle.reads.proofs.TurnLaws.{walked_at}
use Rattle.base.specs.Lists.{AllBytes}
use Rattle.base.specs.Answer.{found, refused}
use Rattle.dna.specs.SizesAt.{lengths_given}
use Rattle.dna.specs.Counts.{Counted}
use Rattle.dna.specs.Division.{Division, division_counts}
use Rattle.dna.specs.Walk.{ReadRefusal, Walk, section_walk}
use Rattle.dna.specs.declared.Counts.{Counts}
use Rattle.reads.specs.ReadWalk.{Source}
use Rattle.reads.specs.Cursor.{Arrived, first_read, read_steps}
use Rattle.reads.specs.Walked.{counts_with, reads_counts, counts_of, no_read, last_of, walk_answer}
use Rattle.reads.specs.declared.Read.{Read}
use Rattle.reads.specs.declared.ReadCursor.{ReadCursor}
use Rattle.reads.proofs.ReadLaws.{AllReads, reads_refused, reads_found}
use Rattle.reads.proofs.AllReadLaws.{all_counts}

-- What is known of the section where the walk arrived.
pub record SectionWalked (source : Source) (fixed : Bool) (each : ℕ) (lengths' : List ℕ)
    (differences : Bool) (reference : List ℕ) (cursor : ReadCursor) (counts : Counts)
    : Type 0 where
  pub division : Division
  pub end : ℕ
  pub walked : section_walk source.bases lengths' source.ns source.dna ≡ found division end
  pub all : AllReads source fixed each lengths' division end
  pub end_is : end ≡ cursor.at
  pub counts_are :
      counts
      ≡ counts_of
      (counts_with differences (division_counts reference source.bases lengths' division))

module _ (source : Source) (fixed : Bool) (each : ℕ) (lengths' : List ℕ) (after : ℕ)
    (bytes : AllBytes source.dna) (size-bytes : AllBytes source.sizes)
    (long : lengths_given fixed each source.reads source.sizes ≡ found lengths' after)
    (differences : Bool) (reference : List ℕ) where
  abbrev section : Walk Division
  section = section_walk source.bases lengths' source.ns source.dna

  abbrev walk : Walk Arrived
  walk = read_steps source.reads source (first_read fixed each)

  -- A refusal is that of the section.
  pub walked_refused : (refusal : ReadRefusal)
      → Err refusal ≡ walk_answer differences reference walk
      → section ≡ refused refusal
  unfolding walk_answer
  walked_refused refusal e =
      let go : (answer : Walk Division) → section ≡ answer → answer ≡ refused refusal
      = elim [
        | found division end ↦ λ is.
            let all : AllReads source fixed each lengths' division end =
            reads_found source fixed each lengths' after bytes size-bytes long division end is in
            let z : Err refusal ≡ walk_answer differences reference
            (found all.arrived end) =
            e ∙ ap (walk_answer differences reference) all.steps in
            let o : ◌≡◌ {A = ℕ} 0 1 = cc in absurd (omega arith)
        | refused why ↦ λ is.
            let z : ◌≡◌ {A = Result Walked ReadRefusal} (Err refusal) (Err why) =
            e
            ∙ ap (walk_answer differences reference)
            (reads_refused source fixed each lengths' after bytes size-bytes long why is) in
            let same : why ≡ refusal = cc in
            ap refused same
      ] in
      go section refl

  -- Where it arrived, the section was walked.
  pub walked_found : (cursor : ReadCursor) (last : Read) (counts : Counts)
      → walked_at cursor last counts
      ≡ walk_answer differences reference
      (read_steps source.reads source (first_read fixed each))
      → SectionWalked source fixed each lengths' differences reference cursor counts
  unfolding walk_answer
  walked_found cursor last counts e =
      let go : (answer : Walk Division)
      → section_walk source.bases lengths' source.ns source.dna ≡ answer
      → SectionWalked source fixed each lengths' differences reference cursor counts
      = elim [
        | refused why ↦ λ is.
            let z : walked_at cursor last counts ≡ Err why =
            e
            ∙ ap (walk_answer differences reference)
            (reads_refused source fixed each lengths' after bytes size-bytes long why is) in
            let o : ◌≡◌ {A = ℕ} 0 1 = cc in absurd (omega arith)
        | found division end ↦ λ is.
            let all : AllReads source fixed each lengths' division end =
            reads_found source fixed each lengths' after bytes size-bytes long division end is in
            let sum : Counted = reads_counts differences reference all.arrived.reads in
            let z : walked_at cursor last counts
            ≡ walked_at all.arrived.cursor (last_of no_read all.arrived.reads) (counts_of sum) =
            e ∙ ap (walk_answer differences reference) all.steps in
            let same : ◌≡◌ {A = Walked} (record { cursor = cursor; last = last; counts = counts })
            (record {
              cursor = all.arrived.cursor;
              last = last_of no_read all.arrived.reads;
              counts = counts_of sum;
            }) =
            cc in
            let there : cursor ≡ all.arrived.cursor = ap (λ (w : Walked). w.cursor) same in
            let counted : counts ≡ counts_of sum = ap (λ (w : Walked). w.counts) same in
            record {
              division = division;
              end = end;
              walked = is;
              all = all;
              end_is = all.end_is ∙ sym (ap (λ (c : ReadCursor). c.at) there);
              counts_are = counted ∙ ap counts_of (all_counts all differences reference);
            }
      ] in
      go (section_walk source.bases lengths' source.ns source.dna) refl

-- `blocks::write_reads` meets its contract: the walk is not refused, and writes all. Assumes
-- nothing.
-- Where the function begins, and what is known of the block there.
use mathlib.Core.Path.{◌≡◌, refl, sym, ap, ◌∙◌}
use native.Mathlib.Omega.{arith}
use Rattle.std.specs.Prelude.{Result, Ok, Err}
use Rattle.base.specs.Lists.{AllBytes}
use Rattle.dna.specs.Refused.{numbered_block, read_refusal}
use Rattle.dna.specs.declared.refusals.BlockRefusal.{BlockRefusal}
use Rattle.reads.specs.declared.Walked.{Walked}
use Rattle.blocks.proofs.AcceptedLaws.{BlockParts, block-parts, all_found, block_writable}
use Rattle.blocks.proofs.WriteLaws.{reads_not_refused, reads_written}
use Rattle.blocks.proofs.write_reads.Goals as goal
use Rattle.blocks.proofs.write_reads.Goals.{After-pair_table-pairs, After-walk_block-walked}

bytes : (c : After-pair_table-pairs) → AllBytes c.args.input.now
bytes c =
    record { each = λ k h. omega (arith, c.type_inv.input k) }

parts : (c : After-pair_table-pairs)
    → (let a = c.args in
    BlockParts a.bases a.reference.now a.input.now c.requires.divided)
parts c = block-parts _ _ _ _ _ c.requires.answer

pub walk_block-walked-requires : goal.walk_block-walked-requires
walk_block-walked-requires c =
    let a = c.args in
    record {
      block_ready = (parts (goal.at.walk_block-walked-requires c).After-pair_table-pairs).ready;
      tables_made = λ yes'. (
        record {
          forward_is = c.word_table-forward.ensures;
          reverse_is = c.word_table-reverse.ensures;
          pairs_are = c.pair_table-pairs.ensures;
        },
        block_writable a.bases a.reference.now a.input.now c.requires.divided
            (bytes (goal.at.walk_block-walked-requires c).After-pair_table-pairs) (parts (goal.at.walk_block-walked-requires c).After-pair_table-pairs) _ _ c.requires.letters_fit c.requires.ends_fit,
      );
    }

-- The walk arrives.
arrived : (c : After-walk_block-walked)
    → (w : Walked) × (c.walk_block-walked.result ≡ Ok w)
unfolding numbered_block
arrived c =
    let a = c.args in
    let go : (answer : Result Walked BlockRefusal) → c.walk_block-walked.result ≡ answer
    → (w : Walked) × (answer ≡ Ok w)
    = elim [
      | Ok w ↦ λ is. (w, refl)
      | Err why ↦ λ is.
          absurd
          (reads_not_refused a.bases a.reference.now a.input.now c.requires.divided
          a.bytes a.letters.now a.ends.now _
          (all_found a.bases a.reference.now a.input.now c.requires.divided (bytes (goal.at.After-walk_block-walked c).After-pair_table-pairs)
          (parts (goal.at.After-walk_block-walked c).After-pair_table-pairs))
          (read_refusal why)
          (sym (ap numbered_block is) ∙ c.walk_block-walked.ensures.answered))
    ] in
    go c.walk_block-walked.result refl

pub unwrap-requires : goal.unwrap-requires
unwrap-requires c =
    let p = arrived (goal.at.unwrap-requires c).After-walk_block-walked in rw p.1 refl

pub returns : goal.returns
returns c =
    let a = c.args in
    λ divided answer.
    reads_written a.bases a.reference.now a.input.now divided a.bytes
    a.letters.now a.ends.now _
    (all_found a.bases a.reference.now a.input.now divided (bytes (goal.at.returns c).After-pair_table-pairs)
    (block-parts _ _ _ _ _ answer))
    _ _ _ _ _ _ c.unwrap.ensures c.walk_block-walked.ensures

-- `blocks::walk_block` meets its contract: it reads from the sections of the block. Assumes
-- nothing.
-- Where the function begins.
use mathlib.Core.Path.{◌≡◌, ap, ap₂, ◌∙◌}
use Rattle.base.specs.Numbers.{non_negative}
use Rattle.base.proofs.SignedLaws.{carried}
use Rattle.format.specs.Header.{header_of, read_count}
use Rattle.format.specs.Sections.{dna_number, size_number, n_number}
use Rattle.format.proofs.SectionLaws.{accepted-table, accepted-section}
use Rattle.reads.specs.Cursor.{source_of, first_read}
use Rattle.blocks.specs.Judged.{block_source, is_fixed, each_length}
use Rattle.blocks.proofs.SourceLaws.{walk_is, walk_ready, writable_is, done-is}
use Rattle.blocks.proofs.walk_block.Goals as goal
use Rattle.blocks.proofs.walk_block.Goals.{After-first_read, After-read_count-reads}

-- What it reads from is the block's.
source_is : (c : After-read_count-reads)
    → (let a = c.args in
    source_of c.section-dna.result.now
    c.section-sizes.result.now c.section-ns.result.now
    c.read_count-reads.result a.bases)
    ≡ block_source c.args.bases
    c.args.input.now
source_is c =
    let a = c.args in
    let accepted = c.requires.block_ready.accepted in
    let d = c.section-dna.ensures.0 ∙ accepted-section _ dna_number accepted in
    let s = c.section-sizes.ensures.0 ∙ accepted-section _ size_number accepted in
    let n = c.section-ns.ensures.0 ∙ accepted-section _ n_number accepted in
    let r = c.read_count-reads.ensures.0 in
    λ t. record { dna = d t; sizes = s t; ns = n t; reads = r t; bases = a.bases }

reads-are : (c : After-read_count-reads)
    → c.read_count-reads.result ≡ read_count (header_of c.args.input.now)
reads-are c = c.read_count-reads.ensures.0

start_is : (c : After-first_read)
    → (let a = c.args in
    c.first_read.result ≡ first_read (is_fixed a.input.now) (each_length a.input.now))
start_is c =
    c.first_read.ensures
    ∙ ap₂ first_read c.same_length.ensures
    (ap non_negative (carried _ _ c.l_read.type_inv c.l_read.ensures))

pub invariant_of-table : goal.invariant_of-table
invariant_of-table c = record { there = accepted-table _ c.requires.block_ready.accepted }

pub walk-requires : goal.walk-requires
walk-requires c =
    let a = c.args in
    record {
      source_fits = walk_ready a.bases a.reference.now a.input.now c.requires.block_ready _ _ _
          (source_is (goal.at.walk-requires c).After-read_count-reads) (start_is (goal.at.walk-requires c).After-first_read) (reads-are (goal.at.walk-requires c).After-read_count-reads);
      tables_made = λ yes'. (
        (c.requires.tables_made yes').0,
        writable_is a.bases a.reference.now a.input.now c.requires.block_ready _ _ _
            (source_is (goal.at.walk-requires c).After-read_count-reads) (start_is (goal.at.walk-requires c).After-first_read) (reads-are (goal.at.walk-requires c).After-read_count-reads) _ _ (c.requires.tables_made yes').1,
      );
    }

pub returns : goal.returns
returns c =
    let a = c.args in
    done-is
    (walk_is a.bases a.reference.now a.input.now c.requires.block_ready _ _ _
    (source_is (goal.at.returns c).After-read_count-reads) (start_is (goal.at.returns c).After-first_read) (reads-are (goal.at.returns c).After-read_count-reads))
    c.walk.ensures

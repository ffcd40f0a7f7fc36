-- `encoder::encode_lent` meets its contract: the lengths of the sections are that of the block, and
-- its parts are written one after the other. Assumes nothing.
-- ---- What is lent
-- Where the function begins.
use mathlib.Core.Path.{◌≡◌, ap, ◌∙◌}
use mathlib.Core.Bool.{false}
use Prim.Native.Nat.{ℕ, ◌+◌}
use lib.ListN.{length}
use native.Mathlib.Omega.{arith}
use Rattle.base.specs.Groups.{group_count}
use Rattle.dna.specs.Counts.{zero_counts}
use Rattle.tokens.specs.WrittenNames.{names_refused}
use Rattle.dna.specs.Refused.{refusal_number}
use Rattle.format.specs.Answered.{outcome_of_encode}
use Rattle.format.specs.Outcome.{accepted_block}
use Rattle.format.specs.EncodeAnswer.{EncodeInput, block_of}
use Rattle.encoder.specs.Blocks.{block_input}
use Rattle.encoder.specs.Lengths.{LengthsKnown}
use Rattle.encoder.proofs.InputLaws.{unstamped, number_short, number_none, answer_refused}
use Rattle.encoder.proofs.InputLaws.{answer_written, InputFits, input-fits}
use Rattle.encoder.proofs.BlockLaws.{length_block, block_pasted}
use Rattle.encoder.proofs.encode_lent.Goals as goal
use Rattle.encoder.proofs.encode_lent.Goals.{After-size_section_length-sizes, Start}

-- What the caller lends.
abbrev given : (c : Start) → EncodeInput
given c = block_input c.args.reads.now c.args.names.now c.args.name_ends.now c.args.b_id c.args.c_time

fits : (c : Start)
    → InputFits c.args.reads.now.bases c.args.reads.now.reference.now (unstamped (given c))
fits c =
    let reads = c.args.reads.now in
    input-fits reads.bases reads.reference.now (given c) c.requires.typed reads.faultless
    c.requires.named

-- The names are as many as their ends.
named : (c : Start)
    → names_refused (length c.args.name_ends.now) c.args.names.now
    c.args.name_ends.now
    ≡ false
named c =
    let a = c.args in
    ap (λ (n : ℕ). names_refused n a.names.now a.name_ends.now) (fits c).names_counted
    ∙ c.requires.named

lengths : (c : After-size_section_length-sizes)
    → LengthsKnown c.args.reads.now.ends.now c.all_equal-equal.result
    (length c.args.reads.now.letters.now) c.dna_length-dna.result
    c.measure-named.result c.size_section_length-sizes.result
lengths c =
    let f = fits (goal.at.After-size_section_length-sizes c).Start in
    record {
      few = f.few;
      equal_is = c.all_equal-equal.ensures;
      letters_are = f.letters_are;
      letters_fit = f.letters_fit;
      dna_fits = omega (arith, c.dna_length-dna.ensures, f.dna_fits);
      named_fits = omega (arith, c.measure-named.ensures.0, f.names_fit);
      sizes_are = c.size_section_length-sizes.ensures;
      sizes_fit = omega (arith, c.size_section_length-sizes.ensures, f.sizes_fit);
    }

-- The length of the block.
block_size : (c : After-size_section_length-sizes)
    → 121 + c.dna_length-dna.result + c.measure-named.result
    + c.size_section_length-sizes.result + group_count (length c.args.reads.now.ends.now)
    ≡ length (block_of c.args.reads.now.bases c.args.reads.now.reference.now
    (given (goal.at.After-size_section_length-sizes c).Start))
block_size c =
    let a = c.args in
    omega (
      arith,
      length_block a.reads.now.bases a.reads.now.reference.now (given (goal.at.After-size_section_length-sizes c).Start) (fits (goal.at.After-size_section_length-sizes c).Start),
      c.dna_length-dna.ensures,
      c.measure-named.ensures.0,
      c.size_section_length-sizes.ensures,
    )

pub measure-named-requires : goal.measure-named-requires
measure-named-requires c =
    let f = fits (goal.at.measure-named-requires c).Start in
    record {
      ends_value = named (goal.at.measure-named-requires c).Start;
      ends_len_bound = (omega (arith, f.few, f.names_counted), omega arith, omega arith);
    }

pub size_section_length-sizes-requires : goal.size_section_length-sizes-requires
size_section_length-sizes-requires c =
    ((fits (goal.at.size_section_length-sizes-requires c).Start).few, c.all_equal-equal.ensures)

pub overflow_add-end : goal.overflow_add-end
overflow_add-end c =
    let l = lengths (goal.at.overflow_add-end c).After-size_section_length-sizes in
    omega (arith, l.dna_fits, l.named_fits, l.sizes_fit, l.few)

pub returns-then-out-end : goal.returns-then-out-end
unfolding outcome_of_encode refusal_number group_count
returns-then-out-end c =
    let a = c.args in
    let number =
    number_short a.reads.now.bases a.reads.now.reference.now (given (goal.at.returns-then-out-end c).Start) a.out.now
    c.args.reads.now.faultless c.requires.named
    (omega (arith, c.if-out-end.true, block_size (goal.at.returns-then-out-end c).After-size_section_length-sizes)) in
    answer_refused a.reads.now.bases a.reads.now.reference.now (given (goal.at.returns-then-out-end c).Start) a.out.now 34
    number (λ e. omega arith)

pub invariant_of-lengths : goal.invariant_of-lengths
invariant_of-lengths c =
    record { known = lengths (goal.at.invariant_of-lengths c).After-size_section_length-sizes }

pub put_front-requires : goal.put_front-requires
put_front-requires c = omega (arith, c.n_start-ns.ensures, c.if-out-end.false)

pub overflow_add-dna : goal.overflow_add-dna
overflow_add-dna c =
    omega (arith, (lengths (goal.at.overflow_add-dna c).After-size_section_length-sizes).dna_fits, (lengths (goal.at.overflow_add-dna c).After-size_section_length-sizes).sizes_fit)

pub put_section-requires : goal.put_section-requires
put_section-requires c =
    let f = fits (goal.at.put_section-requires c).Start in
    let measured = c.measure-named.ensures in
    record {
      ends_value = named (goal.at.put_section-requires c).Start;
      ends_len_bound = omega (arith, f.few, f.names_counted);
      at = (measured.1, measured.2);
      ends_in_bounds = omega (arith, measured.0, c.if-out-end.false);
    }

pub put_dna-requires : goal.put_dna-requires
unfolding group_count
put_dna-requires c =
    let f = fits (goal.at.put_dna-requires c).Start in
    (omega (arith, c.dna_length-dna.ensures), omega (arith, f.ns_are, c.if-out-end.false))

pub returns : goal.returns
unfolding outcome_of_encode group_count
returns c =
    let reads = c.args.reads.now in
    let out = c.args.out.now in
    let size = block_size (goal.at.returns c).After-size_section_length-sizes in
    let input : EncodeInput = given (goal.at.returns c).Start in
    let dna = c.dna_length-dna in
    let names = c.measure-named in
    let end : c.n_start-ns.result + c.div_ceil.result
    ≡ length (block_of reads.bases reads.reference.now input) = omega (arith, size) in
    let number =
    number_none reads.bases reads.reference.now input out reads.faultless c.requires.named
    (omega (arith, c.if-out-end.false, size)) in
    let answered =
    answer_written reads.bases reads.reference.now input out 0 number (omega arith) in (
      ap (λ (n : ℕ). accepted_block n zero_counts) end ∙ answered.0,
      block_pasted reads.bases reads.reference.now input (fits (goal.at.returns c).Start) out _ _ _
          dna.result names.result c.n_start-ns.result dna.ensures names.ensures.0
          (omega (arith, c.size_section_length-sizes.ensures)) (omega (arith, c.if-out-end.false))
          c.put_front.ensures c.put_section.ensures c.put_dna.ensures
          ∙ answered.1,
    )

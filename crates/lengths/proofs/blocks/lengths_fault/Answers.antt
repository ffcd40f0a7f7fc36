-- `lengths::blocks::lengths_fault` meets its contract: what it passes on are the header's numbers
-- and the block's size section. Assumes nothing.
-- The number by what was read is that of the block.
use mathlib.Core.Path.{◌≡◌, ap, ◌∙◌}
use Prim.Native.Nat.{ℕ}
use mathlib.Core.Bool.{Bool}
use mathlib.Core.List.{List}
use Rattle.base.proofs.SignedLaws.{carried}
use Rattle.base.specs.Numbers.{non_negative}
use Rattle.format.proofs.SectionLaws.{accepted-table, accepted-section}
use Rattle.format.specs.Header.{header_of, flag_set, same_length_flag, read_count}
use Rattle.format.specs.Sections.{section_of, size_number}
use Rattle.format.specs.BlockAnswer.{lengths_answer}
use Rattle.dna.specs.SizesAt.{lengths_given}
use Rattle.lengths.specs.Given.{lengths_found, lengths_number}
use Rattle.lengths.proofs.blocks.lengths_fault.Goals as goal

number_read : (input section : List ℕ) (fixed : Bool) (each reads raw number : ℕ)
    → number ≡ lengths_number raw (lengths_found (lengths_given fixed each reads section))
    → section ≡ section_of input size_number
    → fixed ≡ flag_set (header_of input).flags same_length_flag
    → each ≡ non_negative (header_of input).l_read
    → reads ≡ read_count (header_of input)
    → raw ≡ (header_of input).l_dna_raw
    → number
    ≡ lengths_number (header_of input).l_dna_raw (lengths_found (lengths_answer input))
unfolding lengths_answer
number_read input section fixed each reads raw number judged sections flags lread count size =
    cc

pub invariant_of-table : goal.invariant_of-table
invariant_of-table c =
    record { there = accepted-table _ c.requires }

pub returns : goal.returns
returns c =
    number_read c.args.input.now _ _ _ _ _ _ c.lengths_fault.ensures
    (c.section-sizes.ensures.0 ∙ accepted-section _ size_number c.requires)
    c.same_length-fixed.ensures
    (ap non_negative (carried _ _ c.l_read.type_inv c.l_read.ensures))
    c.read_count-reads.ensures.0
    c.raw_dna_size.ensures

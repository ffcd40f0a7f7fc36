-- `blocks::n_section_wrong` meets its contract. Assumes nothing.
use mathlib.Core.Path.{sym, ap₂, ◌∙◌}
use Prim.Native.Nat.{ℕ, ◌+◌, ◌/◌}
use mathlib.Core.Bool.{not}
use lib.Dec.{eqb}
use Rattle.base.specs.Groups.{group_count}
use Rattle.format.specs.Sections.{n_number}
use Rattle.format.specs.Lengths.{n_section_wrong}
use Rattle.format.proofs.SectionLaws.{accepted-table, length-section_of}
use Rattle.blocks.proofs.n_section_wrong.Goals as goal

pub invariant_of-table : goal.invariant_of-table
invariant_of-table c = record { there = accepted-table _ c.requires }

pub returns : goal.returns
unfolding n_section_wrong group_count
returns c =
    let input = c.args.input.now in
    ap₂ (λ (size reads : ℕ). not (eqb size ((reads + 7) / 8)))
    (c.section_length.ensures.0
    ∙ sym (length-section_of input n_number c.requires))
    (c.read_count.ensures.0)

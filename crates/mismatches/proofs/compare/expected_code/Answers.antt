-- `mismatches::compare::expected_code` meets its contract. Assumes nothing.
use native.Mathlib.Omega.{arith}
use mathlib.Core.Path.{◌∙◌, ap}
use Rattle.dna.specs.Reference.{strand_base}
use Rattle.dna.proofs.ReferenceLaws.{stretch_index-inside}
use Rattle.mismatches.specs.Entries.{stretch_base}
use Rattle.mismatches.proofs.compare.expected_code.Goals as goal

pub strand_base-requires : goal.strand_base-requires
strand_base-requires c =
    let a = c.args in
    let inside =
    stretch_index-inside a.forward a.leftmost a.aligned a.place c.requires.1 in
    omega (arith, c.stretch_index-index.ensures, inside, c.requires.0.inside)

pub returns : goal.returns
unfolding stretch_base
returns c =
    let a = c.args in
    c.strand_base.ensures
    ∙ ap (strand_base a.reference.now a.forward) c.stretch_index-index.ensures

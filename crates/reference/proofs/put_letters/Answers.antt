use native.Mathlib.Omega.{arith}
use mathlib.Core.Path.{◌∙◌, ap}
use Rattle.dna.proofs.ReferenceLaws.{strand_base-below, stretch_index-inside}
use Rattle.dna.specs.Reference.{letter_of_code, strand_base}
use Rattle.reference.proofs.Codes.{code-small}
use Rattle.reference.proofs.Stretches.{written_none, letter_written, written_all}
use Rattle.reference.proofs.put_letters.Goals as goal

pub loop-k-init : goal.loop-k-init
loop-k-init c =
    let a = c.args in
    written_none a.reference.now a.forward a.leftmost a.bases a.out.now a.at

pub strand_base-requires : goal.strand_base-requires
strand_base-requires c =
    let a = c.args in
    let inside =
    stretch_index-inside a.forward a.leftmost a.bases c.loop-k.k
    c.loop-k-test.true in
    omega (arith, c.stretch_index-index.ensures, inside)

pub letter_of_code-requires : goal.letter_of_code-requires
letter_of_code-requires c =
    code-small _ _ c.strand_base.ensures (strand_base-below _ _ _)

pub loop-k-preserved : goal.loop-k-preserved
loop-k-preserved c =
    let a = c.args in
    let shown = strand_base a.reference.now a.forward in
    letter_written a.reference.now a.forward a.leftmost a.bases
    c.letter_of_code.result c.loop-k.invariant (omega arith) c.loop-k-test.true
    (c.letter_of_code.ensures
    ∙ ap letter_of_code
    (c.strand_base.ensures
    ∙ ap shown c.stretch_index-index.ensures))

pub returns : goal.returns
returns c =
    let a = c.args in
    written_all a.reference.now a.forward a.leftmost a.bases c.loop-k.invariant
    (omega arith) (omega arith)

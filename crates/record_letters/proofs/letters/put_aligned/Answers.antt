-- `record_letters::letters::put_aligned` meets its contract. Assumes nothing.
use mathlib.Core.Path.{ap, ◌∙◌}
use mathlib.Core.Bool.{Bool}
use Rattle.base.specs.Paste.{pasted}
use Rattle.dna.specs.Reference.{stretch_letters}
use Rattle.record_letters.proofs.letters.put_aligned.Goals as goal

pub returns : goal.returns
returns c =
    let a = c.args in
    c.put_stretch.ensures
    ∙ ap (λ (f : Bool). pasted a.out.now a.at (stretch_letters a.reference.now f a.leftmost a.aligned))
    c.is_forward-forward.ensures

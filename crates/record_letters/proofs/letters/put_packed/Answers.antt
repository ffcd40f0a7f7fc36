-- `record_letters::letters::put_packed` meets its contract: the codes are a stretch of the section.
-- Assumes nothing.
use mathlib.Core.Path.{ap, ◌∙◌}
use native.Mathlib.Omega.{arith}
use Rattle.base.specs.Paste.{pasted}
use Rattle.record_letters.proofs.PlainLaws.{packed_fits, packed_letters}
use Rattle.record_letters.proofs.letters.put_packed.Goals as goal

pub put_stretch_forward-requires : goal.put_stretch_forward-requires
put_stretch_forward-requires c =
    let a = c.args in (
      packed_fits a.section.now a.packed a.first a.count c.requires.0 c.requires.1,
      omega (arith, c.requires.2),
      a.tables.forward_words,
    )

pub returns : goal.returns
returns c =
    let a = c.args in
    c.put_stretch_forward.ensures
    ∙ ap (pasted a.out.now a.at)
    (packed_letters a.section.now a.packed a.first a.count c.requires.0)

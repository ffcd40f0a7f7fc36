-- `encoder::faults::no_letter` meets its contract: a letter of five. Assumes nothing.
use mathlib.Core.Path.{ap₂, ◌∙◌}
use Prim.Native.Nat.{min}
use Rattle.encoder.proofs.FaultLaws.{differs-flag, letter-flag}
use Rattle.encoder.proofs.faults.no_letter.Goals as goal

pub returns : goal.returns
returns c =
    let letter = c.args.letter in
    c.min.ensures
    ∙ ap₂ min (c.from-5.ensures ∙ differs-flag letter 65)
    (c.min-c_or_later.ensures
    ∙ ap₂ min (c.from-4.ensures ∙ differs-flag letter 67)
    (c.min-g_or_later.ensures
    ∙ ap₂ min (c.from-3.ensures ∙ differs-flag letter 71)
    (c.min-t_or_n.ensures
    ∙ ap₂ min (c.from.ensures ∙ differs-flag letter 84) (c.from-2.ensures ∙ differs-flag letter 78))))
    ∙ letter-flag letter

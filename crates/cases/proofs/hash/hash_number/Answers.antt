-- `cases::hash::hash_number` meets its contract: the library's bytes are those of the definition.
-- Assumes nothing.
use mathlib.Core.Path.{ap, ◌∙◌}
use Rattle.integers.proofs.LibraryNumbers.{to_four}
use Rattle.cases.specs.Hash.{hash_from}
use Rattle.cases.proofs.hash.hash_number.Goals as goal

pub returns : goal.returns
returns c =
    let a = c.args in
    c.hash_bytes.ensures ∙ ap (hash_from a.hash) (c.to_le_bytes.ensures ∙ to_four a.number)

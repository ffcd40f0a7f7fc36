-- `cases::case_file::positions_part` meets its contract. Assumes nothing.
use mathlib.Core.Path.{ap, ◌∙◌}
use Prim.Native.Nat.{ℕ, ◌*◌}
use Rattle.base.specs.Lists.{part}
use Rattle.cases.proofs.case_file.positions_part.Goals as goal

pub returns : goal.returns
returns c =
    let bytes = c.args.bytes.now in
    c.bytes_from.ensures
    ∙ ap (λ (from : ℕ). part bytes from (4 * c.args.header.positions)) c.positions_start.ensures.0

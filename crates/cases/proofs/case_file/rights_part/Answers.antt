-- `cases::case_file::rights_part` meets its contract. Assumes nothing.
use mathlib.Core.Path.{ap, ◌∙◌}
use Prim.Native.Nat.{ℕ}
use Rattle.base.specs.Lists.{part}
use Rattle.cases.proofs.case_file.rights_part.Goals as goal

pub returns : goal.returns
returns c =
    let bytes = c.args.bytes.now in
    c.bytes_from.ensures
    ∙ ap (λ (from : ℕ). part bytes from (c.args.header.rights)) c.rights_start.ensures.0

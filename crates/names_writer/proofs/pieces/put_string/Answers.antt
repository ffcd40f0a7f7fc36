-- `names_writer::pieces::put_string` meets its contract. Assumes nothing.
use mathlib.Core.Path.{refl, ap}
use mathlib.Core.List.{[], ◌∷◌}
use Prim.Native.Nat.{◌+◌, ◌≤◌}
use native.Mathlib.Omega.{arith}
use lib.ListN.{length, length-append}
use Rattle.base.proofs.PasteLaws.{length_pasted}
use Rattle.names_writer.proofs.PieceLaws.{put-string}
use Rattle.names_writer.proofs.pieces.put_string.Goals as goal
use Rattle.names_writer.proofs.pieces.put_string.Goals.{Start}

fits : (c : Start) → c.args.at + (length c.args.token.now + 1) ≤ length c.args.out.now
fits c = omega (arith, c.requires, length-append c.args.token.now (0 ∷ []))

pub overflow_add-end : goal.overflow_add-end
overflow_add-end c = omega (arith, fits (goal.at.overflow_add-end c).Start)

pub put_bytes-requires : goal.put_bytes-requires
put_bytes-requires c = omega (arith, fits (goal.at.put_bytes-requires c).Start)

pub bounds-out-end : goal.bounds-out-end
bounds-out-end c =
    let a = c.args in
    let room = fits (goal.at.bounds-out-end c).Start in
    omega (
      arith,
      ap length c.put_bytes.ensures,
      length_pasted a.out.now a.at a.token.now (omega arith),
    )

pub returns : goal.returns
returns c =
    let a = c.args in
    put-string a.out.now _ a.token.now a.at _ c.requires refl c.put_bytes.ensures

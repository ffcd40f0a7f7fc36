-- `names_writer::pieces::put_number` meets its contract. Assumes nothing.
use mathlib.Core.Path.{sym, ap, ◌∙◌}
use Prim.Native.Nat.{ℕ, ◌+◌, ◌-◌}
use native.Mathlib.Omega.{arith}
use lib.ListN.{length}
use Rattle.base.specs.Numbers.{le_bytes}
use Rattle.base.proofs.NumberLaws.{length-le_bytes}
use Rattle.names_writer.specs.Steps.{kind_byte, kind_width}
use Rattle.names_writer.proofs.PieceLaws.{number_first, number_next, piece_done}
use Rattle.names_writer.proofs.pieces.put_number.Goals as goal

pub put_u64-requires : goal.put_u64-requires
put_u64-requires c =
    let a = c.args in
    omega (
      arith,
      c.requires,
      ap length (number_first a.last (kind_width (kind_byte a.kind)) a.number c.in_default.is),
      length-le_bytes 8 a.number,
    )

pub returns-in_default : goal.returns-in_default
returns-in_default c =
    let a = c.args in
    piece_done a.out.now _ _ (le_bytes 8 a.number) a.at _
    (number_first a.last (kind_width (kind_byte a.kind)) a.number c.in_default.is) (
      c.put_u64.ensures,
      ap (λ (n : ℕ). a.at + n) (sym (length-le_bytes 8 a.number)),
    )

pub put_step-requires : goal.put_step-requires
put_step-requires c =
    let a = c.args in
    omega (
      arith,
      c.requires,
      ap length (number_next a.last (kind_width (kind_byte a.kind)) a.number _ c.in-Some.is),
      length-le_bytes (kind_width (kind_byte a.kind)) (a.number - c.in-Some.previous),
    )

pub returns : goal.returns
returns c =
    let a = c.args in
    let width = kind_width (kind_byte a.kind) in
    piece_done a.out.now _ _ (le_bytes width c.saturating_sub.result) a.at _
    (number_next a.last width a.number _ c.in-Some.is
    ∙ ap (le_bytes width) (sym c.saturating_sub.ensures)) (
      c.put_step.ensures.0,
      c.put_step.ensures.1
          ∙ ap (λ (n : ℕ). a.at + n) (sym (length-le_bytes width c.saturating_sub.result)),
    )

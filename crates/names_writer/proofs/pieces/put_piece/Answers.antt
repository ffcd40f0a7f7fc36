-- `names_writer::pieces::put_piece` meets its contract. Assumes nothing.
use mathlib.Core.Path.{sym, ap, ◌∙◌}
use native.Mathlib.Omega.{arith}
use lib.ListN.{length}
use Rattle.names_writer.specs.Steps.{kind_byte}
use Rattle.names_writer.proofs.ValueLaws.{number_is, number_some}
use Rattle.names_writer.proofs.PieceLaws.{piece_none, piece_typed, piece_done}
use Rattle.names_writer.proofs.pieces.put_piece.Goals as goal

pub put_string-requires : goal.put_string-requires
put_string-requires c =
    let a = c.args in
    omega (
      arith,
      c.requires.token_in_bounds,
      ap length (piece_none a.last (kind_byte a.kind) a.token.now
          (sym c.in_default.is ∙ c.requires.number_value)),
    )

pub returns-in_default : goal.returns-in_default
returns-in_default c =
    let a = c.args in
    piece_done a.out.now _ _ _ a.at _
    (piece_none a.last (kind_byte a.kind) a.token.now (sym c.in_default.is ∙ c.requires.number_value))
    c.put_string.ensures

pub put_typed_piece-requires : goal.put_typed_piece-requires
put_typed_piece-requires c =
    let a = c.args in
    let some = number_some a.token.now c.in-Some.number (sym c.in-Some.is ∙ c.requires.number_value) in
    record {
      number_value = some.is ∙ sym (number_is a.token.now some.digits);
      token_in_bounds =
          omega (
            arith,
            c.requires.token_in_bounds,
            ap length (piece_typed a.last (kind_byte a.kind) a.token.now some.digits),
          );
    }

pub returns : goal.returns
returns c =
    let a = c.args in
    let some = number_some a.token.now c.in-Some.number (sym c.in-Some.is ∙ c.requires.number_value) in
    piece_done a.out.now _ _ _ a.at _
    (piece_typed a.last (kind_byte a.kind) a.token.now some.digits) c.put_typed_piece.ensures

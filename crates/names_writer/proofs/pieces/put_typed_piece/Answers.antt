-- `names_writer::pieces::put_typed_piece` meets its contract. Assumes nothing.
use mathlib.Core.Path.{◌≡◌, ap}
use mathlib.Core.Bool.{true, false}
use native.Mathlib.Omega.{arith}
use borrow.Author.Rules.{rules}
use lib.Dec.{eqb}
use lib.ListN.{length}
use Rattle.names_writer.specs.Steps.{kind_byte}
use Rattle.names_writer.proofs.PieceLaws.{typed_string, typed_number, piece_done}
use Rattle.names_writer.proofs.pieces.put_typed_piece.Goals as goal
use Rattle.names_writer.proofs.pieces.put_typed_piece.Goals.{Then-eq, Else-eq}

strings : (c : Then-eq) → eqb (kind_byte c.args.kind) 0 ≡ true
strings c = search rules

numbers : (c : Else-eq) → eqb (kind_byte c.args.kind) 0 ≡ false
numbers c = search rules

pub put_string-requires : goal.put_string-requires
put_string-requires c =
    let a = c.args in
    omega (
      arith,
      c.requires.token_in_bounds,
      ap length (typed_string a.last (kind_byte a.kind) a.token.now
          (strings (goal.at.put_string-requires c).Then-eq)),
    )

pub returns-then-eq : goal.returns-then-eq
returns-then-eq c =
    let a = c.args in
    piece_done a.out.now _ _ _ a.at _
    (typed_string a.last (kind_byte a.kind) a.token.now (strings (goal.at.returns-then-eq c).Then-eq))
    c.put_string.ensures

pub put_number-requires : goal.put_number-requires
put_number-requires c =
    let a = c.args in
    omega (
      arith,
      c.requires.token_in_bounds,
      ap length (typed_number a.last (kind_byte a.kind) a.token.now a.number
          (numbers (goal.at.put_number-requires c).Else-eq) c.requires.number_value),
    )

pub returns : goal.returns
returns c =
    let a = c.args in
    piece_done a.out.now _ _ _ a.at _
    (typed_number a.last (kind_byte a.kind) a.token.now a.number
    (numbers (goal.at.returns c).Else-eq) c.requires.number_value)
    c.put_number.ensures

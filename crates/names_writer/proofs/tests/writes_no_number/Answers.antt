-- `names_writer::tests::writes_no_number` meets what it calls: the name 7x, in two columns of steps of
-- one byte. Assumes nothing.
use mathlib.Core.Path.{refl, ap}
use Prim.Native.Nat.{ℕ, zero, suc, ◌+◌, ◌≤◌, ◌<◌}
use native.Mathlib.Nat.{zero-add}
use native.Mathlib.Omega.{arith}
use mathlib.Core.List.{List, [], ◌∷◌}
use lib.ListN.{length, get_or}
use Rattle.std.proofs.Common.{None}
use Rattle.base.specs.Lists.{any, places_from}
use Rattle.base.specs.Numbers.{le_bytes}
use Rattle.tokens.specs.Split.{is_digit}
use Rattle.tokens.specs.WrittenNames.{split_of, with_byte, alike, not_number}
use Rattle.names_writer.specs.declared.pieces.Cursor.{Cursor}
use Rattle.names_writer.specs.Steps.{number_of}
use Rattle.names_writer.specs.Runs.{token_ends}
use Rattle.names_writer.specs.Rows.{Marked}
use Rattle.names_writer.specs.Pieces.{number_piece, piece_of, typed_piece, place_of}
use Rattle.names_writer.specs.Pieces.{row_piece, typed_row_piece}
use Rattle.names_writer.proofs.tests.writes_no_number.Goals as goal

abbrev name : List ℕ
name = 55 ∷ 120 ∷ []

abbrev marks : List ℕ
marks = 1 ∷ 2 ∷ []

abbrev kinds : List ℕ
kinds = 4 ∷ 4 ∷ []

abbrev cursors : List Cursor
cursors = record { last = None; place = 0 } ∷ record { last = None; place = 8 } ∷ []

marked : Marked name marks 2
unfolding split_of with_byte alike is_digit token_ends places_from
marked =
    record {
      counted = refl;
      ends = record { fits = omega arith; same = λ k h. ap (λ (j : ℕ). get_or marks j 0) (zero-add k) };
      short = omega arith;
    }

-- Pieces of up to eight bytes fit.
piece-fits : (piece : ℕ → List ℕ) → length (piece 0) ≤ 8 → length (piece 1) ≤ 8 → (k : ℕ) → k < 2
    → place_of cursors k + length (piece k) ≤ 16
piece-fits piece first second zero h = omega (arith, first)
piece-fits piece first second (suc zero) h = omega (arith, second)
piece-fits piece first second (suc (suc k)) h = absurd (omega arith)

row : (k : ℕ) → k < 2 → place_of cursors k + length (row_piece name kinds cursors k) ≤ 16
unfolding split_of with_byte alike is_digit any not_number piece_of number_piece le_bytes
row = piece-fits (row_piece name kinds cursors) (omega arith) (omega arith)

typed-row : (k : ℕ) → k < 2 → place_of cursors k + length (typed_row_piece name kinds cursors k) ≤ 16
unfolding split_of with_byte alike is_digit any not_number typed_piece number_piece le_bytes number_of
typed-row = piece-fits (typed_row_piece name kinds cursors) (omega arith) (omega arith)

pub put_row-requires : goal.put_row-requires
put_row-requires g c =
    record { marked = marked; kinds_room = omega arith; pieces_fit = record { each = row } }

pub put_typed_row-requires : goal.put_typed_row-requires
put_typed_row-requires g c =
    record {
      marked = marked;
      kinds_room = omega arith;
      pieces_fit =
          record { each = λ k h. let room = typed-row k h in omega (arith, room, c.put_row.auto.out) };
    }

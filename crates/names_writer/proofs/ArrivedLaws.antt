-- A section with one row more. Assumes nothing.
use mathlib.Core.Path.{◌≡◌, sym, ap, subst, ◌∙◌}
use Prim.Native.Nat.{ℕ, ◌+◌, ◌≤◌, ◌<◌}
use native.Mathlib.Nat.{zero-add}
use native.Mathlib.Omega.{arith}
use mathlib.Core.List.{List, [], ◌++◌, map}
use lib.ListN.{length, get_or, length-append}
use native.Mathlib.Numerals.{add-one}
use Rattle.std.proofs.Common.{Some}
use Rattle.base.specs.Lists.{build}
use Rattle.base.specs.Place.{At}
use Rattle.base.proofs.ListLaws.{length-build, get_or-build}
use Rattle.tokens.specs.Columns.{column_type}
use Rattle.tokens.specs.WrittenNames.{column_for, columns_for, token_count, tokens_at}
use Rattle.names_writer.specs.declared.pieces.Cursor.{Cursor}
use Rattle.names_writer.specs.Steps.{number_of, token_number}
use Rattle.names_writer.specs.Rows.{token_of}
use Rattle.names_writer.specs.Measured.{last_number}
use Rattle.names_writer.specs.Pieces.{cursor_at, place_of, piece_of, typed_piece, row_piece}
use Rattle.names_writer.specs.Pieces.{typed_row_piece, written, PiecesFit, RowMoved, TypedRowMoved}
use Rattle.names_writer.specs.Arrived.{pieces_of, column_part, column_lengths, column_start}
use Rattle.names_writer.specs.Arrived.{columns_end, last_written, Arrived, TypedArrived}
use Rattle.names_writer.proofs.PlacedLaws.{Placed, placed, typed_placed, arrived, typed_arrived}
use Rattle.names_writer.proofs.MeasuredLaws.{length_column, column_token}
use Rattle.names_writer.proofs.TableLaws.{columns_map}
use Rattle.names_writer.proofs.ColumnPieceLaws.{piece_at, typed_piece_at, count_pieces}
use Rattle.names_writer.proofs.ColumnPieceLaws.{part_length, part_more}
use Rattle.names_writer.proofs.ColumnStartLaws.{length_at, columns_apart, columns_inside}
use Rattle.names_writer.proofs.ColumnStartLaws.{starts_low}
use Rattle.names_writer.proofs.StandingLaws.{Regions, length_written, front_stays, back_stays}
use Rattle.names_writer.proofs.StandingLaws.{part_grows}

-- The type of column k, where the table of types stands.
pub kind-stands : (names : List (List ℕ)) (kinds : List ℕ)
    → At kinds 0 (map column_type (columns_for names)) → (k : ℕ) → k < token_count names
    → get_or kinds k 0 ≡ column_type (column_for (tokens_at names k))
kind-stands names kinds stands k h =
    let n : ℕ = token_count names in
    let f : ℕ → ℕ = λ j. column_type (column_for (tokens_at names j)) in
    let table : At kinds 0 (build n f) = subst (At kinds 0) (columns_map names column_type) stands in
    ap (λ (j : ℕ). get_or kinds j 0) (sym (zero-add k))
    ∙ table.same k (omega (arith, length-build n f))
    ∙ get_or-build n f k 0 h

-- ---- What rows of both kinds keep

module _ (names : List (List ℕ)) (front back : List ℕ) (i : ℕ) (cursors : List Cursor)
    (out : List ℕ) (so : Placed names front back i cursors out) (inside : i < length names)
    (piece : ℕ → List ℕ) (piece_is : (k : ℕ) → k < token_count names
    → piece k ≡ get_or (pieces_of (column_for (tokens_at names k))) i []) where
  abbrev count : ℕ
  count = length cursors

  abbrev base : ℕ
  base = length front

  part_next : (k : ℕ) → k < token_count names
      → column_part names k (i + 1) ≡ column_part names k i ++ piece k
  unfolding column_part
  part_next k h =
      part_more (column_for (tokens_at names k)) i
      (omega (
        arith,
        count_pieces (tokens_at names k) (omega (arith, length_column names k)),
        length_column names k,
      ))
      ∙ ap (λ (x : List ℕ). column_part names k i ++ x) (sym (piece_is k h))

  part_fits : (k : ℕ) → k < token_count names
      → length (column_part names k i) + length (piece k) ≤ get_or (column_lengths names) k 0
  unfolding column_part
  part_fits k h =
      omega (
        arith,
        ap length (part_next k h),
        length-append (column_part names k i) (piece k),
        part_length (column_for (tokens_at names k)) (i + 1),
        length_at names k h,
      )

  regions : Regions count (column_start base names) (λ k. get_or (column_lengths names) k 0)
      (columns_end base names) (place_of cursors) (λ k. column_part names k i) piece
  regions =
      record {
        apart = λ j k h l. columns_apart names base j k h;
        inside = λ k h. columns_inside names base k;
        fits = λ k h. part_fits k (omega (arith, so.counted));
        there = λ k h. so.place k (omega (arith, so.counted));
      }

  room : columns_end base names ≤ length out
  room = omega (arith, so.sized)

  placed_fits : PiecesFit out (place_of cursors) piece count
  placed_fits =
      record {
        each = λ k h.
            let l : k < token_count names = omega (arith, so.counted) in
            omega (arith, so.place k l, part_fits k l, columns_inside names base k, so.sized);
      }

  placed_next : (cursors' : List Cursor) (out' : List ℕ) → length cursors' ≡ count
      → ((k : ℕ) → k < count → place_of cursors' k ≡ place_of cursors k + length (piece k))
      → out' ≡ written out (place_of cursors) piece count
      → Placed names front back (i + 1) cursors' out'
  placed_next cursors' out' same moved done =
      let s : ℕ → ℕ = column_start base names in
      let z : ℕ → ℕ = λ k. get_or (column_lengths names) k 0 in
      let e : ℕ = columns_end base names in
      let p : ℕ → ℕ = place_of cursors in
      let q : ℕ → List ℕ = λ k. column_part names k i in
      let out-is = sym done in
      record {
        counted = same ∙ so.counted;
        place = λ k h.
            moved k (omega (arith, so.counted))
            ∙ omega (
              arith,
              so.place k h,
              ap length (part_next k h),
              length-append (column_part names k i) (piece k),
            );
        before =
            subst (λ (b : List ℕ). At b 0 front) out-is
            (front_stays count s z e p q piece regions out room 0 front
            (λ k h. omega (arith, starts_low names base k)) so.before count (omega arith));
        column = λ k h.
            let l : k < count = omega (arith, so.counted) in
            subst (λ (b : List ℕ). At b (s k) (column_part names k (i + 1))) out-is
            (subst (At (written out p piece count) (s k)) (sym (part_next k h))
            (part_grows count s z e p q piece regions out room k l (so.column k h)
            count l (omega arith)));
        after =
            subst (λ (b : List ℕ). At b e back) out-is
            (back_stays count s z e p q piece regions out room e back (omega arith) so.after
            count (omega arith));
        sized =
            ap length done
            ∙ length_written count s z e p q piece regions out room count (omega arith)
            ∙ so.sized;
      }

-- ---- A row

-- A token of a name is that of its column.
token-same : (names : List (List ℕ)) (i : ℕ) (name : List ℕ) → name ≡ get_or names i [] → (k : ℕ)
    → token_of name k ≡ get_or (tokens_at names k) i []
token-same names i name is k =
    ap (λ (n : List ℕ). token_of n k) is ∙ sym (column_token names i k)

module _ (names : List (List ℕ)) (front back : List ℕ) (i : ℕ) (cursors : List Cursor)
    (out : List ℕ) (so : Arrived names front back i cursors out) (inside : i < length names)
    (kinds : List ℕ) (typed : At kinds 0 (map column_type (columns_for names))) (name : List ℕ)
    (is : name ≡ get_or names i []) where
  row_is : (k : ℕ) → k < token_count names
      → row_piece name kinds cursors k ≡ get_or (pieces_of (column_for (tokens_at names k))) i []
  row_is k h =
      ap (piece_of (cursor_at cursors k).last (get_or kinds k 0)) (token-same names i name is k)
      ∙ piece_at (tokens_at names k) i (get_or kinds k 0) (cursor_at cursors k).last
      (omega (arith, length_column names k)) (kind-stands names kinds typed k h) (so.last k h)

  -- The row fits.
  pub row_fits : PiecesFit out (place_of cursors) (row_piece name kinds cursors) (length cursors)
  row_fits =
      placed_fits names front back i cursors out (placed so) inside
      (row_piece name kinds cursors) row_is

  -- It is written.
  pub arrived_next : (cursors' : List Cursor) (out' : List ℕ) → length cursors' ≡ length cursors
      → RowMoved name kinds cursors cursors'
      → out' ≡ written out (place_of cursors) (row_piece name kinds cursors) (length cursors)
      → Arrived names front back (i + 1) cursors' out'
  unfolding last_number
  arrived_next cursors' out' same moved done =
      arrived
      (placed_next names front back i cursors out (placed so) inside (row_piece name kinds cursors)
      row_is cursors' out' same (λ k h. (moved.each k h).place) done)
      (λ k h.
      (moved.each k (omega (arith, so.counted))).last
      ∙ ap token_number (token-same names i name is k)
      ∙ ap (last_number (tokens_at names k)) (sym (add-one i)))

-- The same by the types alone.
module _ (names : List (List ℕ)) (front back : List ℕ) (i : ℕ) (cursors : List Cursor)
    (out : List ℕ) (so : TypedArrived names front back i cursors out) (inside : i < length names)
    (kinds : List ℕ) (typed : At kinds 0 (map column_type (columns_for names))) (name : List ℕ)
    (is : name ≡ get_or names i []) where
  typed_row_is : (k : ℕ) → k < token_count names
      → typed_row_piece name kinds cursors k
      ≡ get_or (pieces_of (column_for (tokens_at names k))) i []
  typed_row_is k h =
      ap (typed_piece (cursor_at cursors k).last (get_or kinds k 0)) (token-same names i name is k)
      ∙ typed_piece_at (tokens_at names k) i (get_or kinds k 0) (cursor_at cursors k).last
      (omega (arith, length_column names k)) (kind-stands names kinds typed k h) (so.last k h)

  pub typed_row_fits : PiecesFit out (place_of cursors) (typed_row_piece name kinds cursors)
      (length cursors)
  typed_row_fits =
      placed_fits names front back i cursors out (typed_placed so) inside
      (typed_row_piece name kinds cursors) typed_row_is

  pub typed_arrived_next : (cursors' : List Cursor) (out' : List ℕ)
      → length cursors' ≡ length cursors → TypedRowMoved name kinds cursors cursors'
      → out' ≡ written out (place_of cursors) (typed_row_piece name kinds cursors) (length cursors)
      → TypedArrived names front back (i + 1) cursors' out'
  unfolding last_written
  typed_arrived_next cursors' out' same moved done =
      typed_arrived
      (placed_next names front back i cursors out (typed_placed so) inside
      (typed_row_piece name kinds cursors) typed_row_is cursors' out' same
      (λ k h. (moved.each k h).place) done)
      (λ k h.
      (moved.each k (omega (arith, so.counted))).last
      ∙ ap (λ (t : List ℕ). Some (number_of t)) (token-same names i name is k)
      ∙ ap (last_written (tokens_at names k)) (sym (add-one i)))

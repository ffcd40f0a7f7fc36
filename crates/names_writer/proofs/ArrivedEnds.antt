-- A section before its first row and after its last. Assumes nothing.
use mathlib.Core.Path.{◌≡◌, refl, sym, ap, subst, ◌∙◌}
use Prim.Native.Nat.{ℕ, ◌+◌, ◌≤◌, ◌<◌}
use native.Mathlib.Nat.{zero-add}
use native.Mathlib.Omega.{arith}
use mathlib.Core.List.{List, [], ◌∷◌, ◌++◌, map, flat_map, flatten}
use lib.ListN.{length, get_or, take, drop, length-append, length-drop, length-map}
use lib.Seq.{length-take-le, take_all, get_or-take, get_or-drop, ext_get_or}
use Rattle.base.specs.Lists.{total}
use Rattle.base.specs.Paste.{pasted}
use Rattle.base.specs.Place.{At}
use Rattle.base.proofs.ListLaws.{get_or-build}
use Rattle.base.proofs.AtLaws.{at_take, at-nil, at-to, at_both, at_same, at_self}
use Rattle.base.proofs.AtPasteLaws.{at_flatten}
use Rattle.base.proofs.SumLaws.{total-take-le}
use Rattle.tokens.specs.Columns.{Column, column_bytes}
use Rattle.tokens.specs.WrittenNames.{column_for, columns_for, token_count, tokens_at}
use Rattle.std.proofs.Common.{None}
use Rattle.names_writer.specs.declared.pieces.Cursor.{Cursor}
use Rattle.names_writer.specs.Measured.{last_number}
use Rattle.names_writer.specs.Pieces.{cursor_at, place_of, Started}
use Rattle.names_writer.specs.Arrived.{pieces_of, part_bytes, column_part, column_lengths}
use Rattle.names_writer.specs.Arrived.{column_start, columns_end, last_written, Arrived, TypedArrived}
use Rattle.names_writer.proofs.PlacedLaws.{Placed, placed, typed_placed, arrived, typed_arrived}
use Rattle.names_writer.proofs.MeasuredLaws.{length_column}
use Rattle.names_writer.proofs.TableLaws.{columns_map, count_columns, length-columns}
use Rattle.names_writer.proofs.ColumnPieceLaws.{pieces-joined, part_none, count_pieces}
use Rattle.names_writer.proofs.ColumnStartLaws.{count_lengths, columns_inside}

-- The rest of a list stands at its end.
at_drop : (list : List ℕ) (n : ℕ) → n ≤ length list → At list n (drop n list)
at_drop list n h =
    record {
      fits = omega (arith, length-drop n list);
      same = λ k l. sym (get_or-drop n list k 0);
    }

-- The front of a table that stands at the start of a list.
pub take-stands : (list part : List ℕ) → At list 0 part → (k : ℕ) → k ≤ length part
    → take k list ≡ take k part
take-stands list part stands k h =
    let low : length (take k list) ≡ k =
    length-take-le k list (omega (arith, stands.fits)) in
    let short : length (take k part) ≡ k = length-take-le k part h in
    ext_get_or 0 (take k list) (take k part) (low ∙ sym short)
    (λ j l.
    get_or-take k list j 0 (omega arith)
    ∙ ap (λ (m : ℕ). get_or list m 0) (sym (zero-add j))
    ∙ stands.same j (omega arith)
    ∙ sym (get_or-take k part j 0 (omega arith)))

-- The end of the columns, by their bytes.
pub columns-end : (base : ℕ) (names : List (List ℕ))
    → columns_end base names ≡ base + length (flat_map column_bytes (columns_for names))
unfolding columns_end
columns-end base names = ap (λ (n : ℕ). base + n) (sym (length-columns (columns_for names)))

-- ---- All columns

-- After the last row a column is whole.
part-all : (names : List (List ℕ)) (k : ℕ) → 0 < length names
    → column_part names k (length names) ≡ column_bytes (column_for (tokens_at names k))
unfolding column_part part_bytes
part-all names k some =
    let pieces : List (List ℕ) = pieces_of (column_for (tokens_at names k)) in
    let size : length pieces ≡ length names =
    count_pieces (tokens_at names k) (omega (arith, length_column names k)) ∙ length_column names k in
    ap flatten (take_all (length names) pieces (omega arith))
    ∙ pieces-joined (column_for (tokens_at names k))

flatten-columns : (columns : List Column)
    → flatten (map column_bytes columns) ≡ flat_map column_bytes columns
unfolding flatten flat_map
flatten-columns [] = refl
flatten-columns (column ∷ columns) =
    ap (λ (rest : List ℕ). column_bytes column ++ rest) (flatten-columns columns)

lengths-map : (columns : List Column)
    → map length (map column_bytes columns) ≡ map (λ column. length (column_bytes column)) columns
lengths-map [] = refl
lengths-map (column ∷ columns) =
    ap (λ (rest : List ℕ). length (column_bytes column) ∷ rest) (lengths-map columns)

-- The columns stand one after the other.
columns-stand : (names : List (List ℕ)) (front back : List ℕ) (cursors : List Cursor) (new : List ℕ)
    → Placed names front back (length names) cursors new → 0 < length names
    → At new (length front) (flat_map column_bytes (columns_for names))
unfolding column_start columns_end
columns-stand names front back cursors new so some =
    let parts : List (List ℕ) = map column_bytes (columns_for names) in
    let count : length parts ≡ token_count names =
    length-map (columns_for names) column_bytes ∙ count_columns names in
    subst (At new (length front)) (flatten-columns (columns_for names))
    (at_flatten (length front) parts (omega (arith, so.sized))
    (λ k h.
    let inside : k < token_count names = omega arith in
    subst (λ (l : List ℕ). At new (length front + total (take k l)) (get_or parts k []))
    (sym (lengths-map (columns_for names)))
    (subst (At new (length front + total (take k (column_lengths names))))
    (part-all names k some
    ∙ sym (ap (λ (l : List (List ℕ)). get_or l k []) (columns_map names column_bytes)
    ∙ get_or-build (token_count names) (λ j. column_bytes (column_for (tokens_at names j))) k [] inside))
    (so.column k inside))))

-- ---- Before the first row

module _ (names : List (List ℕ)) (start : ℕ) (out : List ℕ)
    (room : columns_end start names ≤ length out) where
  front_length : length (take start out) ≡ start
  unfolding columns_end
  front_length = length-take-le start out (omega arith)

  placed_start : (cursors : List Cursor) → length cursors ≡ token_count names
      → ((k : ℕ) → k < token_count names → place_of cursors k ≡ column_start start names k)
      → Placed names (take start out) (drop (columns_end start names) out) 0 cursors out
  unfolding column_part columns_end
  placed_start cursors counted there =
      let low = front_length in
      let none : (k : ℕ) → length (column_part names k 0) ≡ 0 =
      λ k. ap length (part_none (column_for (tokens_at names k))) in
      record {
        counted = counted;
        place = λ k h.
            there k h
            ∙ ap (λ (b : ℕ). column_start b names k) (sym low)
            ∙ omega (arith, none k);
        before = at_take out start (omega arith);
        column = λ k h.
            subst (At out (column_start (length (take start out)) names k))
            (sym (part_none (column_for (tokens_at names k))))
            (at-nil (omega (
              arith,
              columns_inside names (length (take start out)) k,
            )));
        after =
            subst (λ (b : ℕ). At out (columns_end b names) (drop (columns_end start names) out))
            (sym low) (at_drop out (columns_end start names) room);
        sized = omega (arith, length-drop (columns_end start names) out);
      }

  pub arrived_start : (cursors : List Cursor) → length cursors ≡ token_count names
      → ((k : ℕ) → k < token_count names → (cursor_at cursors k).last ≡ None)
      → ((k : ℕ) → k < token_count names → place_of cursors k ≡ column_start start names k)
      → Arrived names (take start out) (drop (columns_end start names) out) 0 cursors out
  unfolding last_number
  arrived_start cursors counted first there = arrived (placed_start cursors counted there) first

  pub typed_arrived_start : (cursors : List Cursor) → length cursors ≡ token_count names
      → ((k : ℕ) → k < token_count names → (cursor_at cursors k).last ≡ None)
      → ((k : ℕ) → k < token_count names → place_of cursors k ≡ column_start start names k)
      → TypedArrived names (take start out) (drop (columns_end start names) out) 0 cursors out
  unfolding last_written
  typed_arrived_start cursors counted first there =
      typed_arrived (placed_start cursors counted there) first

  -- ---- After the last row

  placed_end : (cursors : List Cursor) (new : List ℕ)
      → Placed names (take start out) (drop (columns_end start names) out) (length names) cursors new
      → 0 < length names → new ≡ pasted out start (flat_map column_bytes (columns_for names))
  unfolding pasted
  placed_end cursors new so some =
      let front : List ℕ = take start out in
      let back : List ℕ = drop (columns_end start names) out in
      let columns : List ℕ = flat_map column_bytes (columns_for names) in
      let low : length front ≡ start = front_length in
      let there : columns_end start names ≡ start + length columns = columns-end start names in
      let one : At new 0 (front ++ columns) =
      at_both front columns so.before
      (at-to (length front) (0 + length front) (omega arith)
      (columns-stand names front back cursors new so some)) in
      let whole : At new 0 ((front ++ columns) ++ back) =
      at_both (front ++ columns) back one
      (at-to (columns_end (length front) names) (0 + length (front ++ columns))
      (columns-end (length front) names ∙ omega (arith, length-append front columns)) so.after) in
      let size : length new ≡ length ((front ++ columns) ++ back) =
      so.sized
      ∙ omega (
        arith,
        columns-end (length front) names,
        length-append (front ++ columns) back,
        length-append front columns,
      ) in
      at_same new ((front ++ columns) ++ back) size (at_self new) whole
      ∙ ap (λ (n : ℕ). (front ++ columns) ++ drop n out) there

  pub arrived_end : (cursors : List Cursor) (new : List ℕ)
      → Arrived names (take start out) (drop (columns_end start names) out) (length names) cursors new
      → 0 < length names → new ≡ pasted out start (flat_map column_bytes (columns_for names))
  arrived_end cursors new so some = placed_end cursors new (placed so) some

  pub typed_arrived_end : (cursors : List Cursor) (new : List ℕ)
      → TypedArrived names (take start out) (drop (columns_end start names) out) (length names)
      cursors new
      → 0 < length names → new ≡ pasted out start (flat_map column_bytes (columns_for names))
  typed_arrived_end cursors new so some = placed_end cursors new (typed_placed so) some

-- ---- The starts of the columns, as they were written

module _ (names : List (List ℕ)) (sizes : List ℕ) (sized : At sizes 0 (column_lengths names))
    (count : ℕ) (counted : count ≡ token_count names) (start : ℕ) where
  pub sizes_count : count ≤ length sizes
  sizes_count = omega (arith, sized.fits, count_lengths names)

  pub starts_fit : (n : ℕ) → start + length (flat_map column_bytes (columns_for names)) ≤ n
      → start + total (take count sizes) ≤ n
  starts_fit n room =
      omega (
        arith,
        ap total (take-stands sizes (column_lengths names) sized count
            (omega (arith, count_lengths names))),
        total-take-le (column_lengths names) count,
        length-columns (columns_for names),
      )

  pub starts_there : (cursors : List Cursor) → length cursors ≡ count → Started start sizes cursors
      → (k : ℕ) → k < token_count names → place_of cursors k ≡ column_start start names k
  unfolding column_start
  starts_there cursors all started k h =
      started.place k (omega arith)
      ∙ ap (λ (l : List ℕ). start + total l)
      (take-stands sizes (column_lengths names) sized k (omega (arith, count_lengths names)))

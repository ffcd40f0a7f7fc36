-- A whole section, as code writes it. Assumes nothing.
use mathlib.Core.Path.{◌≡◌, sym, ap, ◌∙◌}
use Prim.Native.Nat.{ℕ, ◌+◌, ◌*◌, ◌≤◌, ◌<◌}
use native.Mathlib.Omega.{arith}
use mathlib.Core.List.{List, map, flat_map}
use lib.ListN.{length, length-map}
use Rattle.base.specs.Paste.{pasted}
use Rattle.base.specs.Place.{At}
use Rattle.base.proofs.PasteLaws.{pasted_nil, pasted_then}
use Rattle.tokens.specs.Columns.{Column, column_type, column_bytes}
use Rattle.tokens.specs.WrittenNames.{token_count, columns_for, written_names, names_lent}
use Rattle.names_writer.specs.Pieces.{table_of}
use Rattle.names_writer.proofs.TableLaws.{table_bytes, names-bytes, written-some, written_none}
use Rattle.names_writer.proofs.TableLaws.{lent_none, count_columns, length-columns}
use Rattle.names_writer.proofs.TableLaws.{length-table, section-length}
use Rattle.names_writer.proofs.PutTableLaws.{table_is}

-- No names: nothing is written.
pub nothing_written : (bytes ends out : List ℕ) (at : ℕ) → length ends ≡ 0
    → out ≡ pasted out at (written_names (names_lent bytes ends))
nothing_written bytes ends out at e =
    sym (pasted_nil out at)
    ∙ ap (pasted out at) (sym (ap written_names (lent_none bytes ends e) ∙ written_none))

module _ (names : List (List ℕ)) (some : 0 < length names) (count : ℕ)
    (counted : count ≡ token_count names) (at : ℕ) where
  -- The table and the columns fit where the section does.
  pub section_fits : (n : ℕ) → at + length (written_names names) ≤ n
      → at + 4 + 9 * count + length (flat_map column_bytes (columns_for names)) ≤ n
  section_fits n room =
      omega (
        arith,
        section-length names count some counted,
        length-columns (columns_for names),
      )

  module _ (kinds sizes : List ℕ) (typed : At kinds 0 (map column_type (columns_for names)))
      (sized : At sizes 0 (map (λ column. length (column_bytes column)) (columns_for names))) where
    pub kinds_count : count ≤ length kinds
    kinds_count =
        omega (
          arith,
          typed.fits,
          length-map (columns_for names) column_type,
          count_columns names,
        )

    pub sizes_count : count ≤ length sizes
    sizes_count =
        omega (
          arith,
          sized.fits,
          length-map (columns_for names) (λ column. length (column_bytes column)),
          count_columns names,
        )

    -- The table, then the columns, are the section.
    pub section_done : (out first second : List ℕ) → at + length (written_names names) ≤ length out
        → first ≡ pasted out at (table_of kinds sizes count)
        → second
        ≡ pasted first (at + 4 + 9 * count) (flat_map column_bytes (columns_for names))
        → second ≡ pasted out at (written_names names)
    section_done out first second room one two =
        let columns : List Column = columns_for names in
        let is : table_of kinds sizes count ≡ table_bytes columns =
        table_is columns kinds sizes count (counted ∙ sym (count_columns names)) typed sized in
        let low : length (table_bytes columns) ≡ 4 + 9 * count =
        length-table columns ∙ omega (arith, count_columns names) in
        pasted_then out first second at (at + 4 + 9 * count) (table_bytes columns)
        (flat_map column_bytes columns) (omega (arith, section_fits (length out) room)) (omega arith)
        (one ∙ ap (pasted out at) is) two
        ∙ ap (pasted out at) (sym (written-some names some ∙ names-bytes columns))

-- Where the columns of a section start and end. Assumes nothing.
use mathlib.Core.Path.{◌≡◌, ap, subst, ◌∙◌}
use Prim.Native.Nat.{ℕ, suc, ◌+◌, ◌≤◌, ◌<◌}
use native.Mathlib.Omega.{arith}
use mathlib.Core.List.{List}
use lib.ListN.{length, get_or, take, length-map}
use lib.Seq.{take-take}
use Rattle.base.specs.Lists.{total}
use Rattle.base.proofs.ListLaws.{get_or-build}
use Rattle.base.proofs.SumLaws.{total-take-suc, total-take-le}
use Rattle.tokens.specs.Columns.{column_bytes}
use Rattle.tokens.specs.WrittenNames.{column_for, columns_for, token_count, tokens_at}
use Rattle.names_writer.specs.Arrived.{column_lengths, column_start, columns_end}
use Rattle.names_writer.proofs.TableLaws.{columns_map, count_columns}

total_mono : (list : List ℕ) (j k : ℕ) → j ≤ k → total (take j list) ≤ total (take k list)
total_mono list j k h =
    subst (λ (l : List ℕ). total l ≤ total (take k list)) (take-take j k list h)
    (total-take-le (take k list) j)

module _ (names : List (List ℕ)) where
  pub count_lengths : length (column_lengths names) ≡ token_count names
  count_lengths = length-map (columns_for names) _ ∙ count_columns names

  pub length_at : (k : ℕ) → k < token_count names
      → get_or (column_lengths names) k 0 ≡ length (column_bytes (column_for (tokens_at names k)))
  length_at k h =
      ap (λ (l : List ℕ). get_or l k 0) (columns_map names (λ column. length (column_bytes column)))
      ∙ get_or-build (token_count names) _ k 0 h

  -- Each column ends before the next starts, and before the end.
  pub columns_apart : (base j k : ℕ) → j < k
      → column_start base names j + get_or (column_lengths names) j 0 ≤ column_start base names k
  unfolding column_start
  columns_apart base j k h =
      omega (
        arith,
        total-take-suc (column_lengths names) j,
        total_mono (column_lengths names) (suc j) k h,
      )

  pub columns_inside : (base k : ℕ)
      → column_start base names k + get_or (column_lengths names) k 0 ≤ columns_end base names
  unfolding column_start columns_end
  columns_inside base k =
      omega (
        arith,
        total-take-suc (column_lengths names) k,
        total-take-le (column_lengths names) (suc k),
      )

  pub starts_low : (base k : ℕ) → base ≤ column_start base names k
  unfolding column_start
  starts_low base k = omega arith

-- A section that the rule writes is bytes, and its length has 32 bits. Assumes nothing.
use mathlib.Core.Path.{◌≡◌, sym, ap, ◌∙◌, subst}
use Prim.Native.Nat.{ℕ, ◌+◌, ◌*◌, ◌^◌, ◌≤◌, ◌<◌}
use native.Mathlib.Nat.{mul-le-mul_left}
use native.Mathlib.Omega.{arith}
use mathlib.Core.Bool.{Bool, true, false, not}
use mathlib.Core.List.{List, [], ◌∷◌, ◌++◌, map, flatten, flat_map}
use lib.ListN.{length, get_or, length-map, length-append}
use lib.Dec.{eqb, leb}
use borrow.Author.Tests.{eqb-true, leb-true}
use Rattle.base.specs.Lists.{any, member, All, AllBytes}
use Rattle.base.specs.Numbers.{le_bytes}
use Rattle.base.proofs.ListLaws.{by_test, length-build, all_get_or, all_build, below-nil, below-cons}
use Rattle.base.proofs.ListLaws.{below-append}
use Rattle.base.proofs.NumberLaws.{length-le_bytes, le_bytes-bytes}
use Rattle.base.proofs.AllLaws.{all_too, all-each, all_map, flatten-all, all-below, below-flat_map}
use Rattle.base.proofs.AllLaws.{length-flat_map-most, length_flatten-one, length_flatten-some}
use Rattle.base.proofs.Tests.{absurd_test, and_both}
use Rattle.tokens.specs.Split.{is_printable, Alternate, NameFits}
use Rattle.tokens.specs.Columns.{Column, strings, rising, step_type, column_type, column_tokens}
use Rattle.tokens.specs.Columns.{column_bytes, widths, ColumnFits}
use Rattle.tokens.specs.Names.{names_bytes}
use Rattle.tokens.specs.WrittenNames.{split_of, column_for, token_count, tokens_at, columns_for}
use Rattle.tokens.specs.WrittenNames.{written_names, token_counts_differ}
use Rattle.tokens.proofs.SplitLaws.{flatten-split_of, alternate-split_of}
use Rattle.tokens.proofs.ColumnLaws.{column_fits}
use Rattle.tokens.proofs.WrittenStored.{one_count, length-tokens_at, column_for-tokens_at}

-- ---- Tokens

-- A token of a name that fits: 255 bytes at most.
pub record TokenSmall (token : List ℕ) : Type 0 where
  pub short : length token ≤ 255
  pub bytes : AllBytes token

-- A printable character is a byte.
printable-byte : (byte : ℕ) → is_printable byte ≡ true → byte < 256
unfolding is_printable
printable-byte byte e = omega (arith, leb-true byte 126 (and_both (leb 32 byte) (leb byte 126) e).1)

-- Token k of a name that fits is small.
token-small : (name : List ℕ) → NameFits name → (k : ℕ) → k < length (split_of name) → TokenSmall (get_or (split_of name) k [])
token-small name fits k h =
    let whole : flatten (split_of name) ≡ name = flatten-split_of name in
    let bytes : All (λ byte. byte < 256) (flatten (split_of name)) =
    all_too (λ byte. is_printable byte ≡ true) (λ byte. byte < 256) printable-byte (flatten (split_of name))
    (subst (λ (list : List ℕ). All (λ byte. is_printable byte ≡ true) list) (sym whole) fits.printable) in
    record {
      short = omega (arith, length_flatten-one (split_of name) k, ap length whole, fits.short);
      bytes = all-below 256 _
          (all_get_or (All (λ byte. byte < 256)) (split_of name) [] (flatten-all (λ byte. byte < 256) (split_of name) bytes) k h);
    }

-- Tokens of a split are not empty.
alternate-some : (digits : Bool) (tokens : List (List ℕ)) → Alternate digits tokens → All (λ token. 0 < length token) tokens
alternate-some digits [] is = tt
alternate-some digits (token ∷ tokens) is = (is.0.some, alternate-some (not digits) tokens is.1)

-- A name has no more tokens than bytes.
pub few-tokens : (name : List ℕ) → length (split_of name) ≤ length name
few-tokens name =
    omega (
      arith,
      ap length (flatten-split_of name),
      length_flatten-some (split_of name) (alternate-some _ (split_of name) (alternate-split_of name)),
    )

-- Token k of every name is small.
tokens-small : (names : List (List ℕ)) (n : ℕ) → All NameFits names → All (λ name. length (split_of name) ≡ n) names → (k : ℕ) → k < n
    → All TokenSmall (tokens_at names k)
unfolding tokens_at
tokens-small [] n fit counts k h = tt
tokens-small (name ∷ names) n fit counts k h = (
  token-small name fit.0 k (omega (arith, counts.0)),
  tokens-small names n fit.1 counts.1 k h,
)

-- ---- Columns

-- A column of small tokens is bytes.
column_bytes-bytes : (column : Column) → All TokenSmall (column_tokens column) → AllBytes (column_bytes column)
unfolding column_bytes column_tokens
column_bytes-bytes (strings tokens) small =
    below-flat_map 256 (λ token. token ++ (0 ∷ [])) tokens
    (all_too TokenSmall (λ token. AllBytes (token ++ (0 ∷ [])))
    (λ token is. below-append token (0 ∷ []) is.bytes (below-cons 0 [] (omega arith) (below-nil 256))) tokens small)
column_bytes-bytes (rising width start steps) small =
    below-append (le_bytes 8 start) (flat_map (le_bytes width) steps) (le_bytes-bytes 8 start)
    (below-flat_map 256 (le_bytes width) steps (all-each (λ step. AllBytes (le_bytes width step)) (le_bytes-bytes width) steps))

-- A step has four bytes at most.
width-most : (width : ℕ) → member width widths ≡ true → width ≤ 4
unfolding member any
width-most width e =
    by_test (eqb 1 width) (λ a. omega (arith, eqb-true 1 width a))
    (λ a.
    by_test (eqb 2 width) (λ b. omega (arith, eqb-true 2 width b))
    (λ b.
    by_test (eqb 4 width) (λ c. omega (arith, eqb-true 4 width c)) (λ c. absurd_test (sym e ∙ rw (a, b, c)))))

-- A column has at most 256 bytes a read, and the start.
column_bytes-most : (reads : ℕ) (column : Column) → ColumnFits reads column → All TokenSmall (column_tokens column)
    → length (column_bytes column) ≤ 256 * reads + 8
unfolding column_bytes column_tokens
column_bytes-most reads (strings tokens) fits small =
    omega (
      arith,
      length-flat_map-most 256 (λ token. token ++ (0 ∷ [])) tokens
          (all_too TokenSmall (λ token. length (token ++ (0 ∷ [])) ≤ 256)
          (λ token is. omega (arith, length-append token (0 ∷ []))) tokens small),
    )
column_bytes-most reads (rising width start steps) fits small =
    let narrow : (step : ℕ) → length (le_bytes width step) ≤ 4
    = λ step. omega (arith, length-le_bytes width step, width-most width fits.width_is) in
    omega (
      arith,
      length-append (le_bytes 8 start) (flat_map (le_bytes width) steps),
      length-le_bytes 8 start,
      length-flat_map-most 4 (le_bytes width) steps (all-each (λ step. length (le_bytes width step) ≤ 4) narrow steps),
    )

-- ---- Sections

-- A type is a byte.
type-byte : (column : Column) → column_type column < 256
unfolding column_type step_type
type-byte (strings tokens) = omega arith
type-byte (rising width start steps) =
    by_test (eqb width 1) (λ e. rw e (omega arith))
    (λ e. by_test (eqb width 2) (λ f. rw (e, f) (omega arith)) (λ f. rw (e, f) (omega arith)))

-- The bytes of a column's size.
abbrev size_bytes : (column : Column) → List ℕ
size_bytes column = le_bytes 8 (length (column_bytes column))

-- A section is bytes if its columns are.
names_bytes-bytes : (columns : List Column) → All (λ column. AllBytes (column_bytes column)) columns → AllBytes (names_bytes columns)
unfolding names_bytes
names_bytes-bytes columns bytes =
    below-append _ (flat_map column_bytes columns)
    (below-append _ (flat_map size_bytes columns)
    (below-append (le_bytes 4 (length columns)) (map column_type columns) (le_bytes-bytes 4 (length columns))
    (all-below 256 (map column_type columns)
    (all_map (λ column. Unit {0}) (λ byte. byte < 256) column_type (λ column any. type-byte column) columns
    (all-each (λ column. Unit {0}) (λ column. tt) columns))))
    (below-flat_map 256 size_bytes columns
    (all-each (λ column. AllBytes (size_bytes column)) (λ column. le_bytes-bytes 8 (length (column_bytes column))) columns)))
    (below-flat_map 256 column_bytes columns bytes)

-- The length of a section whose columns have at most so many bytes.
names_bytes-most : (most : ℕ) (columns : List Column) → All (λ column. length (column_bytes column) ≤ most) columns
    → length (names_bytes columns) ≤ 4 + 9 * length columns + most * length columns
unfolding names_bytes
names_bytes-most most columns small =
    let counted : List ℕ = le_bytes 4 (length columns) in
    let types : List ℕ = map column_type columns in
    let sizes : List ℕ = flat_map size_bytes columns in
    let eight : length sizes ≤ 8 * length columns =
    length-flat_map-most 8 size_bytes columns
    (all-each (λ column. length (size_bytes column) ≤ 8) (λ column. omega (arith, length-le_bytes 8 (length (column_bytes column)))) columns) in
    omega (
      arith,
      length-append (counted ++ types ++ sizes) (flat_map column_bytes columns),
      length-append (counted ++ types) sizes,
      length-append counted types,
      length-le_bytes 4 (length columns),
      length-map columns column_type,
      length-flat_map-most most column_bytes columns small,
    )

-- ---- What is written

-- What the columns of names are.
record ColumnSmall (reads : ℕ) (column : Column) : Type 0 where
  bytes : AllBytes (column_bytes column)
  most : length (column_bytes column) ≤ 256 * reads + 8

-- The columns of names are small.
columns-small : (names : List (List ℕ)) → All NameFits names → token_counts_differ names ≡ false → 0 < length names
    → All (ColumnSmall (length names)) (columns_for names)
unfolding columns_for
columns-small names fit e some =
    all_build (ColumnSmall (length names)) (token_count names) (λ k. column_for (tokens_at names k)) (λ k h.
    let count : length (tokens_at names k) ≡ length names = length-tokens_at names k in
    let small : All TokenSmall (column_tokens (column_for (tokens_at names k))) =
    subst (λ (tokens : List (List ℕ)). All TokenSmall tokens) (sym (column_for-tokens_at names k some e h))
    (tokens-small names (token_count names) fit (one_count names e) k h) in
    record {
      bytes = column_bytes-bytes (column_for (tokens_at names k)) small;
      most = subst (λ (n : ℕ). length (column_bytes (column_for (tokens_at names k))) ≤ 256 * n + 8) count
          (column_bytes-most (length (tokens_at names k)) (column_for (tokens_at names k)) (column_fits (tokens_at names k) (omega arith)) small);
    })

-- There are 255 columns at most.
columns-few : (names : List (List ℕ)) → All NameFits names → 0 < length names → length (columns_for names) ≤ 255
unfolding columns_for token_count
columns-few names fit some =
    let fits : NameFits (get_or names 0 []) = all_get_or NameFits names [] fit 0 some in
    omega (arith, length-build (length (split_of (get_or names 0 []))) (λ k. column_for (tokens_at names k)), few-tokens (get_or names 0 []), fits.short)

-- What is written is bytes.
pub written-bytes : (names : List (List ℕ)) → All NameFits names → token_counts_differ names ≡ false → AllBytes (written_names names)
unfolding written_names
written-bytes [] fit e = below-nil 256
written-bytes (name ∷ names) fit e =
    names_bytes-bytes (columns_for (name ∷ names))
    (all_too (ColumnSmall (length (name ∷ names))) (λ column. AllBytes (column_bytes column)) (λ column is. is.bytes)
    (columns_for (name ∷ names)) (columns-small (name ∷ names) fit e (omega arith)))

-- The length of what is written for up to 50,000 names has 32 bits.
pub written-length : (names : List (List ℕ)) → All NameFits names → token_counts_differ names ≡ false → length names ≤ 50_000
    → length (written_names names) < 2 ^ 32
unfolding written_names
written-length [] fit e few = omega arith
written-length (name ∷ names) fit e few =
    let all : List (List ℕ) = name ∷ names in
    let columns : List Column = columns_for all in
    let most : ℕ = 256 * length all + 8 in
    let count : length columns ≤ 255 = columns-few all fit (omega arith) in
    let size : length (names_bytes columns) ≤ 4 + 9 * length columns + most * length columns =
    names_bytes-most most columns
    (all_too (ColumnSmall (length all)) (λ column. length (column_bytes column) ≤ most) (λ column is. is.most) columns
    (columns-small all fit e (omega arith))) in
    let product : most * length columns ≤ most * 255 = mul-le-mul_left most count in
    omega arith

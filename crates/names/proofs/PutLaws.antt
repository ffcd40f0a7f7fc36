-- What a token that is right is made of, and what writing tokens makes of a row. Assumes nothing.
use mathlib.Core.Path.{◌≡◌, ap, ◌∙◌}
use mathlib.Core.Bool.{Bool, true, false}
use mathlib.Core.List.{List, [], ◌++◌, flatten}
use Prim.Native.Nat.{ℕ, ◌+◌, ◌≤◌, ◌<◌}
use native.Mathlib.Omega.{arith}
use lib.ListN.{length, get_or, drop, drop_of_length-le}
use lib.Seq.{length-take-le}
use borrow.Author.Tests.{eq-eqb, ne_eqb}
use Rattle.base.specs.Lists.{any, part, member, index_of}
use Rattle.base.specs.Decimal.{decimal}
use Rattle.base.proofs.Tests.{not-false, any_none}
use Rattle.base.proofs.IndexLaws.{index-found}
use Rattle.tokens.specs.Columns.{max_number}
use Rattle.tokens.specs.ColumnsAt.{Cursor, string_length, token_at, token_invalid, number_invalid}
use Rattle.tokens.specs.ColumnsAt.{number_at}
use Rattle.tokens.specs.NamesAt.{row_at}
use Rattle.std.specs.Prelude.{Some}
use Rattle.names.specs.Cursors.{next_number}
use Rattle.names.proofs.RisingLaws.{number_right}
use Rattle.names.proofs.WalkLaws.{no_cursor, cursors_from}

module _ (section : List ℕ) (first : Bool) (cursor : Cursor)
    (right : token_invalid section first cursor ≡ false) where
  -- ---- A string

  module _ (strings : cursor.kind ≡ 0) where
    -- It has a zero byte after it.
    pub string_ends : member 0 (drop cursor.place section) ≡ true
    unfolding token_invalid
    string_ends = not-false _ (simp (eq-eqb cursor.kind 0 strings) at right)

    -- It is the bytes before that.
    pub string_is : token_at section first cursor
        ≡ part section cursor.place (string_length section cursor.place)
    unfolding token_at
    string_is = simp (eq-eqb cursor.kind 0 strings)

    -- It is as long as the zero byte is far.
    pub string-length : length (token_at section first cursor) ≡ string_length section cursor.place
    unfolding string_length
    string-length =
        let bytes : List ℕ = drop cursor.place section in
        let inside : index_of 0 bytes < length bytes = (index-found 0 bytes string_ends).0 in
        ap length string_is ∙ length-take-le (index_of 0 bytes) bytes (omega arith)

  -- ---- A number

  module _ (numbers : cursor.kind ≡ 0 → ⊥) where
    -- It is not wrong.
    pub number_valid : number_invalid section first cursor ≡ false
    unfolding token_invalid
    number_valid = simp (ne_eqb cursor.kind 0 numbers) at right

    -- It is in decimal digits.
    pub number_is : token_at section first cursor ≡ decimal (number_at section first cursor)
    unfolding token_at
    number_is = simp (ne_eqb cursor.kind 0 numbers)

    -- It is what code reads.
    pub number_read : next_number section first cursor ≡ Some (number_at section first cursor)
    unfolding next_number
    number_read = simp number_valid

    -- It is not above the largest.
    pub number_small : number_at section first cursor ≤ max_number
    number_small = (number_right section first cursor number_valid).1

-- ---- A row, from a column on

module _ (section : List ℕ) (first : Bool) (cursors : List Cursor) where
  -- The bytes of the name that are left.
  abbrev pub name_from : (at : ℕ) → List ℕ
  name_from at = flatten (row_at section first (drop at cursors))

  -- The next token, and those after it.
  pub name_split : (at : ℕ) → at < length cursors
      → name_from at ≡ token_at section first (get_or cursors at no_cursor) ++ name_from (at + 1)
  unfolding row_at flatten
  name_split at h =
      ap (λ (cs : List Cursor). flatten (row_at section first cs)) (cursors_from cursors at no_cursor h)

  -- No token is left.
  pub name_none : (at : ℕ) → length cursors ≤ at → name_from at ≡ []
  unfolding row_at flatten
  name_none at h =
      ap (λ (cs : List Cursor). flatten (row_at section first cs)) (drop_of_length-le cursors h)

  -- Each token of a row that is right is right.
  pub token_right : any (token_invalid section first) cursors ≡ false
      → (at : ℕ) → at < length cursors
      → token_invalid section first (get_or cursors at no_cursor) ≡ false
  token_right none at h = any_none (token_invalid section first) cursors none at no_cursor h

-- One token of a column: of a string column, and of a rising one. Assumes nothing.
use mathlib.Core.Path.{◌≡◌}
use Prim.Native.Nat.{ℕ, ◌+◌}
use mathlib.Core.Bool.{Bool, true, false, not}
use mathlib.Core.List.{List}
use lib.ListN.{drop}
use lib.Dec.{eqb}
use Rattle.base.specs.Lists.{part, member}
use Rattle.base.specs.Decimal.{decimal}
use Rattle.base.proofs.ListLaws.{by_test}
use Rattle.tokens.specs.ColumnsAt.{Cursor, token_at, cursor_after, token_invalid, string_length}
use Rattle.tokens.specs.ColumnsAt.{number_at, number_width, number_invalid}

module _ (section : List ℕ) (first : Bool) (cursor : Cursor) where
  -- A column keeps its type.
  pub kind-after : (cursor_after section first cursor).kind ≡ cursor.kind
  unfolding cursor_after
  kind-after = by_test (eqb cursor.kind 0) (λ e. rw e) (λ e. rw e)

  module _ (is : eqb cursor.kind 0 ≡ true) where
    -- A string column: the next token, the place after it, and what is wrong with it.
    pub token_string : token_at section first cursor ≡ part section cursor.place (string_length section cursor.place)
    unfolding token_at
    token_string = rw is

    pub place_string : (cursor_after section first cursor).place ≡ cursor.place + string_length section cursor.place + 1
    unfolding cursor_after
    place_string = rw is

    pub invalid_string : token_invalid section first cursor ≡ not (member 0 (drop cursor.place section))
    unfolding token_invalid
    invalid_string = rw is

  module _ (is : eqb cursor.kind 0 ≡ false) where
    -- A rising column: the same, and the number that it keeps.
    pub token_number : token_at section first cursor ≡ decimal (number_at section first cursor)
    unfolding token_at
    token_number = rw is

    pub place_number : (cursor_after section first cursor).place ≡ cursor.place + number_width first cursor.kind
    unfolding cursor_after
    place_number = rw is

    pub value_number : (cursor_after section first cursor).value ≡ number_at section first cursor
    unfolding cursor_after
    value_number = rw is

    pub invalid_number : token_invalid section first cursor ≡ number_invalid section first cursor
    unfolding token_invalid
    invalid_number = rw is

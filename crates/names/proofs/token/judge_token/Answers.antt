-- `names::token::judge_token` meets its contract, for a string and for a number. Assumes nothing.
use mathlib.Core.Path.{◌≡◌, sym, ap, ◌∙◌}
use mathlib.Core.Bool.{Bool, cond}
use mathlib.Core.List.{List}
use Prim.Native.Nat.{ℕ}
use native.Mathlib.Nat.{zero-add}
use native.Mathlib.Omega.{arith}
use lib.ListN.{length, drop}
use Rattle.std.specs.Prelude.{None, Some}
use Rattle.base.specs.Decimal.{decimal}
use Rattle.tokens.specs.ColumnsAt.{Cursor, string_length, number_at}
use Rattle.names.specs.declared.column.Column.{Column}
use Rattle.names.specs.declared.column.Kind.TheVariants.{Strings}
use Rattle.names.specs.Cursors.{byte_of, cursor_of, string_size, token_size}
use Rattle.names.proofs.KindLaws.{byte-strings, byte-other}
use Rattle.names.proofs.StringLaws.{string-token, scan-index}
use Rattle.names.proofs.RisingLaws.{number_right, number_refused, number_found, number-token, number-other}
use Rattle.names.proofs.MovedLaws.{moved_string, moved_number}
use Rattle.names.proofs.token.judge_token.Goals as goal

-- The next token of a column of strings is a string.
string : (section : List ℕ) (first digits : Bool) (column : Column) → column.kind ≡ Strings
    → token_size section first digits (cursor_of column)
    ≡ string_size digits 0 (drop column.place section)
unfolding cursor_of
string section first digits column e =
    string-token section first digits (cursor_of column) (byte-strings column.kind e)

pub returns-in_err-size-clause-size : goal.returns-in_err-size-clause-size
returns-in_err-size-clause-size c =
    let a = c.args in
    c.from_residual.ensures
    ∙ sym (string a.section.now a.first a.digits a.column.now c.in-Strings.is
    ∙ sym c.string_size.ensures.size ∙ c.in_err-size.was)

pub returns-in-Strings : goal.returns-in-Strings
unfolding cursor_of string_length
returns-in-Strings c =
    let a = c.args in
    let s : List ℕ = a.section.now in
    let column : Column = a.column.now in
    let is = sym c.string_size.ensures.size ∙ c.in_ok-size.was in
    record {
      size = sym (string s a.first a.digits column c.in-Strings.is ∙ is);
      moved = λ some.
          moved_string s a.first (byte_of column.kind) column.place column.value c.in_ok-size.size
          (byte-strings column.kind c.in-Strings.is)
          (scan-index a.digits 0 (drop column.place s) c.in_ok-size.size is ∙ zero-add _);
    }

pub returns-then-not-digits : goal.returns-then-not-digits
unfolding cursor_of
returns-then-not-digits c =
    let a = c.args in
    let cursor : Cursor = cursor_of a.column.now in
    record {
      size = sym (ap (λ (d : Bool). token_size a.section.now a.first d cursor) c.if-not-digits.true
          ∙ number-other a.section.now a.first cursor (byte-other a.column.now.kind c.in_default.not-Strings));
      moved = λ some. absurd (cc some);
    }

pub returns-in_err-number : goal.returns-in_err-number
unfolding cursor_of
returns-in_err-number c =
    let a = c.args in
    let s : List ℕ = a.section.now in
    let cursor : Cursor = cursor_of a.column.now in
    let wrong = number_refused s a.first cursor (sym c.number_at.ensures ∙ c.in_err-number.was) in
    record {
      size = c.from_residual-in_err-number.ensures
          ∙ sym (ap (λ (d : Bool). token_size s a.first d cursor) c.if-not-digits.false
          ∙ number-token s a.first cursor (byte-other a.column.now.kind c.in_default.not-Strings)
          ∙ ap (λ (t : Bool). cond t None (Some (length (decimal (number_at s a.first cursor))))) wrong);
      moved = λ some. absurd (let none = rw c.from_residual-in_err-number.ensures at some in cc none);
    }

pub overflow_add-column-2 : goal.overflow_add-column-2
unfolding cursor_of
overflow_add-column-2 c =
    let a = c.args in
    let s : List ℕ = a.section.now in
    let cursor : Cursor = cursor_of a.column.now in
    let found = number_found s a.first cursor c.in_ok-number.number (sym c.number_at.ensures ∙ c.in_ok-number.was) in
    omega (arith, (number_right s a.first cursor found.0).0, c.number_width.ensures.0)

pub decimal_length-requires : goal.decimal_length-requires
decimal_length-requires c =
    let a = c.args in
    let s : List ℕ = a.section.now in
    let cursor : Cursor = cursor_of a.column.now in
    let found = number_found s a.first cursor c.in_ok-number.number (sym c.number_at.ensures ∙ c.in_ok-number.was) in
    omega (arith, (number_right s a.first cursor found.0).1, found.1)

pub returns : goal.returns
unfolding cursor_of
returns c =
    let a = c.args in
    let s : List ℕ = a.section.now in
    let column : Column = a.column.now in
    let cursor : Cursor = cursor_of column in
    let numbers = byte-other column.kind c.in_default.not-Strings in
    let found = number_found s a.first cursor c.in_ok-number.number (sym c.number_at.ensures ∙ c.in_ok-number.was) in
    record {
      size = ap (λ (n : ℕ). Some n)
          (c.decimal_length.ensures ∙ ap (λ (n : ℕ). length (decimal n)) (sym found.1))
          ∙ sym (ap (λ (d : Bool). token_size s a.first d cursor) c.if-not-digits.false
          ∙ number-token s a.first cursor numbers
          ∙ ap (λ (t : Bool). cond t None (Some (length (decimal (number_at s a.first cursor))))) found.0);
      moved = λ some.
          moved_number s a.first (byte_of column.kind) column.place column.value c.number_width.result
          c.in_ok-number.number numbers c.number_width.ensures.0 (sym found.1);
    }

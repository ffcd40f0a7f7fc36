-- `names::token::put_token` meets its contract, for a string and for a number. Assumes nothing.
use mathlib.Core.Path.{◌≡◌, refl, sym, ap, ◌∙◌}
use mathlib.Core.List.{List}
use Prim.Native.Nat.{ℕ, ◌+◌}
use native.Mathlib.Omega.{arith}
use lib.ListN.{length}
use Rattle.base.specs.Lists.{part}
use Rattle.base.specs.Decimal.{decimal}
use Rattle.base.specs.Paste.{pasted}
use Rattle.tokens.specs.ColumnsAt.{Cursor, string_length, number_at, token_at}
use Rattle.names.specs.declared.column.Column.{Column}
use Rattle.names.specs.Cursors.{byte_of, cursor_of}
use Rattle.names.proofs.KindLaws.{byte-strings, byte-other}
use Rattle.names.proofs.RisingLaws.{number_right}
use Rattle.names.proofs.MovedLaws.{moved_string, moved_number}
use Rattle.names.proofs.PutLaws.{string_ends, string_is, string-length}
use Rattle.names.proofs.PutLaws.{number_valid, number_is, number_read, number_small}
use Rattle.names.proofs.token.put_token.Goals as goal

pub put_string-size-requires : goal.put_string-size-requires
unfolding cursor_of
put_string-size-requires c =
    let a = c.args in
    let s : List ℕ = a.section.now in
    let cursor : Cursor = cursor_of a.column.now in
    let right = c.requires.column_value in
    let strings = byte-strings a.column.now.kind c.in-Strings.is in (
      string_ends s a.first cursor right strings,
      omega (arith, string-length s a.first cursor right strings, c.requires.out_in_bounds),
    )

pub returns-in-Strings : goal.returns-in-Strings
unfolding cursor_of string_length
returns-in-Strings c =
    let a = c.args in
    let s : List ℕ = a.section.now in
    let column : Column = a.column.now in
    let cursor : Cursor = cursor_of column in
    let right = c.requires.column_value in
    let strings = byte-strings column.kind c.in-Strings.is in
    let size : ℕ = c.put_string-size.result in
    let is : size ≡ string_length s column.place = c.put_string-size.ensures.0 in
    record {
      written =
          c.put_string-size.ensures.2
          ∙ ap (λ (n : ℕ). pasted a.out.now a.at (part s column.place n)) is
          ∙ ap (pasted a.out.now a.at) (sym (string_is s a.first cursor right strings));
      ended = ap (λ (n : ℕ). a.at + n) (is ∙ sym (string-length s a.first cursor right strings));
      moved = moved_string s a.first (byte_of column.kind) column.place column.value size strings is;
    }

pub unwrap-number-requires : goal.unwrap-number-requires
unfolding cursor_of
unwrap-number-requires c =
    let a = c.args in
    let is = c.number_at.ensures
    ∙ number_read a.section.now a.first (cursor_of a.column.now) c.requires.column_value
    (byte-other a.column.now.kind c.in_default.not-Strings) in
    rw is refl

pub overflow_add-column-2 : goal.overflow_add-column-2
unfolding cursor_of
overflow_add-column-2 c =
    let a = c.args in
    let s : List ℕ = a.section.now in
    let cursor : Cursor = cursor_of a.column.now in
    let numbers = byte-other a.column.now.kind c.in_default.not-Strings in
    omega (
      arith,
      (number_right s a.first cursor (number_valid s a.first cursor c.requires.column_value numbers)).0,
      c.number_width.ensures.0,
    )

pub put_decimal-requires : goal.put_decimal-requires
unfolding cursor_of
put_decimal-requires c =
    let a = c.args in
    let s : List ℕ = a.section.now in
    let cursor : Cursor = cursor_of a.column.now in
    let right = c.requires.column_value in
    let numbers = byte-other a.column.now.kind c.in_default.not-Strings in
    let some = sym c.unwrap-number.ensures ∙ c.number_at.ensures ∙ number_read s a.first cursor right numbers in
    let same : c.unwrap-number.result ≡ number_at s a.first cursor = cc some in
    let long : length (decimal c.unwrap-number.result) ≡ length (token_at s a.first cursor) =
    ap (λ (n : ℕ). length (decimal n)) same ∙ ap length (sym (number_is s a.first cursor right numbers)) in
    record {
      number_bound = omega (arith, number_small s a.first cursor right numbers);
      number_in_bounds = omega (arith, c.requires.out_in_bounds);
    }

pub returns : goal.returns
unfolding cursor_of
returns c =
    let a = c.args in
    let s : List ℕ = a.section.now in
    let column : Column = a.column.now in
    let cursor : Cursor = cursor_of column in
    let right = c.requires.column_value in
    let numbers = byte-other column.kind c.in_default.not-Strings in
    let some = sym c.unwrap-number.ensures ∙ c.number_at.ensures ∙ number_read s a.first cursor right numbers in
    let same : c.unwrap-number.result ≡ number_at s a.first cursor = cc some in
    let is : decimal c.unwrap-number.result ≡ token_at s a.first cursor =
    ap decimal same ∙ sym (number_is s a.first cursor right numbers) in
    record {
      written = c.put_decimal.ensures.0 ∙ ap (pasted a.out.now a.at) is;
      ended = c.put_decimal.ensures.1 ∙ ap (λ (l : List ℕ). a.at + length l) is;
      moved = moved_number s a.first (byte_of column.kind) column.place column.value c.number_width.result
          c.unwrap-number.result numbers c.number_width.ensures.0 same;
    }

-- A rising column: what is read where one stands, and what stands where one is read. Assumes nothing.
use mathlib.Core.Path.{◌≡◌, refl, sym, ap, ap₂, ◌∙◌, subst}
use Prim.Native.Nat.{ℕ, suc, ◌+◌, ◌-◌, ◌*◌, ◌^◌, ◌≤◌}
use native.Mathlib.Omega.{arith}
use mathlib.Core.Bool.{Bool, true, false, cond}
use mathlib.Core.List.{List, ◌∷◌, ◌++◌, map, flat_map}
use lib.ListN.{length, length-append}
use lib.IntN.{pos, negsuc}
use lib.Dec.{eqb, ltb}
use borrow.Author.Tests.{ltb-false, le-ltb, lt-ltb}
use Rattle.base.specs.Lists.{places_from, member, AllBytes, ends_before}
use Rattle.base.specs.Numbers.{le, le_bytes, signed, non_negative}
use Rattle.base.specs.Place.{At}
use Rattle.base.specs.Decimal.{decimal}
use Rattle.base.proofs.Tests.{or-neither, neither_or}
use Rattle.base.proofs.AtLaws.{at_left, at_right, at_both, at-to}
use Rattle.base.proofs.NumberLaws.{length-le_bytes, le-le_bytes, le_bytes-le}
use Rattle.base.proofs.FlatMapLaws.{length-flat_map_even}
use Rattle.tokens.specs.Columns.{max_number, widths, numbers_from, Column, rising, column_tokens, column_bytes}
use Rattle.tokens.specs.Columns.{ColumnFits, RisingFits}
use Rattle.tokens.specs.ColumnsAt.{Cursor, cursor_after, token_invalid, step_width, start_at, is_negative}
use Rattle.tokens.specs.ColumnsAt.{number_at, number_width, number_invalid}
use Rattle.tokens.proofs.ColumnWalk.{tokens_from, cursor_from, tokens_invalid}
use Rattle.tokens.proofs.CursorLaws.{kind-after, token_number, place_number, value_number, invalid_number}
use Rattle.tokens.proofs.StringColumn.{Walked}
use Rattle.tokens.proofs.StepsAt.{steps_at, length-steps_at, below-steps_at, at-steps_at, steps_at-at, Begun}
use Rattle.tokens.proofs.StepsAt.{Small, tokens-steps, cursor-steps, valid-steps, steps-valid}

-- ---- The start

-- A signed number that is not negative is itself.
pub start-signed : (x : ℕ) → is_negative (signed 64 x) ≡ false → non_negative (signed 64 x) ≡ x
unfolding signed is_negative non_negative
start-signed x e =
    let go : (t : Bool) → is_negative (cond t (pos x) (negsuc (2 ^ 64 - 1 - x))) ≡ false
    → non_negative (cond t (pos x) (negsuc (2 ^ 64 - 1 - x))) ≡ x
    = elim [ true ↦ λ h. refl | false ↦ λ h. let z : ◌≡◌ {A = ℕ} 0 1 = cc in absurd (omega arith) ] in
    go (ltb x (2 ^ (64 - 1))) e

-- A number below half of 2 ^ 64 is not negative.
pub signed-start : (x : ℕ) → x ≤ max_number → is_negative (signed 64 x) ≡ false
unfolding signed is_negative
signed-start x h =
    let t : ltb x (2 ^ (64 - 1)) ≡ true = lt-ltb x (2 ^ (64 - 1)) (omega arith) in
    rw t

-- A start that is there, not negative and small.
pub record StartRight (section : List ℕ) (place : ℕ) : Type 0 where
  pub fits : place + 8 ≤ length section
  pub positive : is_negative (signed 64 (le 8 section place)) ≡ false
  pub small : le 8 section place ≤ max_number

module _ (section : List ℕ) (cursor : Cursor) (is : eqb cursor.kind 0 ≡ false) where
  -- What the tests of a start say.
  pub start_right : token_invalid section true cursor ≡ false → StartRight section cursor.place
  unfolding number_invalid number_width number_at start_at
  start_right e =
      let parts = or-neither (ends_before section (cursor.place + 8)) _ (sym (invalid_number section true cursor is) ∙ e) in
      let more = or-neither (is_negative (start_at section cursor.place)) _ parts.1 in
      let value : number_at section true cursor ≡ le 8 section cursor.place =
      start-signed (le 8 section cursor.place) more.0 in
      record {
        fits = ltb-false (length section) (cursor.place + 8) parts.0;
        positive = more.0;
        small = ltb-false max_number (le 8 section cursor.place) (ap (ltb max_number) (sym value) ∙ more.1);
      }

  -- And back.
  pub right_start : StartRight section cursor.place → token_invalid section true cursor ≡ false
  unfolding number_invalid number_width number_at start_at
  right_start right =
      invalid_number section true cursor is
      ∙ neither_or (ends_before section (cursor.place + 8)) _
      (le-ltb (length section) (cursor.place + 8) right.fits)
      (neither_or (is_negative (start_at section cursor.place)) _ right.positive
      (ap (ltb max_number) (start-signed (le 8 section cursor.place) right.positive)
      ∙ le-ltb max_number (le 8 section cursor.place) right.small))

  module _ (right : StartRight section cursor.place) where
    -- The number that is read.
    start_number : number_at section true cursor ≡ le 8 section cursor.place
    unfolding number_at start_at
    start_number = start-signed (le 8 section cursor.place) right.positive

    -- The column past its start.
    start_begun : Begun (cursor_after section true cursor) (step_width cursor.kind) (cursor.place + 8)
        (le 8 section cursor.place)
    unfolding number_width
    start_begun =
        record {
          numbers = ap (λ (k : ℕ). eqb k 0) (kind-after section true cursor) ∙ is;
          width_is = ap step_width (kind-after section true cursor);
          place_is = place_number section true cursor is;
          value_is = value_number section true cursor is ∙ start_number;
        }

    -- What is read: the start and the steps.
    pub tokens_rising : (count : ℕ) → tokens_from (suc count) section true cursor
        ≡ map decimal (numbers_from (le 8 section cursor.place)
        (steps_at count (step_width cursor.kind) section (cursor.place + 8)))
    unfolding tokens_from numbers_from
    tokens_rising count =
        ap₂ ◌∷◌ (token_number section true cursor is ∙ ap decimal start_number)
        (tokens-steps count section (cursor_after section true cursor) (step_width cursor.kind) (cursor.place + 8)
        (le 8 section cursor.place) start_begun)

    -- Where the column has arrived.
    pub cursor_rising : (count : ℕ) → (cursor_from (suc count) section true cursor).place
        ≡ cursor.place + (8 + count * step_width cursor.kind)
    unfolding cursor_from
    cursor_rising count =
        cursor-steps count section (cursor_after section true cursor) (step_width cursor.kind) (cursor.place + 8)
        (le 8 section cursor.place) start_begun
        ∙ omega arith

-- The bytes of a rising column.
pub length-rising : (width start : ℕ) (steps : List ℕ)
    → length (column_bytes (rising width start steps)) ≡ 8 + length steps * width
unfolding column_bytes
length-rising width start steps =
    length-append (le_bytes 8 start) (flat_map (le_bytes width) steps)
    ∙ ap₂ ◌+◌ (length-le_bytes 8 start) (length-flat_map_even (le_bytes width) width (length-le_bytes width) steps)

-- ---- A column

-- The rising column that is read.
abbrev pub rising_at : (count : ℕ) (section : List ℕ) (cursor : Cursor) → Column
rising_at count section cursor =
    rising (step_width cursor.kind) (le 8 section cursor.place)
    (steps_at count (step_width cursor.kind) section (cursor.place + 8))

module _ (count : ℕ) (section : List ℕ) (cursor : Cursor) (is : eqb cursor.kind 0 ≡ false) where
  -- It stands there, and these are its tokens.
  pub rising_stands : AllBytes section → member (step_width cursor.kind) widths ≡ true
      → tokens_invalid (suc count) section true cursor ≡ false
      → ColumnFits (suc count) (rising_at count section cursor)
      × At section cursor.place (column_bytes (rising_at count section cursor))
      × Walked (suc count) section true cursor (column_tokens (rising_at count section cursor))
      (length (column_bytes (rising_at count section cursor)))
  unfolding tokens_invalid column_bytes column_tokens numbers_from
  rising_stands bytes known e =
      let width : ℕ = step_width cursor.kind in
      let place : ℕ = cursor.place in
      let start : ℕ = le 8 section place in
      let steps : List ℕ = steps_at count width section (place + 8) in
      let parts = or-neither (token_invalid section true cursor) _ e in
      let right : StartRight section place = start_right section cursor is parts.0 in
      let rest = valid-steps count section (cursor_after section true cursor) width (place + 8) start
      (start_begun section cursor is right) right.fits parts.1 in
      let many : length steps ≡ count = length-steps_at count width section (place + 8) in
      let size : length (le_bytes 8 start) ≡ 8 = length-le_bytes 8 start in (
        record {
          width_is = known;
          counted = ap suc many;
          narrow = below-steps_at count width section (place + 8) bytes;
          small = (right.small, rest.1);
        },
        at_both (le_bytes 8 start) (flat_map (le_bytes width) steps) (le_bytes-le 8 place bytes right.fits)
            (at-to (place + 8) (place + length (le_bytes 8 start)) (omega arith)
            (at-steps_at count width section (place + 8) bytes rest.0)),
        record {
          valid = e;
          tokens_are = tokens_rising section cursor is right count;
          ends = cursor_rising section cursor is right count
              ∙ ap (λ (n : ℕ). place + n)
              (ap (λ (n : ℕ). 8 + n * width) (sym many) ∙ sym (length-rising width start steps));
        },
      )

  -- A rising column that stands is read.
  pub rising_read : (width start : ℕ) (steps : List ℕ) → step_width cursor.kind ≡ width
      → RisingFits (suc count) width start steps → At section cursor.place (column_bytes (rising width start steps))
      → Walked (suc count) section true cursor (column_tokens (rising width start steps))
      (length (column_bytes (rising width start steps)))
  unfolding tokens_invalid column_bytes column_tokens numbers_from
  rising_read width start steps same fits a =
      let place : ℕ = cursor.place in
      let size : length (le_bytes 8 start) ≡ 8 = length-le_bytes 8 start in
      let bytes : length (le_bytes 8 start ++ flat_map (le_bytes width) steps) ≡ 8 + length steps * width =
      length-rising width start steps in
      let many : length steps ≡ count = omega (arith, fits.counted) in
      let first : le 8 section place ≡ start =
      le-le_bytes 8 start (omega (arith, fits.small.0)) (at_left (le_bytes 8 start) (flat_map (le_bytes width) steps) a) in
      let right : StartRight section place =
      record {
        fits = omega (arith, a.fits);
        positive = ap (λ (x : ℕ). is_negative (signed 64 x)) first ∙ signed-start start fits.small.0;
        small = omega (arith, fits.small.0);
      } in
      let read : steps_at count (step_width cursor.kind) section (place + 8) ≡ steps =
      ap₂ (λ (n w : ℕ). steps_at n w section (place + 8)) (sym many) same
      ∙ steps_at-at width section steps (place + 8) fits.narrow
      (at-to (place + length (le_bytes 8 start)) (place + 8) (omega arith)
      (at_right (le_bytes 8 start) (flat_map (le_bytes width) steps) a)) in
      let all : count * step_width cursor.kind ≡ length steps * width = ap₂ ◌*◌ (sym many) same in
      record {
        valid = neither_or (token_invalid section true cursor) _ (right_start section cursor is right)
            (steps-valid count section (cursor_after section true cursor) (step_width cursor.kind) (place + 8)
            (le 8 section place) (start_begun section cursor is right) (omega (arith, a.fits))
            (subst Small (sym (ap₂ places_from first read)) fits.small.1));
        tokens_are = tokens_rising section cursor is right count ∙ ap (map decimal) (ap₂ numbers_from first read);
        ends = cursor_rising section cursor is right count
            ∙ ap (λ (n : ℕ). place + n) (ap (λ (n : ℕ). 8 + n) all ∙ sym (length-rising width start steps));
      }

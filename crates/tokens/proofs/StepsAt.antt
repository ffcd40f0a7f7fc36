-- The steps of a rising column: what is read where they stand, and what stands where they are read. Assumes nothing.
use mathlib.Core.Path.{◌≡◌, refl, sym, ap, ap₂, ◌∙◌}
use Prim.Native.Nat.{ℕ, zero, suc, ◌+◌, ◌*◌, ◌^◌, ◌≤◌}
use native.Mathlib.Omega.{arith}
use mathlib.Core.Bool.{false, ◌||◌}
use mathlib.Core.List.{List, [], ◌∷◌, map, flat_map}
use lib.ListN.{length}
use lib.Dec.{eqb, ltb}
use borrow.Author.Tests.{ltb-false, le-ltb}
use Rattle.base.specs.Lists.{places_from, All, Below, AllBytes, ends_before}
use Rattle.base.specs.Numbers.{le, le_bytes}
use Rattle.base.specs.Place.{At}
use Rattle.base.specs.Decimal.{decimal}
use Rattle.base.proofs.ListLaws.{below-nil, below-cons}
use Rattle.base.proofs.Tests.{or-neither, neither_or}
use Rattle.base.proofs.AtLaws.{at_left, at_right, at_both, at-nil, at-to}
use Rattle.base.proofs.NumberLaws.{length-le_bytes, le-le_bytes, le_bytes-le, le_below}
use Rattle.tokens.specs.Columns.{max_number}
use Rattle.tokens.specs.ColumnsAt.{Cursor, cursor_after, token_invalid, step_width}
use Rattle.tokens.specs.ColumnsAt.{number_at, number_width, number_invalid}
use Rattle.tokens.proofs.ColumnWalk.{tokens_from, cursor_from, tokens_invalid}
use Rattle.tokens.proofs.CursorLaws.{kind-after, token_number, place_number, value_number, invalid_number}

-- So many steps of `width` bytes from a place on.
unfoldable pub steps_at : (count width : ℕ) (section : List ℕ) (place : ℕ) → List ℕ
steps_at zero width section place = []
steps_at (suc count) width section place = le width section place ∷ steps_at count width section (place + width)

-- ---- Steps in bytes

pub length-steps_at : (count width : ℕ) (section : List ℕ) (place : ℕ) → length (steps_at count width section place) ≡ count
unfolding steps_at
length-steps_at zero width section place = refl
length-steps_at (suc count) width section place = ap suc (length-steps_at count width section (place + width))

-- They are as narrow as they are stored.
pub below-steps_at : (count width : ℕ) (section : List ℕ) (place : ℕ) → AllBytes section
    → Below (256 ^ width) (steps_at count width section place)
unfolding steps_at
below-steps_at zero width section place bytes = below-nil (256 ^ width)
below-steps_at (suc count) width section place bytes =
    below-cons (le width section place) _ (le_below width section place bytes)
    (below-steps_at count width section (place + width) bytes)

-- The steps that are read stand there.
pub at-steps_at : (count width : ℕ) (section : List ℕ) (place : ℕ) → AllBytes section → place + count * width ≤ length section
    → At section place (flat_map (le_bytes width) (steps_at count width section place))
unfolding steps_at flat_map
at-steps_at zero width section place bytes h = at-nil (omega arith)
at-steps_at (suc count) width section place bytes h =
    let len : length (le_bytes width (le width section place)) ≡ width = length-le_bytes width (le width section place) in
    at_both (le_bytes width (le width section place)) _ (le_bytes-le width place bytes (omega arith))
    (at-to (place + width) (place + length (le_bytes width (le width section place))) (omega arith)
    (at-steps_at count width section (place + width) bytes (omega arith)))

-- Steps that stand are read.
pub steps_at-at : (width : ℕ) (section steps : List ℕ) (place : ℕ) → Below (256 ^ width) steps
    → At section place (flat_map (le_bytes width) steps) → steps_at (length steps) width section place ≡ steps
unfolding steps_at flat_map
steps_at-at width section [] place narrow a = refl
steps_at-at width section (step ∷ steps) place narrow a =
    let len : length (le_bytes width step) ≡ width = length-le_bytes width step in
    ap₂ ◌∷◌ (le-le_bytes width step (narrow.each 0 (omega arith)) (at_left (le_bytes width step) (flat_map (le_bytes width) steps) a))
    (steps_at-at width section steps (place + width)
    (record { each = λ k h. narrow.each (suc k) (omega arith) })
    (at-to (place + length (le_bytes width step)) (place + width) (omega arith)
    (at_right (le_bytes width step) (flat_map (le_bytes width) steps) a)))

-- ---- Steps of a column that has begun

-- A column past its start: its steps have this width, and it has arrived at this place and number.
pub record Begun (cursor : Cursor) (width place value : ℕ) : Type 0 where
  pub numbers : eqb cursor.kind 0 ≡ false
  pub width_is : step_width cursor.kind ≡ width
  pub place_is : cursor.place ≡ place
  pub value_is : cursor.value ≡ value

module _ (section : List ℕ) (cursor : Cursor) (width place value : ℕ) (begun : Begun cursor width place value) where
  -- The next number.
  number_step : number_at section false cursor ≡ value + le width section place
  unfolding number_at
  number_step =
      ap₂ ◌+◌ begun.value_is
      (ap₂ (λ (w p : ℕ). le w section p) begun.width_is begun.place_is)

  -- The column after one step more.
  begun_after : Begun (cursor_after section false cursor) width (place + width) (value + le width section place)
  unfolding number_width
  begun_after =
      record {
        numbers = ap (λ (k : ℕ). eqb k 0) (kind-after section false cursor) ∙ begun.numbers;
        width_is = ap step_width (kind-after section false cursor) ∙ begun.width_is;
        place_is = place_number section false cursor begun.numbers ∙ ap₂ ◌+◌ begun.place_is begun.width_is;
        value_is = value_number section false cursor begun.numbers ∙ number_step;
      }

  -- A step is wrong that is cut, or leads too far.
  step_invalid : token_invalid section false cursor
      ≡ ends_before section (place + width) || ltb max_number (value + le width section place)
  unfolding number_invalid number_width
  step_invalid =
      invalid_number section false cursor begun.numbers
      ∙ ap₂ (λ (end number : ℕ). ends_before section end || ltb max_number number)
      (ap₂ ◌+◌ begun.place_is begun.width_is)
      number_step

-- The tokens are the numbers to which the steps lead.
pub tokens-steps : (count : ℕ) (section : List ℕ) (cursor : Cursor) (width place value : ℕ) → Begun cursor width place value
    → tokens_from count section false cursor ≡ map decimal (places_from value (steps_at count width section place))
unfolding tokens_from steps_at places_from
tokens-steps zero section cursor width place value begun = refl
tokens-steps (suc count) section cursor width place value begun =
    ap₂ ◌∷◌ (token_number section false cursor begun.numbers ∙ ap decimal (number_step section cursor width place value begun))
    (tokens-steps count section (cursor_after section false cursor) width (place + width) (value + le width section place)
    (begun_after section cursor width place value begun))

-- The column has arrived after its steps.
pub cursor-steps : (count : ℕ) (section : List ℕ) (cursor : Cursor) (width place value : ℕ) → Begun cursor width place value
    → (cursor_from count section false cursor).place ≡ place + count * width
unfolding cursor_from
cursor-steps zero section cursor width place value begun = begun.place_is ∙ omega arith
cursor-steps (suc count) section cursor width place value begun =
    cursor-steps count section (cursor_after section false cursor) width (place + width) (value + le width section place)
    (begun_after section cursor width place value begun)
    ∙ omega arith

-- The numbers to which steps lead are small enough.
abbrev pub Small : (numbers : List ℕ) → Type 0
Small numbers = All (λ number. number ≤ max_number) numbers

-- Steps that are right are there, and lead to small numbers.
pub valid-steps : (count : ℕ) (section : List ℕ) (cursor : Cursor) (width place value : ℕ) → Begun cursor width place value
    → place ≤ length section → tokens_invalid count section false cursor ≡ false
    → (place + count * width ≤ length section) × Small (places_from value (steps_at count width section place))
unfolding tokens_invalid steps_at places_from
valid-steps zero section cursor width place value begun h e = (omega arith, tt)
valid-steps (suc count) section cursor width place value begun h e =
    let parts = or-neither (token_invalid section false cursor) _ e in
    let here = or-neither (ends_before section (place + width)) _
    (sym (step_invalid section cursor width place value begun) ∙ parts.0) in
    let fits : place + width ≤ length section = ltb-false (length section) (place + width) here.0 in
    let rest = valid-steps count section (cursor_after section false cursor) width (place + width)
    (value + le width section place) (begun_after section cursor width place value begun) fits parts.1 in
    (omega (arith, rest.0), (ltb-false max_number (value + le width section place) here.1, rest.1))

-- And back.
pub steps-valid : (count : ℕ) (section : List ℕ) (cursor : Cursor) (width place value : ℕ) → Begun cursor width place value
    → place + count * width ≤ length section → Small (places_from value (steps_at count width section place))
    → tokens_invalid count section false cursor ≡ false
unfolding tokens_invalid steps_at places_from
steps-valid zero section cursor width place value begun h small = refl
steps-valid (suc count) section cursor width place value begun h small =
    neither_or (token_invalid section false cursor) _
    (step_invalid section cursor width place value begun
    ∙ neither_or (ends_before section (place + width)) _
    (le-ltb (length section) (place + width) (omega arith))
    (le-ltb max_number (value + le width section place) small.0))
    (steps-valid count section (cursor_after section false cursor) width (place + width) (value + le width section place)
    (begun_after section cursor width place value begun)
    (omega arith)
    small.1)

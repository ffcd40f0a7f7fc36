-- The types and sizes of a section's columns, and its length. Assumes nothing.
use mathlib.Core.Path.{◌≡◌, refl, sym, ap, ap₂, ◌∙◌}
use Prim.Native.Nat.{ℕ, ◌+◌, ◌-◌, ◌*◌, ◌≤◌, ◌<◌}
use native.Mathlib.Nat.{mul-suc, mul-zero, add_comm}
use native.Mathlib.Omega.{arith}
use mathlib.Core.Bool.{Bool, true, false, cond, not, ◌||◌}
use mathlib.Core.List.{List, [], ◌∷◌, map, flat_map}
use lib.ListN.{length, get_or, length-append, length-map}
use lib.Dec.{ltb, eqb}
use Rattle.base.specs.Lists.{any}
use Rattle.base.specs.Numbers.{le_bytes}
use Rattle.base.proofs.ListLaws.{by_test}
use Rattle.base.proofs.NumberLaws.{length-le_bytes}
use Rattle.base.proofs.StepsLaws.{length-steps_from}
use Rattle.base.proofs.Tests.{or-neither}
use Rattle.tokens.specs.Split.{is_printable}
use Rattle.tokens.specs.Columns.{strings, rising, step_type, column_type, column_bytes}
use Rattle.tokens.specs.WrittenNames.{value_of, steps_of, width_for, not_rising, column_for}
use Rattle.tokens.specs.WrittenNames.{names_lent}
use Rattle.tokens.specs.WrittenNames.{name_ends_invalid, token_counts_differ, names_refused}
use Rattle.names_writer.specs.Steps.{kind_width, column_size}
use Rattle.names_writer.specs.Measured.{NamesFit, string_bytes}

-- ---- What is not refused

pub names_fit : (bytes ends : List ℕ) → names_refused (length ends) bytes ends ≡ false
    → 0 < length ends → length ends ≤ 50000 → NamesFit bytes ends
unfolding names_refused
names_fit bytes ends right some few =
    let wrong : Bool = not (eqb (length ends) (length ends)) in
    let printed : Bool = any (λ byte. not (is_printable byte)) bytes in
    let differ : Bool = token_counts_differ (names_lent bytes ends) in
    let after = (or-neither wrong (name_ends_invalid bytes ends || (printed || differ)) right).1 in
    let both = or-neither (name_ends_invalid bytes ends) (printed || differ) after in
    record {
      fit = both.0;
      alike = (or-neither printed differ both.1).1;
      some = some;
      few = few;
    }

-- ---- The size of a column

pub length-steps : (width : ℕ) (steps : List ℕ)
    → length (flat_map (le_bytes width) steps) ≡ width * length steps
unfolding flat_map
length-steps width [] = sym (mul-zero width)
length-steps width (step ∷ steps) =
    length-append (le_bytes width step) (flat_map (le_bytes width) steps)
    ∙ ap₂ (λ (a b : ℕ). a + b) (length-le_bytes width step) (length-steps width steps)
    ∙ add_comm width (width * length steps)
    ∙ sym (mul-suc width (length steps))

-- The width of steps is that of their type, which is not that of strings.
pub record WidthIs (width : ℕ) : Type 0 where
  pub wide : kind_width (step_type width) ≡ width
  pub steps : eqb (step_type width) 0 ≡ false

pub width_is : (steps : List ℕ) → WidthIs (width_for steps)
unfolding width_for kind_width step_type
width_is steps =
    by_test (any (ltb 65_535) steps) (λ e. rw e (record { wide = refl; steps = refl }))
    (λ e.
    by_test (any (ltb 255) steps) (λ f. rw (e, f) (record { wide = refl; steps = refl }))
    (λ f. rw (e, f) (record { wide = refl; steps = refl })))

pub count-steps : (tokens : List (List ℕ))
    → length (steps_of (map value_of tokens)) ≡ length tokens - 1
unfolding steps_of
count-steps [] = refl
count-steps (token ∷ tokens) =
    length-steps_from (value_of token) (map value_of tokens)
    ∙ length-map tokens value_of
    ∙ omega arith

module _ (tokens : List (List ℕ)) where
  abbrev steps : List ℕ
  steps = steps_of (map value_of tokens)

  size_by : (test : Bool)
      → column_size (column_type (cond test (strings tokens) (rising (width_for steps)
      (get_or (map value_of tokens) 0 0) steps))) (length (string_bytes tokens)) (length tokens)
      ≡ length (column_bytes (cond test (strings tokens) (rising (width_for steps)
      (get_or (map value_of tokens) 0 0) steps)))
  unfolding column_size column_type column_bytes string_bytes
  size_by true = refl
  size_by false =
      let width : ℕ = width_for steps in
      let is = width_is steps in
      ap (λ (t : Bool). cond t (length (string_bytes tokens))
      (8 + kind_width (step_type width) * (length tokens - 1))) is.steps
      ∙ ap₂ (λ (a b : ℕ). 8 + a * b) is.wide (sym (count-steps tokens))
      ∙ ap₂ (λ (a b : ℕ). a + b) (sym (length-le_bytes 8 (get_or (map value_of tokens) 0 0)))
      (sym (length-steps width steps))
      ∙ sym (length-append (le_bytes 8 (get_or (map value_of tokens) 0 0))
      (flat_map (le_bytes width) steps))

  pub column_size_is : column_size (column_type (column_for tokens)) (length (string_bytes tokens))
      (length tokens) ≡ length (column_bytes (column_for tokens))
  unfolding column_for
  column_size_is = size_by (not_rising tokens)

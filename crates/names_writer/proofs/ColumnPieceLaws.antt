-- The bytes of a column, token by token. Assumes nothing.
use mathlib.Core.Path.{◌≡◌, refl, sym, ap, ap₂, ◌∙◌}
use Prim.Native.Nat.{ℕ, zero, suc, ◌+◌, ◌-◌, ◌≤◌, ◌<◌}
use native.Mathlib.Nat.{not-suc-le-zero, le_of_suc-le-suc}
use native.Mathlib.Numerals.{add-one}
use native.Mathlib.Omega.{arith}
use mathlib.Core.Bool.{Bool, true, false, cond}
use Rattle.std.proofs.Common.{Option}
use mathlib.Core.List.{List, [], ◌∷◌, ◌++◌, map, flat_map, flatten, append_assoc, append-nil}
use lib.ListN.{length, get_or, take, drop, length-append, length-map, take-append-drop}
use lib.ListN.{get_or-map}
use lib.Seq.{take-suc}
use Rattle.base.specs.Lists.{any, steps_from}
use Rattle.base.specs.Numbers.{le_bytes}
use Rattle.base.proofs.ListLaws.{get_or-inside}
use Rattle.base.proofs.Tests.{or-neither, any_none}
use Rattle.tokens.specs.Columns.{Column, strings, rising, column_type, column_bytes}
use Rattle.tokens.specs.WrittenNames.{not_number, value_of, steps_invalid, steps_of, width_for}
use Rattle.tokens.specs.WrittenNames.{not_rising, column_for}
use Rattle.names_writer.specs.Steps.{number_of, token_number}
use Rattle.names_writer.specs.Measured.{last_number}
use Rattle.names_writer.specs.Pieces.{number_piece, piece_of, typed_piece}
use Rattle.names_writer.specs.Arrived.{pieces_of, part_bytes, last_written}
use Rattle.names_writer.proofs.ValueLaws.{number_is}
use Rattle.names_writer.proofs.KindLaws.{last-number}
use Rattle.names_writer.proofs.PieceLaws.{piece_typed}
use Rattle.names_writer.proofs.SectionLaws.{width_is, count-steps}

-- ---- Parts of a column

flatten-append : (front back : List (List ℕ)) → flatten (front ++ back) ≡ flatten front ++ flatten back
unfolding flatten
flatten-append [] back = refl
flatten-append (x ∷ xs) back =
    ap (λ (rest : List ℕ). x ++ rest) (flatten-append xs back)
    ∙ sym (append_assoc x (flatten xs) (flatten back))

flatten-map : {A : Type 0} (f : A → List ℕ) (list : List A) → flatten (map f list) ≡ flat_map f list
unfolding flatten flat_map
flatten-map f [] = refl
flatten-map f (x ∷ xs) = ap (λ (rest : List ℕ). f x ++ rest) (flatten-map f xs)

-- All pieces are the column.
pub pieces-joined : (column : Column) → flatten (pieces_of column) ≡ column_bytes column
unfolding pieces_of column_bytes flatten
pieces-joined (strings tokens) = flatten-map (λ token. token ++ (0 ∷ [])) tokens
pieces-joined (rising width start steps) =
    ap (λ (rest : List ℕ). le_bytes 8 start ++ rest) (flatten-map (le_bytes width) steps)

module _ (column : Column) (i : ℕ) where
  -- A part is no longer than the column.
  pub part_length : length (part_bytes column i) ≤ length (column_bytes column)
  unfolding part_bytes
  part_length =
      let front : List ℕ = flatten (take i (pieces_of column)) in
      let back : List ℕ = flatten (drop i (pieces_of column)) in
      let whole : column_bytes column ≡ front ++ back =
      sym (pieces-joined column)
      ∙ ap flatten (sym (take-append-drop i (pieces_of column)))
      ∙ flatten-append (take i (pieces_of column)) (drop i (pieces_of column)) in
      omega (arith, ap length whole, length-append front back)

  -- One more piece.
  pub part_more : i < length (pieces_of column)
      → part_bytes column (i + 1) ≡ part_bytes column i ++ get_or (pieces_of column) i []
  unfolding part_bytes flatten
  part_more h =
      ap (λ (k : ℕ). flatten (take k (pieces_of column))) (add-one i)
      ∙ ap flatten (take-suc (pieces_of column) i [] h)
      ∙ flatten-append (take i (pieces_of column)) (get_or (pieces_of column) i [] ∷ [])
      ∙ ap (λ (x : List ℕ). flatten (take i (pieces_of column)) ++ x)
      (append-nil (get_or (pieces_of column) i []))

pub part_none : (column : Column) → part_bytes column 0 ≡ []
unfolding part_bytes flatten
part_none column = refl

-- ---- The piece of a token

steps-at : (start : ℕ) (numbers : List ℕ) (j : ℕ) → j < length numbers
    → get_or (steps_from start numbers) j 0 ≡ get_or numbers j 0 - get_or (start ∷ numbers) j 0
unfolding steps_from
steps-at start [] j h = absurd (not-suc-le-zero h)
steps-at start (number ∷ numbers) zero h = refl
steps-at start (number ∷ numbers) (suc j) h = steps-at number numbers j (le_of_suc-le-suc h)

step-at : (numbers : List ℕ) (j : ℕ) → suc j < length numbers
    → get_or numbers (suc j) 0 - get_or numbers j 0 ≡ get_or (steps_of numbers) j 0
unfolding steps_of
step-at [] j h = absurd (not-suc-le-zero h)
step-at (number ∷ numbers) j h = sym (steps-at number numbers j (le_of_suc-le-suc h))

-- An element of a list that a function maps.
mapped_at : {A : Type 0} (f : A → List ℕ) (list : List A) (j : ℕ) (d : A) → j < length list
    → f (get_or list j d) ≡ get_or (map f list) j []
mapped_at f list j d h =
    sym (get_or-map f list j d)
    ∙ get_or-inside (map f list) j (f d) [] (omega (arith, length-map list f))

module _ (tokens : List (List ℕ)) where
  abbrev numbers : List ℕ
  numbers = map value_of tokens

  abbrev width : ℕ
  width = width_for (steps_of numbers)

  abbrev column_by : (test : Bool) → Column
  column_by test = cond test (strings tokens) (rising width (get_or numbers 0 0) (steps_of numbers))

  -- Of a rising column.
  rising-at : any not_number tokens ≡ false → (i : ℕ) → i < length tokens
      → number_piece (last_written tokens i) width (number_of (get_or tokens i []))
      ≡ get_or (le_bytes 8 (get_or numbers 0 0) ∷ map (le_bytes width) (steps_of numbers)) i []
  unfolding number_piece last_written
  rising-at none zero inside = ap (le_bytes 8) (last-number tokens 0 inside none)
  rising-at none (suc j) inside =
      let size : length numbers ≡ length tokens = length-map tokens value_of in
      ap₂ (λ (a b : ℕ). le_bytes width (a - b)) (last-number tokens (suc j) inside none)
      (last-number tokens j (omega arith) none)
      ∙ ap (le_bytes width) (step-at numbers j (omega arith))
      ∙ mapped_at (le_bytes width) (steps_of numbers) j 0 (omega (arith, count-steps tokens))

  typed_by : (test : Bool) → not_rising tokens ≡ test → (i : ℕ) → i < length tokens
      → typed_piece (last_written tokens i) (column_type (column_by test)) (get_or tokens i [])
      ≡ get_or (pieces_of (column_by test)) i []
  unfolding typed_piece column_type pieces_of not_rising
  typed_by true is i inside = mapped_at (λ token. token ++ (0 ∷ [])) tokens i [] inside
  typed_by false is i inside =
      let w = width_is (steps_of numbers) in
      let none = (or-neither (any not_number tokens) (steps_invalid (get_or numbers 0 0) numbers) is).0 in
      let token : List ℕ = get_or tokens i [] in
      ap₂ (λ (t : Bool) (n : ℕ). cond t (token ++ (0 ∷ []))
      (number_piece (last_written tokens i) n (number_of token))) w.steps w.wide
      ∙ rising-at none i inside

  pub typed_piece_at : (i kind : ℕ) (last : Option ℕ) → i < length tokens
      → kind ≡ column_type (column_for tokens) → last ≡ last_written tokens i
      → typed_piece last kind (get_or tokens i []) ≡ get_or (pieces_of (column_for tokens)) i []
  unfolding column_for
  typed_piece_at i kind last inside is before =
      ap₂ (λ (l : Option ℕ) (n : ℕ). typed_piece l n (get_or tokens i [])) before is
      ∙ typed_by (not_rising tokens) refl i inside

  -- In a rising column both last numbers agree.
  last-same : any not_number tokens ≡ false → (i : ℕ) → i < length tokens
      → last_number tokens i ≡ last_written tokens i
  unfolding last_number last_written token_number
  last-same none zero inside = refl
  last-same none (suc j) inside =
      let some = any_none not_number tokens none j [] (omega arith) in
      rw (some, number_is (get_or tokens j []) some)

  -- The same where a token that is no number is a string.
  piece_by : (test : Bool) → not_rising tokens ≡ test → (i : ℕ) → i < length tokens
      → piece_of (last_number tokens i) (column_type (column_by test)) (get_or tokens i [])
      ≡ get_or (pieces_of (column_by test)) i []
  unfolding piece_of column_type pieces_of not_rising
  piece_by true is i inside = mapped_at (λ token. token ++ (0 ∷ [])) tokens i [] inside
  piece_by false is i inside =
      let none = (or-neither (any not_number tokens) (steps_invalid (get_or numbers 0 0) numbers) is).0 in
      let kind : ℕ = column_type (column_by false) in
      let token : List ℕ = get_or tokens i [] in
      piece_typed (last_number tokens i) kind token (any_none not_number tokens none i [] inside)
      ∙ ap (λ (l : Option ℕ). typed_piece l kind token) (last-same none i inside)
      ∙ typed_by false is i inside

  pub piece_at : (i kind : ℕ) (last : Option ℕ) → i < length tokens
      → kind ≡ column_type (column_for tokens) → last ≡ last_number tokens i
      → piece_of last kind (get_or tokens i []) ≡ get_or (pieces_of (column_for tokens)) i []
  unfolding column_for
  piece_at i kind last inside is before =
      ap₂ (λ (l : Option ℕ) (n : ℕ). piece_of l n (get_or tokens i [])) before is
      ∙ piece_by (not_rising tokens) refl i inside

  -- A piece a token.
  count_by : (test : Bool) → 0 < length tokens → length (pieces_of (column_by test)) ≡ length tokens
  unfolding pieces_of
  count_by true some = length-map tokens _
  count_by false some =
      ap suc (length-map (steps_of numbers) (le_bytes width)) ∙ omega (arith, count-steps tokens)

  pub count_pieces : 0 < length tokens → length (pieces_of (column_for tokens)) ≡ length tokens
  unfolding column_for
  count_pieces some = count_by (not_rising tokens) some

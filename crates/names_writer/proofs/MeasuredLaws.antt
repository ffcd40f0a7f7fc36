-- The columns of some names with one name more. Assumes nothing.
use mathlib.Core.Path.{◌≡◌, refl, sym, ap, ap₂, subst, ◌∙◌}
use Prim.Native.Nat.{ℕ, zero, suc, ◌+◌, ◌-◌, ◌≤◌, ◌<◌}
use native.Mathlib.Numerals.{add-one}
use native.Mathlib.Omega.{arith}
use mathlib.Core.List.{List, [], ◌∷◌, ◌++◌, flat_map, flatten}
use mathlib.Core.List.{append-nil, append_assoc}
use lib.ListN.{replicate, length, get_or, take, drop, length-map, length-append, get_or-map}
use lib.Seq.{take-suc, length-take-le, get_or-take}
use Rattle.std.proofs.lemmas.List.{get_or-replicate, length-replicate}
use Rattle.std.proofs.Common.{Option}
use Rattle.tokens.specs.Columns.{column_type}
use Rattle.tokens.specs.WrittenNames.{split_of, column_for, token_count, tokens_at}
use Rattle.names_writer.specs.declared.column.Column.{Column}
use Rattle.names_writer.specs.Steps.{token_number, kind_byte, kind_with}
use Rattle.names_writer.specs.Rows.{token_of}
use Rattle.names_writer.specs.Columns.{empty, column_at, Grown, RowAdded}
use Rattle.names_writer.specs.Measured.{last_number, string_bytes, Measured}
use Rattle.names_writer.proofs.TokenPartLaws.{split-joined}
use Rattle.names_writer.proofs.KindLaws.{kind-none, kind-next}

-- ---- Tokens

module _ (names : List (List ℕ)) where
  pub length_column : (k : ℕ) → length (tokens_at names k) ≡ length names
  unfolding tokens_at
  length_column k = length-map names _

  pub column_token : (i k : ℕ) → get_or (tokens_at names k) i [] ≡ token_of (get_or names i []) k
  unfolding tokens_at split_of
  column_token i k = get_or-map (λ name. get_or (split_of name) k []) names i []

-- A token is no longer than all of them.
token-length : (tokens : List (List ℕ)) (k : ℕ)
    → length (get_or tokens k []) ≤ length (flatten tokens)
unfolding flatten
token-length [] k = omega arith
token-length (token ∷ tokens) zero = omega (arith, length-append token (flatten tokens))
token-length (token ∷ tokens) (suc k) =
    omega (arith, length-append token (flatten tokens), token-length tokens k)

pub token-short : (name : List ℕ) (k : ℕ) → length (token_of name k) ≤ length name
token-short name k =
    subst (λ (bytes : List ℕ). length (token_of name k) ≤ length bytes) (split-joined name)
    (token-length (split_of name) k)

-- ---- Strings

pub flat_map-snoc : {A : Type 0} (f : A → List ℕ) (list : List A) (x : A)
    → flat_map f (list ++ (x ∷ [])) ≡ flat_map f list ++ f x
unfolding flat_map
flat_map-snoc f [] x = append-nil (f x)
flat_map-snoc f (y ∷ ys) x =
    ap (λ (rest : List ℕ). f y ++ rest) (flat_map-snoc f ys x)
    ∙ sym (append_assoc (f y) (flat_map f ys) (f x))

strings-snoc : (tokens : List (List ℕ)) (token : List ℕ)
    → length (string_bytes (tokens ++ (token ∷ [])))
    ≡ length (string_bytes tokens) + (length token + 1)
unfolding string_bytes
strings-snoc tokens token =
    ap length (flat_map-snoc (λ t. t ++ (0 ∷ [])) tokens token)
    ∙ length-append (flat_map (λ t. t ++ (0 ∷ [])) tokens) (token ++ (0 ∷ []))
    ∙ ap (λ (n : ℕ). length (flat_map (λ t. t ++ (0 ∷ [])) tokens) + n)
    (length-append token (0 ∷ []))

take_more : (tokens : List (List ℕ)) (i : ℕ) → i < length tokens
    → take (i + 1) tokens ≡ take i tokens ++ (get_or tokens i [] ∷ [])
take_more tokens i h =
    ap (λ (k : ℕ). take k tokens) (add-one i) ∙ take-suc tokens i [] h

strings-more : (tokens : List (List ℕ)) (i : ℕ) → i < length tokens
    → length (string_bytes (take (i + 1) tokens))
    ≡ length (string_bytes (take i tokens)) + (length (get_or tokens i []) + 1)
strings-more tokens i h =
    ap (λ (l : List (List ℕ)). length (string_bytes l)) (take_more tokens i h)
    ∙ strings-snoc (take i tokens) (get_or tokens i [])

strings-none : length (string_bytes []) ≡ 0
unfolding string_bytes flat_map
strings-none = refl

-- ---- Rows

-- Before the first name.
pub measured_none : (names : List (List ℕ)) (columns : List Column)
    → length columns ≡ token_count names
    → ((k : ℕ) → k < length columns → column_at columns k ≡ empty) → Measured names 0 columns
unfolding last_number
measured_none names columns counted none =
    record {
      counted = counted;
      kind = λ k h. ap (λ (column : Column). kind_byte column.kind) (none k (omega arith)) ∙ sym kind-none;
      last = λ k h. ap (λ (column : Column). column.last) (none k (omega arith));
      size = λ k h. ap (λ (column : Column). column.size) (none k (omega arith)) ∙ sym strings-none;
      small = λ k h. omega (arith, ap (λ (column : Column). column.size) (none k (omega arith)));
    }

pub room_none : (names : List (List ℕ)) (count : ℕ) → count ≤ 255 → count ≡ token_count names
    → Measured names 0 (take (count - 0) (drop 0 (replicate 255 empty)))
room_none names count most counted =
    let room : List Column = replicate 255 empty in
    let all : length room ≡ 255 = length-replicate 255 empty in
    let size : length (take (count - 0) (drop 0 room)) ≡ count =
    length-take-le (count - 0) room (omega arith) ∙ omega arith in
    measured_none names (take (count - 0) (drop 0 room)) (size ∙ counted)
    (λ k h.
    get_or-take (count - 0) room k _ (omega arith) ∙ get_or-replicate 255 k empty _ (omega arith))

-- One more name.
module _ (names : List (List ℕ)) (columns columns' : List Column) (name : List ℕ)
    (short : length name ≤ 255) where
  pub measured_next : (i : ℕ) → i < length names → Measured names i columns → name ≡ get_or names i []
      → length columns' ≡ length columns → RowAdded name columns columns'
      → Measured names (i + 1) columns'
  unfolding last_number
  measured_next i inside so is same done =
      let token : (k : ℕ) → token_of name k ≡ get_or (tokens_at names k) i [] =
      λ k. ap (λ (n : List ℕ). token_of n k) is ∙ sym (column_token names i k) in
      let grown : (k : ℕ) → k < token_count names
      → Grown (column_at columns k) (token_of name k) (column_at columns' k) =
      λ k h. done.each k (omega (arith, so.counted)) in
      record {
        counted = same ∙ so.counted;
        kind = λ k h.
            (grown k h).kind
            ∙ ap₂ (λ (a : ℕ) (b : Option ℕ). kind_with a b (token_of name k)) (so.kind k h) (so.last k h)
            ∙ ap (kind_with (column_type (column_for (take i (tokens_at names k))))
            (last_number (tokens_at names k) i)) (token k)
            ∙ kind-next (tokens_at names k) i (omega (arith, length_column names k));
        last = λ k h.
            (grown k h).last
            ∙ ap token_number (token k)
            ∙ ap (last_number (tokens_at names k)) (sym (add-one i));
        size = λ k h.
            (grown k h).size
            ∙ ap₂ (λ (a : ℕ) (t : List ℕ). a + (length t + 1)) (so.size k h) (token k)
            ∙ sym (strings-more (tokens_at names k) i (omega (arith, length_column names k)));
        small = λ k h. omega (arith, (grown k h).size, token-short name k, so.small k h);
      }

-- The bytes that a token adds to its column. Assumes nothing.
use mathlib.Core.Path.{◌≡◌, refl, sym, ap, ap₂, ◌∙◌}
use Prim.Native.Nat.{ℕ, ◌+◌, ◌-◌, ◌%◌, ◌≤◌, ◌<◌}
use native.Mathlib.Numerals.{add-one}
use native.Mathlib.Omega.{arith}
use mathlib.Core.Bool.{Bool, true, false, cond, ◌||◌}
use Rattle.std.proofs.Common.{Option, None, Some}
use Rattle.base.proofs.ListLaws.{by_test}
use mathlib.Core.List.{List, [], ◌∷◌, ◌++◌}
use lib.ListN.{length, set, length-append}
use lib.Dec.{eqb}
use Rattle.base.specs.Numbers.{le_bytes}
use Rattle.base.specs.Paste.{pasted}
use Rattle.base.proofs.PasteLaws.{set_pasted, pasted_snoc}
use Rattle.tokens.specs.Columns.{step_type}
use Rattle.names_writer.specs.declared.steps.Kind.{Kind}
use Rattle.names_writer.specs.declared.steps.Kind.TheVariants.{Strings, Steps16, Steps8, Steps32}
use Rattle.tokens.specs.WrittenNames.{not_number, value_of}
use Rattle.names_writer.specs.Steps.{number_of, token_number, kind_byte, kind_width}
use Rattle.names_writer.specs.Pieces.{number_piece, piece_of, typed_piece, written}
use Rattle.names_writer.proofs.ValueLaws.{number_is, number_some, number_lacks}

-- ---- A step

-- The types that are neither of one byte nor of two.
pub width_most : (kind : Kind) → (kind ≡ Steps16 → ⊥) → (kind ≡ Steps8 → ⊥)
    → kind_width (kind_byte kind) ≡ 4
unfolding kind_width step_type
width_most Strings other more = refl
width_most Steps16 other more = absurd (other refl)
width_most Steps8 other more = absurd (more refl)
width_most Steps32 other more = refl

-- A step of one byte.
pub put_one : (out : List ℕ) (at step width : ℕ) → width ≡ 1 → at < length out
    → (set out at (step % 256) ≡ pasted out at (le_bytes width step)) × (at + 1 ≡ at + width)
unfolding le_bytes
put_one out at step width e room = (
  set_pasted out at (step % 256) room
      ∙ ap (λ (w : ℕ). pasted out at (le_bytes w step)) (sym e),
  ap (λ (w : ℕ). at + w) (sym e),
)

-- A step of some bytes, of which only so many are kept.
pub put_many : (out new : List ℕ) (at step width bytes low : ℕ) → width ≡ bytes
    → le_bytes bytes low ≡ le_bytes bytes step → new ≡ pasted out at (le_bytes bytes low)
    → (new ≡ pasted out at (le_bytes width step)) × (at + bytes ≡ at + width)
put_many out new at step width bytes low e same done = (
  done
      ∙ ap (pasted out at) same
      ∙ ap (λ (w : ℕ). pasted out at (le_bytes w step)) (sym e),
  ap (λ (w : ℕ). at + w) (sym e),
)

-- ---- A number

module _ (last : Option ℕ) (width number : ℕ) where
  pub number_first : last ≡ None → number_piece last width number ≡ le_bytes 8 number
  unfolding number_piece
  number_first e = ap (λ (l : Option ℕ). number_piece l width number) e

  pub number_next : (previous : ℕ) → last ≡ Some previous
      → number_piece last width number ≡ le_bytes width (number - previous)
  unfolding number_piece
  number_next previous e = ap (λ (l : Option ℕ). number_piece l width number) e

-- ---- A piece

module _ (last : Option ℕ) (kind : ℕ) (token : List ℕ) where
  pub typed_string : eqb kind 0 ≡ true → typed_piece last kind token ≡ token ++ (0 ∷ [])
  unfolding typed_piece
  typed_string e = rw e

  pub typed_number : (number : ℕ) → eqb kind 0 ≡ false → number ≡ number_of token
      → typed_piece last kind token ≡ number_piece last (kind_width kind) number
  unfolding typed_piece
  typed_number number other e =
      ap (λ (s : Bool). cond s (token ++ (0 ∷ []))
      (number_piece last (kind_width kind) (number_of token))) other
      ∙ ap (number_piece last (kind_width kind)) (sym e)

  pub piece_string : eqb kind 0 ≡ true → piece_of last kind token ≡ token ++ (0 ∷ [])
  unfolding piece_of
  piece_string e = rw e

  pub piece_none : None ≡ token_number token → piece_of last kind token ≡ token ++ (0 ∷ [])
  unfolding piece_of
  piece_none e =
      by_test (eqb kind 0) (λ yes. rw yes) (λ no. rw (no, number_lacks token e))

  -- A token that is a number is written as the type says.
  pub piece_typed : not_number token ≡ false
      → piece_of last kind token ≡ typed_piece last kind token
  unfolding piece_of typed_piece
  piece_typed some =
      ap (λ (n : ℕ). cond (eqb kind 0 || not_number token) (token ++ (0 ∷ []))
      (number_piece last (kind_width kind) n)) (sym (number_is token some))
      ∙ by_test (eqb kind 0) (λ yes. rw yes) (λ no. rw (no, some))

  pub piece_number : (number : ℕ) → eqb kind 0 ≡ false → Some number ≡ token_number token
      → piece_of last kind token ≡ number_piece last (kind_width kind) number
  piece_number number other e =
      let some = number_some token number e in
      piece_typed some.digits
      ∙ typed_number number other (some.is ∙ sym (number_is token some.digits))

-- The type may be given by its byte.
pub typed_kind : (last : Option ℕ) (kind byte : ℕ) (token : List ℕ) → eqb kind 0 ≡ eqb byte 0
    → kind_width kind ≡ kind_width byte → typed_piece last kind token ≡ typed_piece last byte token
unfolding typed_piece
typed_kind last kind byte token e f =
    ap₂ (λ (s : Bool) (w : ℕ). cond s (token ++ (0 ∷ []))
    (number_piece last w (number_of token))) e f

pub piece_kind : (last : Option ℕ) (kind byte : ℕ) (token : List ℕ) → eqb kind 0 ≡ eqb byte 0
    → kind_width kind ≡ kind_width byte → piece_of last kind token ≡ piece_of last byte token
unfolding piece_of
piece_kind last kind byte token e f =
    ap₂ (λ (s : Bool) (w : ℕ). cond (s || not_number token) (token ++ (0 ∷ []))
    (number_piece last w (value_of token))) e f

-- Bytes, then a zero byte.
pub put-string : (out new token : List ℕ) (at end : ℕ) → at + length (token ++ (0 ∷ [])) ≤ length out
    → end ≡ at + length token → new ≡ pasted out at token
    → (set new end 0 ≡ pasted out at (token ++ (0 ∷ []))) × (end + 1 ≡ at + length (token ++ (0 ∷ [])))
put-string out new token at end room there e =
    let size : length (token ++ (0 ∷ [])) ≡ length token + 1 = length-append token (0 ∷ []) in
    (pasted_snoc out new at end token 0 (omega arith) there e, omega arith)

-- What is written is the piece.
pub piece_done : (out new piece bytes : List ℕ) (at r : ℕ) → piece ≡ bytes
    → (new ≡ pasted out at bytes) × (r ≡ at + length bytes)
    → (new ≡ pasted out at piece) × (r ≡ at + length piece)
piece_done out new piece bytes at r e done = (
  done.0 ∙ ap (pasted out at) (sym e),
  done.1 ∙ ap (λ (x : List ℕ). at + length x) (sym e),
)

-- One more piece is written.
pub written-turn : (buffer : List ℕ) (place : ℕ → ℕ) (piece : ℕ → List ℕ) (k : ℕ)
    (now new bytes : List ℕ) (at : ℕ) → now ≡ written buffer place piece k → at ≡ place k
    → bytes ≡ piece k → new ≡ pasted now at bytes → new ≡ written buffer place piece (k + 1)
unfolding written
written-turn buffer place piece k now new bytes at so there same e =
    e
    ∙ ap₂ (λ (b : List ℕ) (x : List ℕ). pasted b at x) so same
    ∙ ap (λ (p : ℕ). pasted (written buffer place piece k) p (piece k)) there
    ∙ ap (written buffer place piece) (sym (add-one k))

pub written_start : (buffer : List ℕ) (place : ℕ → ℕ) (piece : ℕ → List ℕ)
    → buffer ≡ written buffer place piece 0
unfolding written
written_start buffer place piece = refl

-- Codes cut into chunks of as many as fill a byte, the last of them maybe shorter. Assumes nothing.
use mathlib.Core.Path.{◌≡◌, refl, sym, ap, ◌∙◌}
use Prim.Native.Nat.{ℕ, ◌+◌, ◌-◌, ◌*◌, ◌/◌, ◌≤◌, ◌<◌, min}
use native.Mathlib.Nat.{add-mul, one-mul, div-lt_iff_lt-mul}
use native.Mathlib.Omega.{arith}
use mathlib.Core.List.{List, [], ◌∷◌, ◌++◌}
use lib.ListN.{length, get_or, drop, length-drop, length-append, get_or-append, get_or-eq_default}
use lib.ListN.{drop_of_length-le}
use lib.Arith.{digits_div}
use lib.Seq.{drop-drop, drop_at, get_or-drop}
use Rattle.base.specs.Lists.{build}
use Rattle.base.specs.Packed.{byte_of, packed_length, pack}
use Rattle.base.specs.Paste.{pasted}
use Rattle.base.proofs.ListLaws.{by_order}
use Rattle.base.proofs.PackedLaws.{byte_of_cong, byte_of_symbol}
use Rattle.base.proofs.PackedPasteLaws.{packed_byte}

-- A list of length 0.
empty : (list : List ℕ) → length list ≡ 0 → list ≡ []
empty [] e = refl
empty (x ∷ xs) e = absurd (omega arith)

module _ (per : ℕ) (some : 0 < per) (codes rest : List ℕ) (k : ℕ) (left : rest ≡ drop (k * per) codes) where
  length_left : length rest ≡ length codes - k * per
  length_left = ap length left ∙ length-drop (k * per) codes

  -- A chunk that has codes has a byte.
  pub chunk_inside : 0 < length rest → k < packed_length per (length codes)
  chunk_inside more =
      let place : (k * per + 0) / per ≡ k = digits_div k some in
      omega (
        arith,
        place,
        byte_of_symbol per (k * per + 0) (length codes) some (omega (arith, length_left)),
      )

  -- Where no codes are left all bytes are written.
  chunks_end : length rest ≡ 0 → k ≤ packed_length per (length codes)
      → k ≡ packed_length per (length codes)
  unfolding packed_length
  chunks_end none most =
      let enough : packed_length per (length codes) < k + 1 =
      (div-lt_iff_lt-mul some).1 (omega (arith, length_left, add-mul k 1 per, one-mul per)) in
      omega arith

  pub chunks_written : (base : ℕ) (buffer out : List ℕ) (at : ℕ) → length rest ≡ 0
      → k ≤ packed_length per (length codes) → out ≡ pasted buffer at (build k (packed_byte base per codes))
      → out ≡ pasted buffer at (pack base per codes)
  unfolding pack
  chunks_written base buffer out at none most written =
      written ∙ ap (λ (n : ℕ). pasted buffer at (build n (packed_byte base per codes))) (chunks_end none most)

  module _ (part after : List ℕ) (split : rest ≡ part ++ after) (long : length part ≡ min per (length rest)) where
    -- After a chunk come the codes of the next one.
    pub chunk_after : after ≡ drop ((k + 1) * per) codes
    chunk_after =
        by_order (length rest) per
        (λ short.
        let none : length after ≡ 0 = omega (arith, long, ap length split ∙ length-append part after) in
        let past : length codes ≤ (k + 1) * per = omega (arith, length_left, add-mul k 1 per, one-mul per) in
        empty after none ∙ sym (drop_of_length-le codes past))
        (λ full.
        sym (drop_at part after per (omega (arith, long)))
        ∙ ap (drop per) (sym split ∙ left)
        ∙ drop-drop per (k * per) codes
        ∙ ap (λ (n : ℕ). drop n codes) (omega (arith, add-mul k 1 per, one-mul per)))

    -- The byte of a chunk.
    pub chunk_byte : (base : ℕ) → byte_of base per (λ j. get_or part j 0) ≡ packed_byte base per codes k
    chunk_byte base =
        byte_of_cong base per _ _
        (λ j h.
        by_order j (length part)
        (λ inside. sym (get_or-append part after 0 j inside) ∙ ap (λ (l : List ℕ). get_or l j 0) (sym split))
        (λ past.
        get_or-eq_default part 0 past ∙ sym (get_or-eq_default rest 0 (omega (arith, long))))
        ∙ ap (λ (l : List ℕ). get_or l j 0) left
        ∙ get_or-drop (k * per) codes j 0)

-- Copying a string up to its zero byte. Assumes nothing.
use mathlib.Core.Path.{◌≡◌, sym, ap, ◌∙◌}
use mathlib.Core.Bool.{true}
use mathlib.Core.List.{List, [], ◌∷◌, ◌++◌}
use Prim.Native.Nat.{ℕ, ◌+◌, ◌≤◌, ◌<◌}
use native.Mathlib.Numerals.{add-one}
use native.Mathlib.Omega.{arith}
use lib.ListN.{length, get_or, take, drop, set, length-drop}
use lib.Seq.{take-suc, length-take-le}
use Rattle.base.specs.Lists.{member, index_of}
use Rattle.base.specs.Paste.{pasted}
use Rattle.base.proofs.ListLaws.{by_order}
use Rattle.base.proofs.IndexLaws.{index-found, index-before}
use Rattle.base.proofs.PasteLaws.{pasted_snoc}
use Rattle.tokens.specs.ColumnsAt.{string_length}

module _ (section : List ℕ) (place : ℕ) (ends : member 0 (drop place section) ≡ true) where
  abbrev rest : List ℕ
  rest = drop place section

  -- The zero byte is inside the section.
  pub string_inside : place + string_length section place < length section
  unfolding string_length
  string_inside = omega (arith, (index-found 0 rest ends).0, length-drop place section)

  -- A byte that is not zero stands before it.
  pub copy_more : (size : ℕ) → size ≤ string_length section place
      → (get_or (drop place section) size 0 ≡ 0 → ⊥) → size < string_length section place
  unfolding string_length
  copy_more size h some =
      by_order size (index_of 0 rest) (λ less. less)
      (λ more.
      let e : size ≡ index_of 0 rest = omega arith in
      absurd (some (ap (λ (n : ℕ). get_or rest n 0) e ∙ (index-found 0 rest ends).1)))

  -- The first zero byte is it.
  pub copy_end : (size : ℕ) → size ≤ string_length section place
      → get_or (drop place section) size 0 ≡ 0 → size ≡ string_length section place
  unfolding string_length
  copy_end size h e =
      by_order size (index_of 0 rest)
      (λ less. absurd (index-before 0 rest size less e))
      (λ more. omega arith)

  -- One byte more is copied.
  pub copy_turn : (buffer out : List ℕ) (at size byte : ℕ)
      → at + string_length section place ≤ length buffer → size < string_length section place
      → byte ≡ get_or (drop place section) size 0
      → out ≡ pasted buffer at (take size (drop place section))
      → set out (at + size) byte ≡ pasted buffer at (take (size + 1) (drop place section))
  unfolding string_length
  copy_turn buffer out at size byte room less is e =
      let long : size < length rest = omega (arith, (index-found 0 rest ends).0) in
      let sized : length (take size rest) ≡ size = length-take-le size rest (omega arith) in
      pasted_snoc buffer out at (at + size) (take size rest) byte (omega arith) (omega arith) e
      ∙ ap (λ (b : ℕ). pasted buffer at (take size rest ++ (b ∷ []))) is
      ∙ ap (pasted buffer at) (sym (take-suc rest size 0 long))
      ∙ ap (λ (n : ℕ). pasted buffer at (take n rest)) (sym (add-one size))

-- Packed bytes that are written in pieces: whole bytes of one end of a read, and bytes in which an
-- end stops. Assumes nothing.
use mathlib.Core.Path.{◌≡◌, sym, ap, ◌∙◌}
use Prim.Native.Nat.{ℕ, zero, ◌+◌, ◌-◌, ◌*◌, ◌/◌, ◌%◌, ◌≤◌, ◌<◌}
use native.Mathlib.Omega.{arith}
use mathlib.Core.List.{List, [], ◌∷◌}
use lib.ListN.{length, get_or, take, drop, set, replicate, length-drop, length-replicate}
use lib.ListN.{get_or-replicate, get_or-eq_default}
use lib.Seq.{ext_get_or, get_or-take, get_or-drop, length-take-le, drop-cons}
use Rattle.base.specs.Lists.{build, part}
use Rattle.base.specs.Packed.{byte_of, packed_length, pack}
use Rattle.base.specs.Paste.{pasted}
use Rattle.base.proofs.ListLaws.{by_order, length-build, get_or-build}
use Rattle.base.proofs.PackedLaws.{length-pack, packed_length-holds, packed_length-full}
use Rattle.base.proofs.PackedLaws.{packed_length_partial}
use Rattle.base.proofs.PaddingLaws.{pack-padding}
use Rattle.base.proofs.PackedPasteLaws.{packed_byte}
use Rattle.base.proofs.PasteLaws.{pasted_nil, set_pasted}
use Rattle.base.proofs.FilledLaws.{Filled, filled_more}
use Rattle.dna.specs.Record.{packed_bytes}
use Rattle.format.specs.RuleRecord.{padded}

-- ---- Parts of a list

part_length : (list : List ℕ) (from count : ℕ) → from + count ≤ length list
    → length (part list from count) ≡ count
part_length list from count fits =
    length-take-le count (drop from list) (omega (arith, length-drop from list))

part-one : (list : List ℕ) (from : ℕ) → from < length list
    → part list from 1 ≡ get_or list from 0 ∷ []
part-one list from inside = ap (take 1) (drop-cons list from 0 inside)

-- A list that is built of the elements of a part is that part.
pub build-part : (list : List ℕ) (from count : ℕ) (f : ℕ → ℕ) → from + count ≤ length list
    → ((k : ℕ) → k < count → f k ≡ get_or list (from + k) 0) → build count f ≡ part list from count
build-part list from count f fits same =
    ext_get_or 0 (build count f) (part list from count)
    (length-build count f ∙ sym (part_length list from count fits))
    (λ k h.
    let inside : k < count = omega (arith, length-build count f) in
    get_or-build count f k 0 inside
    ∙ same k inside
    ∙ sym (get_or-take count (drop from list) k 0 inside ∙ get_or-drop from list k 0))

-- A part is written at its own place: it may overlap what stands, and leaves no gap.
pub filled-part : {old now : List ℕ} {at : ℕ} {list : List ℕ} {done : ℕ} (new : List ℕ)
    (place from count more : ℕ) → Filled old now at list done → at + length list ≤ length old
    → new ≡ pasted now place (part list from count) → place ≡ at + from → from ≤ done
    → from + count ≤ length list → more ≤ from + count → Filled old new at list more
filled-part {list = list} new place from count more filled room written there near inside least =
    let size : length (part list from count) ≡ count = part_length list from count inside in
    filled_more new (part list from count) place from more filled room written there near
    (omega arith) (omega arith)
    (λ k h. get_or-take count (drop from list) k 0 (omega arith) ∙ get_or-drop from list k 0)

-- ---- Packed bytes

pub get_or-pack : (base per : ℕ) (symbols : List ℕ) (j : ℕ) → j < packed_length per (length symbols)
    → get_or (pack base per symbols) j 0 ≡ packed_byte base per symbols j
unfolding pack
get_or-pack base per symbols j h =
    get_or-build (packed_length per (length symbols)) (packed_byte base per symbols) j 0 h

-- Padding of 0 changes nothing.
pub packed-padded : (base per : ℕ) (codes : List ℕ) → 0 < per
    → packed_bytes base per (padded per codes) ≡ pack base per codes
unfolding packed_bytes padded
packed-padded base per codes some =
    let n : ℕ = packed_length per (length codes) * per - length codes in
    pack-padding base per codes (replicate n 0) some
    (λ k.
    by_order k n (λ h. get_or-replicate n k 0 0 h)
    (λ h. get_or-eq_default (replicate n 0) 0 (omega (arith, length-replicate n zero))))
    (omega (
      arith,
      length-replicate n zero,
      packed_length-holds per (length codes) some,
    ))

-- The byte in which the first n symbols stop, where they do not fill it.
module _ (symbols out : List ℕ) (place n : ℕ) where
  abbrev piece : List ℕ
  piece = part (pack 4 4 symbols) (n / 4) (packed_length 4 n - n / 4)

  pub piece_none : n % 4 ≡ 0 → out ≡ pasted out place piece
  piece_none full =
      let none : packed_length 4 n - n / 4 ≡ 0 = omega (
        arith,
        packed_length-full 4 n (omega arith)
            full,
      ) in
      sym (pasted_nil out place)
      ∙ ap (λ (m : ℕ). pasted out place (part (pack 4 4 symbols) (n / 4) m)) (sym none)

  pub piece_one : (byte : ℕ) → 0 < n % 4 → n ≤ length symbols → place < length out
      → byte ≡ byte_of 4 4 (λ k. get_or symbols (n / 4 * 4 + k) 0)
      → set out place byte ≡ pasted out place piece
  unfolding packed_length
  piece_one byte some most inside is =
      let one : packed_length 4 n - n / 4 ≡ 1 =
      omega (arith, packed_length_partial 4 n (omega arith) some) in
      let there : n / 4 < length (pack 4 4 symbols) = omega (arith, length-pack 4 4 symbols) in
      set_pasted out place byte inside
      ∙ ap (λ (x : ℕ). pasted out place (x ∷ []))
      (is ∙ sym (get_or-pack 4 4 symbols (n / 4) (omega arith)))
      ∙ ap (pasted out place)
      (sym (part-one (pack 4 4 symbols) (n / 4) there)
      ∙ ap (part (pack 4 4 symbols) (n / 4)) (sym one))

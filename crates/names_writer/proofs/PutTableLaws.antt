-- The table before the columns, as code writes it. Assumes nothing.
use mathlib.Core.Path.{◌≡◌, refl, sym, ap, ap₂, subst, ◌∙◌}
use Prim.Native.Nat.{ℕ, ◌+◌, ◌*◌, ◌≤◌, ◌<◌}
use native.Mathlib.Numerals.{add-one}
use native.Mathlib.Omega.{arith}
use mathlib.Core.List.{List, [], ◌∷◌, ◌++◌, map, flat_map}
use lib.ListN.{length, get_or, take, length-append, length-map}
use lib.Seq.{take-suc, take-take, length-take-le}
use Rattle.base.specs.Lists.{total}
use Rattle.base.specs.Numbers.{le_bytes}
use Rattle.base.specs.Paste.{pasted}
use Rattle.base.specs.Place.{At}
use Rattle.base.proofs.AtLaws.{at_part}
use Rattle.base.proofs.NumberLaws.{length-le_bytes}
use Rattle.base.proofs.PasteLaws.{pasted_nil, pasted_then}
use Rattle.base.proofs.SumLaws.{total-take-suc, total-take-le}
use Rattle.tokens.specs.Columns.{Column, column_type, column_bytes}
use Rattle.names_writer.specs.Pieces.{table_of}
use Rattle.names_writer.proofs.MeasuredLaws.{flat_map-snoc}
use Rattle.names_writer.proofs.SectionLaws.{length-steps}
use Rattle.names_writer.proofs.TableLaws.{table_bytes}

-- ---- The sizes, of 8 bytes each

pub lengths-start : (out sizes : List ℕ) (at : ℕ)
    → out ≡ pasted out at (flat_map (le_bytes 8) (take 0 sizes))
unfolding flat_map
lengths-start out sizes at = sym (pasted_nil out at)

pub lengths-turn : (out now new sizes : List ℕ) (at k : ℕ) → k < length sizes
    → at + 8 * (k + 1) ≤ length out → now ≡ pasted out at (flat_map (le_bytes 8) (take k sizes))
    → new ≡ pasted now (at + 8 * k) (le_bytes 8 (get_or sizes k 0))
    → new ≡ pasted out at (flat_map (le_bytes 8) (take (k + 1) sizes))
lengths-turn out now new sizes at k inside room so e =
    let part : List ℕ = flat_map (le_bytes 8) (take k sizes) in
    let size : length part ≡ 8 * k =
    length-steps 8 (take k sizes)
    ∙ ap (λ (n : ℕ). 8 * n) (length-take-le k sizes (omega arith)) in
    pasted_then out now new at (at + 8 * k) part (le_bytes 8 (get_or sizes k 0)) (omega arith)
    (omega arith) so e
    ∙ ap (pasted out at)
    (sym (ap (λ (n : ℕ). flat_map (le_bytes 8) (take n sizes)) (add-one k)
    ∙ ap (flat_map (le_bytes 8)) (take-suc sizes k 0 inside)
    ∙ flat_map-snoc (le_bytes 8) (take k sizes) (get_or sizes k 0)))

-- ---- The starts

pub start-turn : (start : ℕ) (sizes : List ℕ) (k : ℕ)
    → start + total (take k sizes) + get_or sizes k 0 ≡ start + total (take (k + 1) sizes)
start-turn start sizes k =
    omega (
      arith,
      total-take-suc sizes k,
      ap (λ (n : ℕ). total (take n sizes)) (add-one k),
    )

pub start-most : (sizes : List ℕ) (k count : ℕ) → k ≤ count
    → total (take k sizes) ≤ total (take count sizes)
start-most sizes k count h =
    subst (λ (l : List ℕ). total l ≤ total (take count sizes)) (take-take k count sizes h)
    (total-take-le (take count sizes) k)

-- ---- The table

-- The count, the types and the sizes, one after the other.
pub table_done : (out first second third kinds sizes : List ℕ) (at count n low : ℕ)
    → n ≡ count → low ≡ count
    → count ≤ length kinds → count ≤ length sizes → at + (4 + 9 * count) ≤ length out
    → first ≡ pasted out at (le_bytes 4 low)
    → second ≡ pasted first (at + 4) (take n kinds)
    → third ≡ pasted second (at + 4 + count) (flat_map (le_bytes 8) (take count sizes))
    → third ≡ pasted out at (table_of kinds sizes count)
unfolding table_of
table_done out first second third kinds sizes at count n low e f kinds_room sizes_room room one two
    three =
    let a : List ℕ = le_bytes 4 count in
    let b : List ℕ = take count kinds in
    let size-a : length a ≡ 4 = length-le_bytes 4 count in
    let size-b : length b ≡ count = length-take-le count kinds kinds_room in
    let both : second ≡ pasted out at (a ++ b) =
    pasted_then out first second at (at + 4) a b (omega arith) (omega arith)
    (one ∙ ap (λ (x : ℕ). pasted out at (le_bytes 4 x)) f)
    (two ∙ ap (λ (x : ℕ). pasted first (at + 4) (take x kinds)) e) in
    pasted_then out second third at (at + 4 + count) (a ++ b) (flat_map (le_bytes 8) (take count sizes))
    (omega (arith, length-append a b)) (omega (arith, length-append a b)) both three

flat_map-map : (columns : List Column)
    → flat_map (le_bytes 8) (map (λ column. length (column_bytes column)) columns)
    ≡ flat_map (λ column. le_bytes 8 (length (column_bytes column))) columns
unfolding flat_map
flat_map-map [] = refl
flat_map-map (column ∷ columns) =
    ap (λ (rest : List ℕ). le_bytes 8 (length (column_bytes column)) ++ rest) (flat_map-map columns)

whole_part : (list part : List ℕ) (count : ℕ) → At list 0 part → count ≡ length part
    → take count list ≡ part
whole_part list part count stands e = ap (λ (n : ℕ). take n list) e ∙ at_part part stands

-- It is that of the columns.
pub table_is : (columns : List Column) (kinds sizes : List ℕ) (count : ℕ) → count ≡ length columns
    → At kinds 0 (map column_type columns)
    → At sizes 0 (map (λ column. length (column_bytes column)) columns)
    → table_of kinds sizes count ≡ table_bytes columns
unfolding table_of table_bytes
table_is columns kinds sizes count e typed sized =
    let types : List ℕ = map column_type columns in
    let lengths : List ℕ = map (λ column. length (column_bytes column)) columns in
    ap₂ (λ (n : ℕ) (l : List ℕ). le_bytes 4 n ++ l ++ flat_map (le_bytes 8) (take count sizes)) e
    (whole_part kinds types count typed (e ∙ sym (length-map columns column_type)))
    ∙ ap (λ (l : List ℕ). le_bytes 4 (length columns) ++ types ++ l)
    (ap (flat_map (le_bytes 8))
    (whole_part sizes lengths count sized
    (e ∙ sym (length-map columns (λ column. length (column_bytes column)))))
    ∙ flat_map-map columns)

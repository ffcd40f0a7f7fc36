-- What a size section stores is its answer (01, Lengths). Assumes nothing.
use mathlib.Core.Path.{◌≡◌, refl, sym, ap, ap₂, ◌∙◌, subst}
use Prim.Native.Nat.{ℕ, suc, ◌+◌, ◌≤◌, ◌<◌}
use native.Mathlib.Omega.{arith}
use mathlib.Core.Bool.{Bool, false}
use mathlib.Core.List.{List, [], ◌∷◌, ◌++◌, map, flat_map, flatten}
use lib.ListN.{length, get_or, length-append}
use lib.Dec.{ltb, eqb}
use borrow.Author.Tests.{le-ltb, ltb-false}
use Rattle.base.specs.Lists.{any, All}
use Rattle.base.specs.Groups.{in_groups, group_sizes, byte_bit_stray, flag_byte}
use Rattle.base.specs.Place.{At}
use Rattle.base.specs.Answer.{found}
use Rattle.base.proofs.AtLaws.{at_self, at_left, at_right, at_head, at_tail, at-to}
use Rattle.base.proofs.GroupLaws.{flatten-in_groups, all-in_groups, sizes-in_groups, in_groups-small}
use Rattle.base.proofs.Tests.{or-neither, neither_or}
use Rattle.base.proofs.FlagByteLaws.{BitsAre, flag-bits, flag-clear}
use Rattle.base.proofs.AnswerLaws.{checked-none, and_then-found}
use Rattle.dna.specs.Sizes.{max_read_length, StoredSize, same, in_byte, in_words, is_same}
use Rattle.dna.specs.Sizes.{is_in_byte, stored_bytes, size_group_bytes, size_section_bytes}
use Rattle.dna.specs.Sizes.{lengths_from, length_invalid, SizesStored}
use Rattle.dna.specs.SizesAt.{words_at, stored_at, stored_sizes_at, size_group_at, size_groups_at}
use Rattle.dna.specs.SizesAt.{sizes_answer}
use Rattle.dna.proofs.VarintLaws.{varint16-find}

-- A size in words is in range, so that it is found.
abbrev InRange : (stored : StoredSize) → Type 0
InRange same = Unit {0}
InRange (in_byte size) = Unit {0}
InRange (in_words size) = size < suc max_read_length

stored-find : (stored : StoredSize) {list : List ℕ} {at : ℕ} → InRange stored → at ≤ length list → At list at (stored_bytes stored)
    → stored_at (is_same stored) (is_in_byte stored) list at ≡ found stored (at + length (stored_bytes stored))
unfolding stored_at stored_bytes is_same is_in_byte words_at any
stored-find same range h a = checked-none _ _ _ refl ∙ ap (found same) (omega arith)
stored-find (in_byte size) {list} {at} range h a =
    checked-none _ _ _ refl
    ∙ checked-none _ _ _ (neither_or _ _ (le-ltb (length list) (at + 1) (omega (arith, a.fits))) refl)
    ∙ ap (λ (x : ℕ). found (in_byte x) (at + 1)) (at_head a)
stored-find (in_words size) {list} {at} range h a =
    checked-none _ _ _ refl
    ∙ and_then-found _ (varint16-find size (suc max_read_length) 0 (omega arith) a) refl

sizes-find : (same_byte size_byte place : ℕ) (group : List StoredSize) {list : List ℕ} {at : ℕ} → All InRange group → BitsAre is_same same_byte place group
    → BitsAre is_in_byte size_byte place group → at ≤ length list → At list at (flat_map stored_bytes group)
    → stored_sizes_at (length group) same_byte size_byte place list at ≡ found group (at + length (flat_map stored_bytes group))
unfolding stored_sizes_at flat_map
sizes-find same_byte size_byte place [] range s b h a = ap (found []) (omega arith)
sizes-find same_byte size_byte place (stored ∷ group) {list} {at} range s b h a =
    let rest : List ℕ = flat_map stored_bytes group in
    and_then-found _
    (ap₂ (λ (x y : Bool). stored_at x y list at) s.0 b.0
    ∙ stored-find stored range.0 h (at_left (stored_bytes stored) rest a))
    (and_then-found _
    (sizes-find same_byte size_byte (suc place) group range.1 s.1 b.1 (omega (arith, a.fits, length-append (stored_bytes stored) rest))
    (at_right (stored_bytes stored) rest a))
    (ap (found (stored ∷ group)) (omega (arith, length-append (stored_bytes stored) rest))))

group-find : (group : List StoredSize) {list : List ℕ} {at : ℕ} → length group ≤ 8 → All InRange group → At list at (size_group_bytes group)
    → size_group_at (length group) list at ≡ found group (at + length (size_group_bytes group))
unfolding size_group_at size_group_bytes any
group-find group {list} {at} small range a =
    let first : get_or list at 0 ≡ flag_byte is_same group = at_head a in
    let second : get_or list (at + 1) 0 ≡ flag_byte is_in_byte group = at_head (at_tail a) in
    checked-none _ _ _
    (neither_or _ _ (le-ltb (length list) (at + 2) (omega (arith, a.fits)))
    (neither_or _ _ (ap (byte_bit_stray (length group)) first ∙ flag-clear is_same group)
    (neither_or _ _ (ap (byte_bit_stray (length group)) second ∙ flag-clear is_in_byte group) refl)))
    ∙ ap₂ (λ (x y : ℕ). stored_sizes_at (length group) x y 0 list (at + 2)) first second
    ∙ sizes-find (flag_byte is_same group) (flag_byte is_in_byte group) 0 group range (flag-bits is_same group small) (flag-bits is_in_byte group small)
    (omega (arith, a.fits)) (at-to _ _ (omega arith) (at_tail (at_tail a)))
    ∙ ap (found group) (omega arith)

groups-find : (groups : List (List StoredSize)) {list : List ℕ} {at : ℕ} → All (λ g. length g ≤ 8) groups → All (All InRange) groups
    → at ≤ length list → At list at (flat_map size_group_bytes groups)
    → size_groups_at (map length groups) list at ≡ found (flatten groups) (at + length (flat_map size_group_bytes groups))
unfolding size_groups_at flat_map flatten
groups-find [] small range h a = ap (found []) (omega arith)
groups-find (group ∷ groups) {list} {at} small range h a =
    let rest : List ℕ = flat_map size_group_bytes groups in
    and_then-found _ (group-find group small.0 range.0 (at_left (size_group_bytes group) rest a))
    (and_then-found _
    (groups-find groups small.1 range.1 (omega (arith, a.fits, length-append (size_group_bytes group) rest)) (at_right (size_group_bytes group) rest a))
    (ap (found (group ++ flatten groups)) (omega (arith, length-append (size_group_bytes group) rest))))

pub length-lengths_from : (previous : ℕ) (stored : List StoredSize) → length (lengths_from previous stored) ≡ length stored
unfolding lengths_from
length-lengths_from previous [] = refl
length-lengths_from previous (same ∷ rest) = ap suc (length-lengths_from previous rest)
length-lengths_from previous (in_byte size ∷ rest) = ap suc (length-lengths_from size rest)
length-lengths_from previous (in_words size ∷ rest) = ap suc (length-lengths_from size rest)

range-from : (previous : ℕ) (stored : List StoredSize) → any length_invalid (lengths_from previous stored) ≡ false → All InRange stored
unfolding lengths_from any length_invalid
range-from previous [] e = tt
range-from previous (same ∷ rest) e = (tt, range-from previous rest (or-neither (length_invalid previous) _ e).1)
range-from previous (in_byte size ∷ rest) e = (tt, range-from size rest (or-neither (length_invalid size) _ e).1)
range-from previous (in_words size ∷ rest) e =
    let parts = or-neither (length_invalid size) _ e in
    let range = or-neither (eqb size 0) (ltb max_read_length size) parts.0 in
    (omega (arith, ltb-false max_read_length size range.1), range-from size rest parts.1)

-- What a size section stores is its answer, to the section's end.
pub sizes-answer : (n : ℕ) (section lengths : List ℕ) → SizesStored section lengths → length lengths ≡ n
    → sizes_answer n section ≡ found lengths (length section)
unfolding sizes_answer size_section_bytes any
sizes-answer n section lengths s count =
    let stored : List StoredSize = s.stored in
    let many : length stored ≡ n = sym (length-lengths_from 0 stored) ∙ ap length s.lengths_are ∙ count in
    let sizes : map length (in_groups stored) ≡ group_sizes n = sizes-in_groups stored ∙ ap group_sizes many in
    let range : any length_invalid (lengths_from 0 stored) ≡ false = ap (any length_invalid) s.lengths_are ∙ s.in_range in
    let whole : At section 0 (flat_map size_group_bytes (in_groups stored)) =
    subst (λ (bytes : List ℕ). At bytes 0 (flat_map size_group_bytes (in_groups stored))) s.bytes (at_self _) in
    let end : 0 + length (flat_map size_group_bytes (in_groups stored)) ≡ length section = omega (arith, ap length s.bytes) in
    and_then-found _
    (ap (λ (counts : List ℕ). size_groups_at counts section 0) (sym sizes)
    ∙ groups-find (in_groups stored) (in_groups-small stored) (all-in_groups InRange stored (range-from 0 stored range)) (omega arith) whole
    ∙ ap₂ found (flatten-in_groups stored) end)
    (checked-none _ _ _
    (neither_or _ _ (le-ltb (length section) (length section) (omega arith))
    (neither_or _ _ s.first (neither_or _ _ range refl)))
    ∙ ap (λ (l : List ℕ). found l (length section)) s.lengths_are)

-- A size section is a list of bytes: what is stored fits its form. Assumes nothing.
use Prim.Native.Nat.{ℕ}
use mathlib.Core.List.{List, [], ◌∷◌, flat_map}
use Rattle.base.specs.Lists.{AllBytes, All}
use Rattle.base.specs.Groups.{in_groups}
use Rattle.base.proofs.ListLaws.{below-nil, below-cons, below-append}
use Rattle.base.proofs.GroupLaws.{all-in_groups}
use Rattle.base.proofs.FlagByteLaws.{flag_byte-byte}
use Rattle.base.proofs.NumberLaws.{le_bytes-bytes}
use Rattle.dna.specs.Varint16.{varint16_words, varint16_bytes}
use Rattle.dna.specs.Sizes.{StoredSize, same, in_byte, in_words, stored_bytes, size_group_bytes}
use Rattle.dna.specs.Sizes.{size_section_bytes, StoredFits}

-- Bytes of a list, element by element.
pub flat_map-bytes {ℓ} : {A : Type ℓ} (f : A → List ℕ) (list : List A) → ((x : A) → AllBytes (f x)) → AllBytes (flat_map f list)
unfolding flat_map
flat_map-bytes f [] h = below-nil 256
flat_map-bytes f (x ∷ xs) h = below-append (f x) (flat_map f xs) (h x) (flat_map-bytes f xs h)

pub varint16-bytes : (number : ℕ) → AllBytes (varint16_bytes number)
unfolding varint16_bytes
varint16-bytes number = flat_map-bytes _ (varint16_words number) (λ word. le_bytes-bytes 2 word)

stored_bytes_lem : (stored : StoredSize) → StoredFits stored → AllBytes (stored_bytes stored)
unfolding stored_bytes
stored_bytes_lem same h = below-nil 256
stored_bytes_lem (in_byte size) h = below-cons size [] h (below-nil 256)
stored_bytes_lem (in_words size) h = varint16-bytes size

group-bytes : (group : List StoredSize) → All StoredFits group → AllBytes (flat_map stored_bytes group)
unfolding flat_map
group-bytes [] h = below-nil 256
group-bytes (stored ∷ group) h =
    below-append (stored_bytes stored) (flat_map stored_bytes group) (stored_bytes_lem stored h.0) (group-bytes group h.1)

size_group-bytes : (group : List StoredSize) → All StoredFits group → AllBytes (size_group_bytes group)
unfolding size_group_bytes
size_group-bytes group h =
    below-cons _ _ (flag_byte-byte _ group) (below-cons _ _ (flag_byte-byte _ group) (group-bytes group h))

groups-bytes : (groups : List (List StoredSize)) → All (All StoredFits) groups → AllBytes (flat_map size_group_bytes groups)
unfolding flat_map
groups-bytes [] h = below-nil 256
groups-bytes (group ∷ groups) h =
    below-append (size_group_bytes group) (flat_map size_group_bytes groups) (size_group-bytes group h.0) (groups-bytes groups h.1)

-- A size section is made of bytes: no length above 255 is stored in one.
pub size_section-bytes : (stored : List StoredSize) → All StoredFits stored → AllBytes (size_section_bytes stored)
unfolding size_section_bytes
size_section-bytes stored h = groups-bytes (in_groups stored) (all-in_groups StoredFits stored h)

-- The lengths of a block's reads (level 2: answers; 01, Lengths). Whatever number a scan of them
-- gives, the block's answer is 9, so that the order of the faults does not matter.
use Rattle.std.specs.Prelude.{ℕ, zero, suc, ◌+◌, Bool, cond, ◌&&◌, List, [], ◌∷◌, ◌++◌, length, get_or, replicate, ltb}
use Rattle.base.specs.Lists.{ends_before, any}
use Rattle.base.specs.Groups.{group_sizes, byte_bit_stray}
use Rattle.base.specs.Packed.{bit}
use Rattle.base.specs.Faults.{fault}
use Rattle.base.specs.Answer.{checked, Scan, found, refused, and_then}
use Rattle.dna.specs.Sizes.{max_read_length, StoredSize, same, in_byte, in_words, lengths_from}
use Rattle.dna.specs.Sizes.{length_invalid, first_is_same}
use Rattle.dna.specs.Varint16At.{varint16_at, words_for}

-- A size in words; one above 100,000 is refused as it is read.
unfoldable pub words_at : (list : List ℕ) (at : ℕ) → Scan StoredSize
words_at list at =
    and_then (varint16_at (words_for (suc max_read_length)) (suc max_read_length) 0 list at)
    (λ size next. found (in_words size) next)

-- A stored size by its two bits: both set, or its byte missing, is a fault.
unfoldable pub stored_at : (same_bit byte_bit : Bool) (list : List ℕ) (at : ℕ) → Scan StoredSize
stored_at same_bit byte_bit list at =
    checked refused (fault 9 (same_bit && byte_bit) ∷ [])
    (cond same_bit (found same at)
    (cond byte_bit
    (checked refused (fault 9 (ends_before list (at + 1)) ∷ [])
    (found (in_byte (get_or list at 0)) (at + 1)))
    (words_at list at)))

-- The stored sizes of so many reads of a group, from `place` on.
unfoldable pub stored_sizes_at : (count same_byte size_byte place : ℕ) (list : List ℕ) (at : ℕ)
    → Scan (List StoredSize)
stored_sizes_at zero same_byte size_byte place list at = found [] at
stored_sizes_at (suc count) same_byte size_byte place list at =
    and_then (stored_at (bit same_byte place) (bit size_byte place) list at) (λ stored next.
    and_then (stored_sizes_at count same_byte size_byte (suc place) list next)
    (λ rest end. found (stored ∷ rest) end))

-- A group: its two flag bytes, without a bit past its last read, then its sizes.
unfoldable pub size_group_at : (count : ℕ) (list : List ℕ) (at : ℕ) → Scan (List StoredSize)
size_group_at count list at =
    checked refused
    (fault 9 (ends_before list (at + 2))
    ∷ fault 9 (byte_bit_stray count (get_or list at 0))
    ∷ fault 9 (byte_bit_stray count (get_or list (at + 1) 0))
    ∷ [])
    (stored_sizes_at count (get_or list at 0) (get_or list (at + 1) 0) 0 list (at + 2))

-- The groups in order.
unfoldable pub size_groups_at : (counts list : List ℕ) (at : ℕ) → Scan (List StoredSize)
size_groups_at [] list at = found [] at
size_groups_at (count ∷ counts) list at =
    and_then (size_group_at count list at) (λ group next.
    and_then (size_groups_at counts list next) (λ rest end. found (group ++ rest) end))

-- The lengths of n reads: the groups fill the section, same is not the first, and each length is in
-- range.
unfoldable pub sizes_answer : (n : ℕ) (section : List ℕ) → Scan (List ℕ)
sizes_answer n section =
    and_then (size_groups_at (group_sizes n) section 0) (λ stored end.
    checked refused
    (fault 9 (ltb end (length section))
    ∷ fault 9 (first_is_same stored)
    ∷ fault 9 (any length_invalid (lengths_from 0 stored))
    ∷ [])
    (found (lengths_from 0 stored) end))

-- With flag 0x1 the section is empty, and each length is l_read, here as a count: 0, which is no
-- length, where it is negative. It is looked at only if there is a read.
unfoldable pub fixed_lengths : (each reads : ℕ) (section : List ℕ) → Scan (List ℕ)
fixed_lengths each reads section =
    checked refused
    (fault 9 (ltb 0 (length section)) ∷ fault 9 (ltb 0 reads && length_invalid each) ∷ [])
    (found (replicate reads each) 0)

-- The lengths, by whether flag 0x1 is set.
unfoldable pub lengths_given : (fixed : Bool) (each reads : ℕ) (section : List ℕ) → Scan (List ℕ)
lengths_given fixed each reads section =
    cond fixed (fixed_lengths each reads section) (sizes_answer reads section)

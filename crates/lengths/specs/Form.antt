-- How a writer stores the lengths of reads that end at given places (01, The writer's fixed rule:
-- same bit before byte-size bit before words).
use Rattle.std.specs.Prelude.{ℕ, zero, suc, ◌+◌, ◌*◌, true, false, cond, List, [], ◌∷◌, length, get_or, Option, Some, None}
use Rattle.base.specs.Lists.{steps_from}
use Rattle.dna.specs.Sizes.{StoredSize, in_words, is_same, is_in_byte, stored_bytes}
use Rattle.format.specs.RuleBlock.{stored_from}
use Rattle.lengths.specs.declared.write.GroupWriter.{GroupWriter}

-- The stored sizes of reads that end at these places.
abbrev pub stored_of : (ends : List ℕ) → List StoredSize
stored_of ends = stored_from false 0 (steps_from 0 ends)

-- How the rule stores one length after one of `previous` letters, or as the first.
unfoldable pub stored_after : (previous : Option ℕ) (size : ℕ) → StoredSize
stored_after None size = get_or (stored_from false 0 (size ∷ [])) 0 (in_words size)
stored_after (Some previous) size =
    get_or (stored_from true previous (size ∷ [])) 0 (in_words size)

-- Where the read before read i ends.
unfoldable pub end_before : (ends : List ℕ) (i : ℕ) → ℕ
end_before ends zero = 0
end_before ends (suc i) = get_or ends i 0

-- The length of the read before read i; none before the first.
unfoldable pub length_before : (ends : List ℕ) (i : ℕ) → Option ℕ
length_before ends zero = None
length_before ends (suc i) = Some (get_or (steps_from 0 ends) i 0)

-- The two flag bits of a read, as they are added to those of its group: the same bit, and the
-- byte-size bit in the upper byte.
unfoldable pub flag_bits : (stored : StoredSize) → ℕ
flag_bits stored = cond (is_same stored) 1 0 + 256 * cond (is_in_byte stored) 1 0

-- Where the writing of a group stands after one more stored size.
unfoldable pub writer_after : (writer : GroupWriter) (stored : StoredSize) → GroupWriter
writer_after writer stored =
    record {
      place = writer.place + length (stored_bytes stored);
      flags = writer.flags * 2 + flag_bits stored;
    }

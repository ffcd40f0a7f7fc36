-- A table of contents that is written: its three parts are its bytes. Assumes nothing.
use mathlib.Core.Path.{◌≡◌, refl}
use Prim.Native.Nat.{ℕ}
use mathlib.Core.List.{List, [], ◌∷◌, flatten}
use lib.ListN.{length}
use Rattle.base.specs.Lists.{build}
use Rattle.base.specs.Numbers.{le_bytes}
use Rattle.format.specs.Header.{int32_bytes, header_bytes}
use Rattle.format.specs.RuleBlock.{header_with}
use Rattle.header.specs.declared.writing.VaryingFields.{VaryingFields}
use Rattle.header.specs.WrittenHeader.{fields_of, zeros, length_bytes, count_bytes, raw_bytes}

-- The parts in which a table is written.
abbrev pub table_parts : (fields : VaryingFields) → List (List ℕ)
table_parts fields =
    length_bytes fields.l_dna fields.l_names fields.l_size fields.l_n
    ∷ count_bytes fields.flags fields.l_read fields.n_reads fields.b_id
    ∷ raw_bytes fields.l_dna_raw fields.c_time
    ∷ []

-- One after the other they are its bytes.
pub written-parts : (fields : VaryingFields)
    → flatten (table_parts fields) ≡ header_bytes (header_with (fields_of fields))
unfolding flatten le_bytes build zeros length_bytes count_bytes raw_bytes
    int32_bytes header_bytes header_with
written-parts fields = refl

pub length-table_parts : (fields : VaryingFields) → length (flatten (table_parts fields)) ≡ 121
unfolding le_bytes build zeros length_bytes count_bytes raw_bytes flatten
length-table_parts fields = refl

pub length-length_bytes : (dna names sizes ns : ℕ) → length (length_bytes dna names sizes ns) ≡ 42
unfolding le_bytes build zeros length_bytes flatten
length-length_bytes dna names sizes ns = refl

pub length-count_bytes : (flags size count id : ℕ) → length (count_bytes flags size count id) ≡ 22
unfolding le_bytes count_bytes flatten
length-count_bytes flags size count id = refl

pub length-raw_bytes : (dna time : ℕ) → length (raw_bytes dna time) ≡ 57
unfolding le_bytes build zeros raw_bytes flatten
length-raw_bytes dna time = refl

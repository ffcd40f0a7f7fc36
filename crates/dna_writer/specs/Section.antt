-- The DNA and N sections of the records that the fixed rule makes, group by group.
use Rattle.std.specs.Prelude.{ℕ, ◌-◌, List, ◌∷◌, map, get_or}
use Rattle.base.specs.Lists.{part}
use Rattle.base.specs.Groups.{in_groups}
use Rattle.dna.specs.Record.{record_bytes}
use Rattle.dna.specs.Division.{division_bytes}
use Rattle.format.specs.RuleRecord.{Candidate, Written}
use Rattle.format.specs.RuleBlock.{code_of_letter, written_from, written_group, written_n_section}
use Rattle.format.specs.EncodeAnswer.{EncodeInput, reads_of_input, candidates_of}

-- Read i as codes.
abbrev pub codes_at : (input : EncodeInput) (i : ℕ) → List ℕ
codes_at input i =
    map code_of_letter
    (part input.letters (get_or (0 ∷ input.ends) i 0)
    (get_or input.ends i 0 - get_or (0 ∷ input.ends) i 0))

-- The candidate of read i.
abbrev pub candidate_at : (input : EncodeInput) (i : ℕ) → Candidate
candidate_at input i =
    record {
      position = get_or input.positions i 0;
      strand = get_or input.strands i 0;
      left = get_or input.lefts i 0;
      right = get_or input.rights i 0;
    }

-- The records of all reads of the input.
abbrev pub records_of : (bases : ℕ) (reference : List ℕ) (input : EncodeInput) → List Written
records_of bases reference input =
    written_from bases reference 0 (reads_of_input input) (candidates_of input)

-- The bytes of a record.
abbrev pub bytes_of : (written' : Written) → List ℕ
bytes_of written' = record_bytes written'.context written'.stored

-- The DNA section of some records, and their N section.
unfoldable pub dna_bytes : (records : List Written) → List ℕ
dna_bytes records = division_bytes (map written_group (in_groups records))

unfoldable pub n_bytes : (records : List Written) → List ℕ
n_bytes records = written_n_section (map written_group (in_groups records))

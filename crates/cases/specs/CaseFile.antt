-- A case file and a case of it (rust/second/CORPUS.md, A case file): the fields of its header,
-- where its parts stand, and what reading it answers.
use Rattle.std.specs.Prelude.{ℕ, ◌+◌, ◌*◌, cond, List, length, get_or, ltb, eqb, Option, Some, None}
use Rattle.base.specs.Numbers.{le}
use Rattle.cases.specs.declared.case_file.CaseHeader.{CaseHeader}

abbrev pub file_header_length : ℕ
file_header_length = 16

abbrev pub case_header_length : ℕ
case_header_length = 104

-- The bytes ORACASE2 as a number.
abbrev pub file_magic : ℕ
file_magic = 3622393015055766095

-- ---- The file

-- The number of cases that a file says, if it begins as a case file does.
unfoldable pub count_answer : (file : List ℕ) → Option ℕ
count_answer file =
    cond (ltb (length file) file_header_length) None
    (cond (eqb (le 8 file 0) file_magic) (Some (le 4 file 8)) None)

-- ---- A case

-- The fields of the header with which the bytes begin.
unfoldable pub case_fields : (bytes : List ℕ) → CaseHeader
case_fields bytes =
    record {
      length = le 4 bytes 0;
      kind = get_or bytes 4 0;
      label = get_or bytes 5 0;
      bases = le 8 bytes 8;
      b_id = le 8 bytes 16;
      c_time = le 8 bytes 24;
      reference = le 4 bytes 32;
      input = le 4 bytes 36;
      letters = le 4 bytes 40;
      ends = le 4 bytes 44;
      stored = le 4 bytes 48;
      positions = le 4 bytes 52;
      strands = le 4 bytes 56;
      lefts = le 4 bytes 60;
      rights = le 4 bytes 64;
      letters_lent = le 4 bytes 68;
      ends_lent = le 4 bytes 72;
      block_lent = le 4 bytes 76;
      names = le 4 bytes 80;
      name_ends = le 4 bytes 84;
      names_stored = le 4 bytes 88;
      names_lent = le 4 bytes 92;
      name_ends_lent = le 4 bytes 96;
    }

-- Where the reference starts: after the label.
abbrev pub reference_start : (header : CaseHeader) → ℕ
reference_start header = case_header_length + header.label

-- Where the input starts.
abbrev pub input_start : (header : CaseHeader) → ℕ
input_start header = reference_start header + header.reference

-- Where what is given to the writer starts, part after part; ends, name ends and
-- positions take 4 bytes each.
abbrev pub letters_start : (header : CaseHeader) → ℕ
letters_start header = input_start header + header.input

abbrev pub ends_start : (header : CaseHeader) → ℕ
ends_start header = letters_start header + header.letters

abbrev pub names_start : (header : CaseHeader) → ℕ
names_start header = ends_start header + 4 * header.stored

abbrev pub name_ends_start : (header : CaseHeader) → ℕ
name_ends_start header = names_start header + header.names

abbrev pub positions_start : (header : CaseHeader) → ℕ
positions_start header = name_ends_start header + 4 * header.names_stored

abbrev pub strands_start : (header : CaseHeader) → ℕ
strands_start header = positions_start header + 4 * header.positions

abbrev pub lefts_start : (header : CaseHeader) → ℕ
lefts_start header = strands_start header + header.strands

abbrev pub rights_start : (header : CaseHeader) → ℕ
rights_start header = lefts_start header + header.lefts

-- The length of the header and of the parts.
abbrev pub case_size : (header : CaseHeader) → ℕ
case_size header = rights_start header + header.rights

-- The case with which the bytes begin, if all of it is there and has the length that it says.
unfoldable pub case_answer : (bytes : List ℕ) → Option CaseHeader
case_answer bytes =
    let header = case_fields bytes in
    cond (ltb (length bytes) case_header_length) None
    (cond (eqb (case_size header) header.length)
    (cond (ltb (length bytes) (case_size header)) None (Some header))
    None)

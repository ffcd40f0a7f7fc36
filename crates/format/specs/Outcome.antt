-- What a call answers (level 2), in the paper's terms (01, Numbers of refusal): a number, 0 where
-- it is accepted; the indices that go with a refusal; and where it is accepted the number of
-- blocks of a file, the length of a block in bytes, and the counts.
use Rattle.std.specs.Prelude.{ℕ, ◌%◌, ◌^◌}
use Rattle.dna.specs.Counts.{Counted, zero_counts}

pub record Outcome : Type 0 where
  pub number : ℕ
  pub block : ℕ
  pub read : ℕ
  pub blocks : ℕ
  pub bytes : ℕ
  pub counts : Counted

-- A refusal: every count in it is 0.
abbrev pub refusal : (number block read : ℕ) → Outcome
refusal number block read =
    record {
      number = number;
      block = block;
      read = read;
      blocks = 0;
      bytes = 0;
      counts = zero_counts;
    }

-- A block of so many bytes is accepted, with these counts.
abbrev pub accepted_block : (bytes : ℕ) (counts : Counted) → Outcome
accepted_block bytes counts =
    record { number = 0; block = 0; read = 0; blocks = 0; bytes = bytes; counts = counts }

-- A file of so many blocks is accepted, with these counts.
abbrev pub accepted_file : (blocks : ℕ) (counts : Counted) → Outcome
accepted_file blocks counts =
    record { number = 0; block = 0; read = 0; blocks = blocks; bytes = 0; counts = counts }

-- Each count modulo 2 ^ 64.
unfoldable pub modulo64 : (counts : Counted) → Counted
modulo64 counts =
    record {
      reads = counts.reads % 2 ^ 64;
      letters = counts.letters % 2 ^ 64;
      entries = counts.entries % 2 ^ 64;
      differences = counts.differences % 2 ^ 64;
      top = counts.top % 2 ^ 64;
    }

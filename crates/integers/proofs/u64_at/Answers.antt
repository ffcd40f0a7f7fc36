-- `integers::u64_at` meets its contract: the library's number is that of the bytes. Assumes nothing.
use mathlib.Core.Path.{◌∙◌}
use Rattle.integers.proofs.LibraryNumbers.{from_eight}
use Rattle.integers.proofs.u64_at.Goals as goal

pub returns : goal.returns
returns c =
    c.from_le_bytes.ensures ∙ from_eight c.args.s.now c.bytes_at.result c.args.at c.bytes_at.ensures

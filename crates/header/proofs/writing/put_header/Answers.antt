-- `header::writing::put_header` meets its contract: its three parts are all of the table's bytes.
-- Assumes nothing.
use mathlib.Core.Path.{ap, ◌∙◌}
use native.Mathlib.Omega.{arith}
use Rattle.base.specs.Paste.{pasted}
use Rattle.header.proofs.WritingLaws.{all_left, part_next, none_left}
use Rattle.header.proofs.WrittenLaws.{written-parts, length-table_parts, length-length_bytes}
use Rattle.header.proofs.WrittenLaws.{length-count_bytes, length-raw_bytes}
use Rattle.header.proofs.writing.put_header.Goals as goal

pub returns : goal.returns
returns c =
    let a = c.args in
    let f = a.fields in
    let p0 = all_left a.out.now 0 121 _ (length-table_parts f) (omega arith) in
    let p1 = part_next 42 _ _ (length-length_bytes _ _ _ _) p0 c.put_lengths.ensures in
    let p2 = part_next 22 _ _ (length-count_bytes _ _ _ _) p1 c.put_counts.ensures in
    none_left (part_next 57 _ _ (length-raw_bytes _ _) p2 c.put_raw_sizes.ensures)
    ∙ ap (pasted a.out.now 0) (written-parts f)

-- `record_writer::put_record` meets its contract. Assumes nothing.
use mathlib.Core.Path.{sym, ◌∙◌}
use native.Mathlib.Omega.{arith}
use Rattle.letter_packing.specs.Read.{codes_of}
use Rattle.record_writer.specs.Parts.{entries_of}
use Rattle.record_writer.proofs.ListLaws.{fields_short, length_with}
use Rattle.record_writer.proofs.ListLaws.{with_written, without_written}
use Rattle.record_writer.proofs.put_record.Goals as goal

pub put_fields-next-requires-clause-read_in_bounds : goal.put_fields-next-requires-clause-read_in_bounds
put_fields-next-requires-clause-read_in_bounds c =
    let a = c.args in
    omega (
      arith,
      c.requires.read_in_bounds,
      fields_short a.previous (entries_of a.entries.now) (codes_of a.read.now) a.count
          c.requires.writable.counted a.«record»,
    )

pub put_n_list-requires-clause-read_in_bounds : goal.put_n_list-requires-clause-read_in_bounds
put_n_list-requires-clause-read_in_bounds c =
    let a = c.args in
    omega (
      arith,
      c.requires.read_in_bounds,
      c.out-1.given,
      c.put_fields-next.ensures.1,
      length_with a.previous (entries_of a.entries.now) (codes_of a.read.now) a.count
          c.requires.writable.counted a.«record» (sym c.list_stored.ensures ∙ c.if-list_stored.true),
    )

pub returns-then-list_stored : goal.returns-then-list_stored
returns-then-list_stored c =
    let a = c.args in
    with_written a.previous (entries_of a.entries.now)
    (codes_of a.read.now) a.count c.requires.writable.counted
    a.«record» a.out.now _ _ a.at c.put_fields-next.result _ c.requires.read_in_bounds
    (sym c.list_stored.ensures ∙ c.if-list_stored.true)
    c.put_fields-next.ensures c.put_n_list.ensures

pub returns : goal.returns
returns c =
    let a = c.args in
    without_written a.previous (entries_of a.entries.now)
    (codes_of a.read.now) a.count c.requires.writable.counted
    a.«record» a.out.now _ a.at _ (sym c.list_stored.ensures ∙ c.if-list_stored.false)
    c.put_fields-next.ensures

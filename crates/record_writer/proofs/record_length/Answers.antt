-- `record_writer::record_length` meets its contract. Assumes nothing.
use mathlib.Core.Path.{sym, ◌∙◌}
use native.Mathlib.Omega.{arith}
use Rattle.letter_packing.specs.Read.{codes_of}
use Rattle.letter_packing.proofs.ReadLaws.{length_codes_of}
use Rattle.record_writer.proofs.ListLaws.{length_with, length_without}
use Rattle.record_writer.proofs.record_length.Goals as goal

pub returns-then-list_stored : goal.returns-then-list_stored
returns-then-list_stored c =
    let a = c.args in
    let size = length_codes_of a.read.now in (
      λ written many.
          omega (
            arith,
            c.fields_length-fields.ensures.0 written
                (codes_of a.read.now) many size,
            c.n_list_length.ensures.0,
            length_with a.previous written (codes_of a.read.now)
                a.count c.requires.counted a.«record»
                (sym c.list_stored.ensures ∙ c.if-list_stored.true),
          ),
      omega (
        arith,
        c.fields_length-fields.ensures.1,
        c.n_list_length.ensures.1,
      ),
    )

pub returns : goal.returns
returns c =
    let a = c.args in
    let size = length_codes_of a.read.now in (
      λ written many.
          c.fields_length-fields.ensures.0 written
          (codes_of a.read.now) many size
          ∙ sym (length_without a.previous written (codes_of a.read.now)
          a.count c.requires.counted a.«record» (sym c.list_stored.ensures
          ∙ c.if-list_stored.false)),
      omega (arith, c.fields_length-fields.ensures.1),
    )

-- `record_writer::fields_length` meets its contract. Assumes nothing.
-- The length of the fields, where the record is `r`.
use mathlib.Core.Path.{◌≡◌, sym, ap, ap₂, ◌∙◌, subst}
use Prim.Native.Nat.{ℕ, ◌+◌}
use native.Mathlib.Omega.{arith}
use mathlib.Core.List.{List}
use lib.ListN.{length}
use Rattle.base.specs.Packed.{packed_length}
use Rattle.dna.specs.Record.{Entry}
use Rattle.dna.specs.declared.Record.{Record}
use Rattle.record_writer.specs.Written.{fields_written}
use Rattle.record_writer.specs.Writable.{KindFits}
use Rattle.record_writer.proofs.FieldLaws.{perfect-fields, raw-fields, raw4-fields}
use Rattle.record_writer.proofs.FieldLaws.{length-raw, length-raw4}
use Rattle.record_writer.proofs.LengthLaws.{length_global, length_with_ends}
use Rattle.record_writer.proofs.fields_length.Goals as goal
use Rattle.record_writer.proofs.fields_length.Goals.{Start}

told : (c : Start) (r : Record) → c.args.«record» ≡ r → (written : List Entry)
    (codes : List ℕ)
    → {n : ℕ} → n ≡ length (fields_written c.args.previous r written codes)
    → n ≡ length (fields_written c.args.previous c.args.«record» written codes)
told c r e written codes is =
    is ∙ sym (ap (λ (k : Record). length (fields_written c.args.previous k written codes)) e)

pub returns-in-Perfect : goal.returns-in-Perfect
returns-in-Perfect c = (
  λ written codes many size.
      c.position_length.ensures.0
      ∙ sym (ap length (ap (λ (k : Record). fields_written c.args.previous k written
      codes) c.in-Perfect.is ∙ perfect-fields c.args.previous c.in-Perfect.placement written codes)),
  omega (arith, c.position_length.ensures.1),
)

pub returns-in-Global : goal.returns-in-Global
returns-in-Global c = (
  λ written codes many size.
      told (goal.at.returns-in-Global c).Start _ c.in-Global.is written codes (omega (
        arith,
        c.position_length-in-Global.ensures.0,
        length_global c.args.previous c.in-Global.placement written codes,
      )),
  omega (arith, c.position_length-in-Global.ensures.1),
)

pub returns-in-Local : goal.returns-in-Local
unfolding packed_length
returns-in-Local c =
    let left = c.from.ensures in
    let right = c.from-in-Local.ensures in
    let packed = c.packed_length.ensures ∙ ap₂ (λ (l m : ℕ). packed_length 4 (l + m)) left
    right in (
      λ written codes many size.
          told (goal.at.returns-in-Local c).Start _ c.in-Local.is written codes
          (omega (
            arith,
            c.position_length-in-Local.ensures.0,
            length_with_ends c.args.previous c.in-Local.placement written codes
                (omega (
                  arith,
                  (subst (λ (k : Record). KindFits k c.args.size) c.in-Local.is
                      c.requires.0).clips,
                )),
          )),
      omega (
        arith,
        c.packed_length.ensures,
        c.from.type_inv,
        c.from-in-Local.type_inv,
        c.position_length-in-Local.ensures.1,
      ),
    )

pub returns-in-Raw : goal.returns-in-Raw
unfolding packed_length
returns-in-Raw c = (
  λ written codes many size.
      told (goal.at.returns-in-Raw c).Start _ c.in-Raw.is written codes
      (omega (
        arith,
        c.packed_length-in-Raw.ensures,
        ap length
            (raw-fields c.args.previous written codes),
        length-raw codes,
        ap (packed_length 4)
            size,
      )),
  omega (arith, c.packed_length-in-Raw.ensures),
)

pub returns-in-Raw4 : goal.returns-in-Raw4
unfolding packed_length
returns-in-Raw4 c = (
  λ written codes many size.
      told (goal.at.returns-in-Raw4 c).Start _ c.in-Raw4.is written codes
      (omega (
        arith,
        c.packed_length-in-Raw4.ensures,
        ap length
            (raw4-fields c.args.previous written codes),
        length-raw4 codes,
        ap
            (packed_length 2) size,
      )),
  omega (arith, c.packed_length-in-Raw4.ensures),
)

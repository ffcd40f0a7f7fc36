-- `record_letters::letters::put_plain` meets its contract: by the kind. Assumes nothing.
-- What is known of the record, by its kind.
use mathlib.Core.Path.{◌≡◌, sym, ap, subst, ◌∙◌}
use Prim.Native.Nat.{ℕ, ◌+◌, ◌≤◌}
use native.Mathlib.Omega.{arith}
use mathlib.Core.List.{List}
use lib.ListN.{length}
use Rattle.base.specs.Lists.{Below}
use Rattle.base.specs.Packed.{packed_length}
use Rattle.base.specs.Paste.{pasted}
use Rattle.dna.specs.RecordFaults.{raw4_codes}
use Rattle.dna.specs.RecordAt.{packed_at}
use Rattle.dna.specs.declared.Record.{Record}
use Rattle.record_letters.specs.Laid.{fields_in, packed_in, PlacedIn}
use Rattle.record_letters.proofs.PlainKinds.{plain_of, plain_perfect, plain_global}
use Rattle.record_letters.proofs.PlainKinds.{plain_local, plain_raw, plain_raw4}
use Rattle.record_letters.proofs.letters.put_plain.Goals as goal
use Rattle.record_letters.proofs.letters.put_plain.Goals.{Start}

placed : (c : Start) (r : Record) → c.args.«record» ≡ r
    → PlacedIn c.args.section.now c.args.reference.now c.args.size r c.args.layout
placed c r e =
    let a = c.args in
    subst
    (λ (r : Record). PlacedIn a.section.now a.reference.now a.size r a.layout)
    e c.requires.0.laid.placed

packed : (c : Start) (r : Record) → c.args.«record» ≡ r
    → c.args.layout.packed + packed_in c.args.size r ≤ length c.args.section.now
packed c r e =
    let a = c.args in
    subst
    (λ (r : Record). a.layout.packed + packed_in a.size r ≤ length a.section.now)
    e c.requires.0.laid.packed

-- What the kind's writer wrote.
written : (c : Start) (r : Record) (letters : List ℕ)
    → letters
    ≡ plain_of c.args.section.now c.args.reference.now c.args.size c.args.layout r
    → c.args.«record» ≡ r
    → pasted c.args.out.now c.args.at letters
    ≡ pasted c.args.out.now c.args.at
    (plain_of c.args.section.now c.args.reference.now c.args.size c.args.layout
    c.args.«record»)
written c r letters same e =
    let a = c.args in
    ap (pasted a.out.now a.at)
    (same
    ∙ ap (plain_of a.section.now a.reference.now a.size a.layout) (sym e))

pub put_aligned-requires : goal.put_aligned-requires
put_aligned-requires c =
    (placed (goal.at.put_aligned-requires c).Start _ c.in-Perfect.is, omega (arith, c.requires.1))

pub put_aligned-requires-in-Global : goal.put_aligned-requires-in-Global
put_aligned-requires-in-Global c = (
  (placed (goal.at.put_aligned-requires-in-Global c).Start _ c.in-Global.is).stretch,
  omega (arith, c.requires.1),
)

pub put_local-requires : goal.put_local-requires
unfolding packed_in
put_local-requires c =
    let part = placed (goal.at.put_local-requires c).Start _ c.in-Local.is in (
      part.0,
      part.1,
      part.2.stretch,
      packed (goal.at.put_local-requires c).Start _ c.in-Local.is,
      omega (arith, c.requires.1),
    )

pub put_packed-requires : goal.put_packed-requires
unfolding packed_in packed_length
put_packed-requires c = (
  omega (arith, packed (goal.at.put_packed-requires c).Start _ c.in-Raw.is),
  omega (arith, c.requires.0.laid.lists.short),
  omega (arith, c.requires.1),
)

pub put_codes4-requires : goal.put_codes4-requires
unfolding packed_in raw4_codes fields_in packed_at
put_codes4-requires c =
    let a = c.args in (
      packed (goal.at.put_codes4-requires c).Start _ c.in-Raw4.is,
      c.requires.0.laid.lists.short,
      subst
          (λ (k : Record). Below 5 (raw4_codes (fields_in a.section.now a.size k a.layout)))
          c.in-Raw4.is c.requires.0.codes,
      omega (arith, c.requires.1),
    )

pub returns-in-Perfect : goal.returns-in-Perfect
returns-in-Perfect c =
    let a = c.args in
    c.put_aligned.ensures
    ∙ written (goal.at.returns-in-Perfect c).Start _ _
    (plain_perfect a.section.now a.reference.now a.size a.layout
    c.in-Perfect.placement)
    c.in-Perfect.is

pub returns-in-Global : goal.returns-in-Global
returns-in-Global c =
    let a = c.args in
    c.put_aligned-in-Global.ensures
    ∙ written (goal.at.returns-in-Global c).Start _ _
    (plain_global a.section.now a.reference.now a.size a.layout
    c.in-Global.placement)
    c.in-Global.is

pub returns-in-Local : goal.returns-in-Local
returns-in-Local c =
    let a = c.args in
    c.put_local.ensures
    ∙ written (goal.at.returns-in-Local c).Start _ _
    (plain_local a.section.now a.reference.now a.size a.layout
    c.in-Local.placement (placed (goal.at.returns-in-Local c).Start _ c.in-Local.is).0)
    c.in-Local.is

pub returns-in-Raw : goal.returns-in-Raw
returns-in-Raw c =
    let a = c.args in
    c.put_packed.ensures
    ∙ written (goal.at.returns-in-Raw c).Start _ _ (plain_raw a.section.now a.reference.now a.size a.layout)
    c.in-Raw.is

pub returns-in-Raw4 : goal.returns-in-Raw4
returns-in-Raw4 c =
    let a = c.args in
    c.put_codes4.ensures
    ∙ written (goal.at.returns-in-Raw4 c).Start _ _ (plain_raw4 a.section.now a.reference.now a.size a.layout)
    c.in-Raw4.is

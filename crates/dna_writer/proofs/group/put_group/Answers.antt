use mathlib.Core.Path.{◌≡◌, sym, ap, ap₂, ◌∙◌}
use Prim.Native.Nat.{ℕ, ◌+◌, ◌-◌, ◌*◌, ◌%◌, ◌^◌, ◌<◌}
use native.Mathlib.Nat.{add-zero, mod-eq_of_lt}
use native.Mathlib.Omega.{arith}
use mathlib.Core.List.{List, ◌∷◌}
use lib.ListN.{length, take, drop, length-take}
use Rattle.dna.specs.Alignment.{position_after}
use Rattle.base.proofs.PastingLaws.{pasting-start}
use Rattle.format.specs.RuleRecord.{Written}
use Rattle.dna_writer.specs.Reads.{input_of, record_at, records_after}
use Rattle.dna_writer.proofs.RecordSteps.{lent_next, length_records, group_after}
use Rattle.dna_writer.proofs.ChosenSteps.{place_after, previous-after, flags-after}
use Rattle.dna_writer.proofs.GroupSteps.{group_left, rest_after, group_inside, group_here}
use Rattle.dna_writer.proofs.GroupSteps.{record_room, record_turn, records-end}
use Rattle.dna_writer.proofs.GroupSteps.{gathered_bits, bits_none, bits_turn, bits_room}
use Rattle.dna_writer.proofs.GroupSteps.{bits_small, bits_bytes, group_room, group_written}
use Rattle.dna_writer.proofs.group.put_group.Goals as goal
use Rattle.dna_writer.proofs.group.put_group.Goals.{Start, In-loop-k, After-loop-k}

-- The records of the group and of those after it.
abbrev own : (c : Start) → List Written
own c = records_after c.args.reads.now c.args.previous c.args.first

pub loop-k-init : goal.loop-k-init
loop-k-init c =
    let a = c.args in
    let records = own (goal.at.loop-k-init c).Start in (
      pasting-start a.out.now (a.at + 4) (group_left records 0)
          (group_room (take 8 records) a.out.now a.at c.requires.2),
      ap (λ (n : ℕ). records_after a.reads.now a.previous n) (sym (add-zero a.first)),
      bits_none (take 8 records),
    )

-- The next read, and its record.
inside : (c : In-loop-k) → c.args.first + c.loop-k.k < length c.args.reads.now.ends.now
inside c = omega (arith, c.loop-k-test.true, c.min-size.ensures)

few : (c : In-loop-k) → c.loop-k.k < 8
few c = omega (arith, c.loop-k-test.true, c.min-size.ensures)

split : (c : In-loop-k)
    → let l = c.loop-k in
    let w = record_at c.args.reads.now l.writer.previous (c.args.first + l.k) in
    drop l.k (records_after c.args.reads.now c.args.previous c.args.first)
    ≡ w
    ∷ records_after c.args.reads.now (position_after w.context w.stored.fields)
    (c.args.first + l.k + 1)
split c =
    c.loop-k.invariant.1
    ∙ lent_next c.args.reads.now c.loop-k.writer.previous (c.args.first + c.loop-k.k) (inside c)

pub put_read-writer-requires : goal.put_read-writer-requires
put_read-writer-requires c =
    let l = c.loop-k in
    let here = (goal.at.put_read-writer-requires c).In-loop-k in
    let records = own (goal.at.put_read-writer-requires c).Start in (
      inside here,
      omega (arith, c.requires.1, l.auto.list),
      record_room records l.k _ _ (few here) (split here) l.invariant.0,
      bits_room (take 8 records) l.k l.writer.flags (few here) l.invariant.2,
    )

pub loop-k-preserved : goal.loop-k-preserved
loop-k-preserved c =
    let a = c.args in
    let l = c.loop-k in
    let here = (goal.at.loop-k-preserved c).In-loop-k in
    let records = own (goal.at.loop-k-preserved c).Start in
    let w = record_at a.reads.now l.writer.previous (a.first + l.k) in
    let next = c.put_read-writer.result in
    let is = c.put_read-writer.ensures.1 in
    let one : a.first + l.k + 1 ≡ a.first + (l.k + 1) = omega arith in (
      record_turn records l.k w _ (few here) (split here) l.invariant.0 _ next.place
          c.put_read-writer.ensures.0 (place_after l.writer next w is),
      rest_after records l.k w _ (few here) (split here)
          ∙ ap₂ (λ (p n : ℕ). records_after a.reads.now p n)
          (sym (previous-after l.writer next w is)) one,
      flags-after l.writer next w is
          ∙ bits_turn (take 8 records) l.k l.writer.flags w
          (group_inside records l.k w _ (few here) (split here))
          (group_here records l.k w _ (few here) (split here)) l.invariant.2,
    )

-- How many records there are, and their bits once all are written.
sized : (c : After-loop-k)
    → c.min-size.result ≡ length (take 8 (own (goal.at.After-loop-k c).Start))
sized c =
    let reads = c.args.reads.now in
    omega (
      arith,
      c.min-size.ensures,
      length-take 8 (own (goal.at.After-loop-k c).Start),
      length_records reads.bases reads.reference.now (input_of reads) c.args.previous c.args.first,
    )

gathered-all : (c : After-loop-k)
    → c.loop-k.writer.flags
    ≡ gathered_bits (take 8 (own (goal.at.After-loop-k c).Start)) c.min-size.result
gathered-all c =
    let e : c.loop-k.k ≡ c.min-size.result =
    omega (arith, c.loop-k.auto.k-end, c.loop-k-test.false) in
    c.loop-k.invariant.2
    ∙ ap (gathered_bits (take 8 (own (goal.at.After-loop-k c).Start))) e

small : (c : After-loop-k) → c.loop-k.writer.flags * 2 ^ (8 - c.min-size.result) < 2 ^ 32
small c =
    bits_small (take 8 (own (goal.at.After-loop-k c).Start)) c.min-size.result
    c.loop-k.writer.flags (sized c) (omega (arith, c.min-size.ensures)) (gathered-all c)

whole : (c : After-loop-k)
    → c.loop-k.writer.flags * 2 ^ (8 - c.min-size.result) % 18446744073709551616
    ≡ c.loop-k.writer.flags * 2 ^ (8 - c.min-size.result)
whole c = mod-eq_of_lt (omega (arith, small c))

pub overflow_cast-writer : goal.overflow_cast-writer
overflow_cast-writer c =
    let end = (goal.at.overflow_cast-writer c).After-loop-k in
    omega (arith, small end, whole end)

pub returns : goal.returns
returns c =
    let a = c.args in
    let l = c.loop-k in
    let end = (goal.at.returns c).After-loop-k in
    let records = own (goal.at.returns c).Start in
    let bytes =
    bits_bytes (take 8 records) c.min-size.result l.writer.flags (sized end)
    (omega (arith, c.min-size.ensures)) (gathered-all end) _ (whole end) in
    let written =
    group_written (take 8 records) a.out.now a.at c.requires.2 l.out _ l.writer.place _
    (records-end records l.k (omega (arith, sized end, c.loop-k-test.false)) l.invariant.0) bytes
    c.put_u32.ensures in (
      written.0,
      written.1,
      group_after a.reads.now.bases a.reads.now.reference.now (input_of a.reads.now) a.previous
          a.first l.writer.previous l.k
          (omega (arith, c.min-size.ensures, l.auto.k-end, c.loop-k-test.false)) l.invariant.1,
    )

use mathlib.Core.Path.{◌≡◌, refl, ap, ◌∙◌, subst}
use Prim.Native.Nat.{ℕ, ◌+◌, ◌*◌, ◌<◌}
use native.Mathlib.Omega.{arith}
use lib.ListN.{length}
use Rattle.base.specs.Paste.{pasted}
use Rattle.dna_writer.specs.Section.{dna_bytes, n_bytes}
use Rattle.dna_writer.specs.Reads.{input_of, records_lent, records_after}
use Rattle.dna_writer.proofs.RecordSteps.{length_records, records_none}
use Rattle.dna_writer.proofs.SectionSteps.{Writing, writing_start, writing_room}
use Rattle.dna_writer.proofs.SectionSteps.{byte_inside, bits_inside, one_length}
use Rattle.dna_writer.proofs.SectionSteps.{writing_turn, writing_end}
use Rattle.dna_writer.proofs.put_groups.Goals as goal
use Rattle.dna_writer.proofs.put_groups.Goals.{In-loop-group}

pub loop-group-init : goal.loop-group-init
loop-group-init c =
    let a = c.args in
    let start : a.n_at ≡ a.n_at + 0 = omega arith in
    subst
    (λ (byte : ℕ).
    Writing
    (pasted (pasted a.out.now a.at (dna_bytes (records_lent a.reads.now))) a.n_at
    (n_bytes (records_lent a.reads.now)))
    a.n_at a.out.now a.at byte (records_lent a.reads.now))
    start
    (writing_start a.out.now a.at a.n_at (records_lent a.reads.now) c.requires.1 c.requires.2)

-- A read is left, and so is a record.
inside : (c : In-loop-group) → 8 * c.loop-group.group < length c.args.reads.now.ends.now
inside c = omega (arith, c.loop-group-test.true, c.div_ceil-group-end.ensures)

some : (c : In-loop-group)
    → 0 < length (records_after c.args.reads.now c.loop-group.previous (8 * c.loop-group.group))
some c =
    let reads = c.args.reads.now in
    omega (
      arith,
      inside c,
      length_records reads.bases reads.reference.now (input_of reads) c.loop-group.previous
          (8 * c.loop-group.group),
    )

pub put_group-after-requires : goal.put_group-after-requires
put_group-after-requires c =
    let here = (goal.at.put_group-after-requires c).In-loop-group in (
      inside here,
      omega (arith, c.requires.0, c.loop-group.auto.list),
      writing_room c.loop-group.invariant (some here),
    )

pub bounds-out-place : goal.bounds-out-place
bounds-out-place c =
    let here = some (goal.at.bounds-out-place c).In-loop-group in
    omega (
      arith,
      bits_inside c.loop-group.invariant here,
      one_length c.loop-group.invariant here _ c.put_group-after.ensures.0,
    )

pub bounds-out-n_at : goal.bounds-out-n_at
bounds-out-n_at c =
    let here = some (goal.at.bounds-out-n_at c).In-loop-group in
    omega (
      arith,
      byte_inside c.loop-group.invariant here,
      one_length c.loop-group.invariant here _ c.put_group-after.ensures.0,
    )

pub loop-group-preserved : goal.loop-group-preserved
loop-group-preserved c =
    let l = c.loop-group in
    let reads = c.args.reads.now in
    let done = c.put_group-after.ensures in
    let more : 8 * l.group + 8 ≡ 8 * (l.group + 1) = omega arith in
    writing_turn l.invariant (some (goal.at.loop-group-preserved c).In-loop-group) _ done.0 _ _ _ _
    refl done.1 (omega arith)
    (done.2 ∙ ap (λ (i : ℕ). records_after reads c.put_group-after.result.previous i) more)

pub returns : goal.returns
returns c =
    let l = c.loop-group in
    let reads = c.args.reads.now in
    writing_end l.invariant
    (records_none reads.bases reads.reference.now (input_of reads) l.previous (8 * l.group)
    (omega (arith, c.loop-group-test.false, c.div_ceil-group-end.ensures)))

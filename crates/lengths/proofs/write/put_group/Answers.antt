use mathlib.Core.Path.{◌≡◌, refl, ap, ◌∙◌}
use Prim.Native.Nat.{◌+◌, ◌-◌, ◌<◌, min}
use native.Mathlib.Omega.{arith}
use lib.ListN.{length}
use Rattle.std.specs.Prelude.{Some}
use Rattle.base.specs.Lists.{part}
use Rattle.base.proofs.PastingLaws.{pasting-start}
use Rattle.dna.specs.Sizes.{StoredSize}
use Rattle.lengths.specs.declared.write.GroupWriter.{GroupWriter}
use Rattle.lengths.specs.Form.{stored_of, stored_after}
use Rattle.lengths.proofs.FormLaws.{known_stored, known_first, known_turn}
use Rattle.lengths.proofs.FlagLaws.{gathered, gathered_none, gathered_room, gathered_turn}
use Rattle.lengths.proofs.FlagLaws.{gathered_bytes}
use Rattle.lengths.proofs.WrittenSize.{place_after, flags-after}
use Rattle.lengths.proofs.WritingLaws.{group_left, group_room, size_room}
use Rattle.lengths.proofs.WritingLaws.{size_turn, group-end, write_group}
use borrow.Author.Rules.{rules}
use Rattle.lengths.proofs.write.put_group.Goals as goal

-- ---- The first read

pub put_size-writer-requires : goal.put_size-writer-requires
put_size-writer-requires c =
    let a = c.args in
    let ends = a.ends.now in
    let group = part (stored_of ends) a.from 8 in
    let last = c.length_at-last in
    let previous = c.length_before in
    let stored = known_first ends a.from last.result (omega arith) last.ensures previous.result
    previous.ensures in
    record {
      size_in_bounds = size_room ends a.from 0 (omega arith)
          (stored_after previous.result last.result) stored
          (pasting-start a.out.now (a.at + 2) (group_left ends a.from 0)
          (group_room group a.out.now a.at (omega arith)));
      flags_bound = omega arith;
    }

pub loop-k-init : goal.loop-k-init
loop-k-init c =
    let a = c.args in
    let ends = a.ends.now in
    let group = part (stored_of ends) a.from 8 in
    let last = c.length_at-last in
    let previous = c.length_before in
    let inside : a.from < length ends = omega arith in
    let stored = known_first ends a.from last.result inside last.ensures previous.result
    previous.ensures in
    let form : StoredSize = stored_after previous.result last.result in
    let start : GroupWriter = record { place = a.at + 2; flags = 0 } in
    let next = c.put_size-writer.result in
    let is = c.put_size-writer.ensures.1 in (
      size_turn ends a.from 0 (omega arith) form stored
          (pasting-start a.out.now (a.at + 2) (group_left ends a.from 0)
          (group_room group a.out.now a.at (omega arith)))
          _ next.place c.put_size-writer.ensures.0 (place_after start next form is),
      search rules,
      known_turn ends a.from last.result inside last.ensures (a.from + 1) refl,
      flags-after start next form is
          ∙ gathered_turn ends a.from 0 0 form (gathered_none ends a.from) stored,
    )

-- ---- The reads past it

pub put_size-writer-requires-in-loop-k : goal.put_size-writer-requires-in-loop-k
put_size-writer-requires-in-loop-k c =
    let l = c.loop-k in
    let a = c.args in
    let ends = a.ends.now in
    let size = c.length_at-size in
    let inside : l.k < min 8 (length ends - a.from) = omega (arith, c.min-reads.ensures) in
    let stored = known_stored ends (a.from + l.k) size.result (omega arith) size.ensures
    (Some l.last) l.invariant.2 in
    record {
      size_in_bounds = size_room ends a.from l.k inside (stored_after (Some l.last) size.result)
          stored l.invariant.0;
      flags_bound = gathered_room ends a.from l.k l.writer.flags (omega arith) l.invariant.3;
    }

pub loop-k-preserved : goal.loop-k-preserved
loop-k-preserved c =
    let l = c.loop-k in
    let a = c.args in
    let ends = a.ends.now in
    let size = c.length_at-size in
    let inside : l.k < min 8 (length ends - a.from) = omega (arith, c.min-reads.ensures) in
    let in-ends : a.from + l.k < length ends = omega arith in
    let stored = known_stored ends (a.from + l.k) size.result in-ends size.ensures
    (Some l.last) l.invariant.2 in
    let form : StoredSize = stored_after (Some l.last) size.result in
    let next = c.put_size-writer-in-loop-k.result in
    let is = c.put_size-writer-in-loop-k.ensures.1 in (
      size_turn ends a.from l.k inside form stored l.invariant.0 _ next.place
          c.put_size-writer-in-loop-k.ensures.0 (place_after l.writer next form is),
      search rules,
      known_turn ends (a.from + l.k) size.result in-ends size.ensures _ (omega arith),
      flags-after l.writer next form is
          ∙ gathered_turn ends a.from l.k l.writer.flags form l.invariant.3 stored,
    )

pub returns : goal.returns
returns c =
    let l = c.loop-k in
    let a = c.args in
    let ends = a.ends.now in
    let group = part (stored_of ends) a.from 8 in
    let all : c.min-reads.result ≡ min 8 (length ends - a.from) = omega (arith, c.min-reads.ensures) in
    let done : l.k ≡ c.min-reads.result = omega (arith, all) in
    let end = group-end ends a.from l.k (omega (arith, all)) l.invariant.0 in
    let bits : l.writer.flags ≡ gathered ends a.from c.min-reads.result =
    l.invariant.3 ∙ ap (gathered ends a.from) done in
    write_group group a.out.now a.at (omega arith) l.out _ l.writer.place _ end.0
    end.1
    (gathered_bytes ends a.from c.min-reads.result l.writer.flags all bits)
    c.put_u16.ensures

use Prim.Native.Nat.{◌*◌, ◌<◌}
use native.Mathlib.Omega.{arith}
use lib.ListN.{length}
use Rattle.base.proofs.PastingLaws.{pasting-start}
use Rattle.dna.specs.Sizes.{size_section_bytes}
use Rattle.lengths.specs.Form.{stored_of}
use Rattle.lengths.proofs.WritingLaws.{section_room, section_turn, section_end}
use Rattle.lengths.proofs.write.put_sizes.Goals as goal

pub loop-group-init : goal.loop-group-init
loop-group-init c =
    let a = c.args in
    pasting-start a.out.now a.at (size_section_bytes (stored_of a.ends.now)) c.requires.ends_in_bounds

pub put_group-place-requires : goal.put_group-place-requires
put_group-place-requires c =
    let l = c.loop-group in
    let inside : 8 * l.group < length c.args.ends.now = omega arith in
    record {
      from_in_bounds = (inside, c.requires.ends_len_bound);
      from_in_bounds_2 = section_room c.args.ends.now (8 * l.group) inside l.invariant;
    }

pub loop-group-preserved : goal.loop-group-preserved
loop-group-preserved c =
    let a = c.args in
    let l = c.loop-group in
    let inside : 8 * l.group < length a.ends.now = omega arith in
    section_turn a.ends.now (8 * l.group) inside l.invariant _ _ _ (omega arith)
    c.put_group-place.ensures.0 c.put_group-place.ensures.1

pub returns : goal.returns
returns c =
    let a = c.args in
    section_end a.ends.now (8 * c.loop-group.group) (omega arith) c.loop-group.invariant

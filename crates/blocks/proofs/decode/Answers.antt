-- `blocks::decode` meets its contract: one law for each way through. Assumes nothing.
-- Where the function begins, and what was judged there.
use mathlib.Core.Path.{◌≡◌, sym, ap, ◌∙◌}
use Prim.Native.Nat.{ℕ}
use native.Mathlib.Omega.{arith}
use mathlib.Core.Bool.{false, ◌||◌}
use mathlib.Core.List.{flatten}
use lib.ListN.{length}
use lib.Dec.{ltb}
use borrow.Author.Tests.{ltb-false}
use Rattle.std.proofs.lemmas.Result.{err_from_is_err_and}
use Rattle.base.specs.Lists.{AllBytes}
use Rattle.dna.specs.Refused.{numbered_block}
use Rattle.base.proofs.Tests.{or-neither}
use Rattle.format.specs.Joined.{block_reads}
use Rattle.format.specs.BlockAnswer.{Buffers, buffers_of}
use Rattle.blocks.specs.Named.{name_count}
use Rattle.blocks.proofs.AcceptedLaws.{Judged, block-judged, block-parts, counts_are}
use Rattle.blocks.proofs.AcceptedLaws.{letters_count}
use Rattle.blocks.proofs.NamesLaws.{NamesKnown, names-known, names_none}
use Rattle.blocks.proofs.DecodeLaws.{decode_refused, decode_unnamed, decode_no_room}
use Rattle.blocks.proofs.DecodeLaws.{decode_written, reads_full, names_full, all_fit}
use Rattle.blocks.proofs.decode.Goals as goal
use Rattle.blocks.proofs.decode.Goals.{Else-names_room_too_small, Else-room_too_small, In_ok-block, In-Some, Start}

abbrev buffers : (c : Start) → Buffers
buffers c =
    buffers_of c.args.letters.now c.args.ends.now c.args.names.now
    c.args.name_ends.now

bytes : (c : In_ok-block) → AllBytes c.args.input.now
bytes c =
    record { each = λ k h. omega (arith, c.type_inv.input k) }

accepted : (c : In_ok-block)
    → (let a = c.args in
    Judged false a.bases a.reference.now a.input.now c.in_ok-block.block.bytes
    c.in_ok-block.block.counts)
unfolding numbered_block
accepted c =
    block-judged false _ _ _ _ _
    (sym (ap numbered_block c.in_ok-block.was) ∙ c.judge.ensures)

-- How many letters it has, and how many were counted; how many reads.
sizes : (c : In_ok-block)
    → (let counts = c.in_ok-block.block.counts in
    let a = c.args in
    let divided = (accepted c).divided in
    (length (flatten (block_reads a.reference.now a.bases divided)) ≡ counts.letters)
    × (length divided.lengths ≡ counts.reads))
sizes c =
    let a = c.args in
    let j = accepted c in
    let parts = block-parts _ _ _ _ _ j.answer in
    let counted = counts_are a.bases a.reference.now a.input.now j.divided (bytes c)
    parts _ j.counts_are in (
      letters_count a.bases a.reference.now a.input.now j.divided (bytes c) parts
          ∙ sym counted.0,
      sym counted.1,
    )

known : (c : In-Some)
    → NamesKnown c.args.input.now c.in-Some.size
known c =
    names-known _ _ (sym c.judge_names.ensures ∙ c.in-Some.is)

-- What the two tests of room say.
reads-room : (c : Else-room_too_small)
    → (
    let counts = c.in_ok-block.block.counts in
    (ltb (length c.args.letters.now) counts.letters ≡ false)
    × (ltb (length c.args.ends.now) counts.reads ≡ false))
reads-room c =
    let counts = c.in_ok-block.block.counts in
    or-neither (ltb (length c.args.letters.now) counts.letters)
    (ltb (length c.args.ends.now) counts.reads)
    (sym c.room_too_small.ensures ∙ c.if-room_too_small.false)

names-room : (c : Else-names_room_too_small)
    → (
    let a = c.args in
    (ltb (length a.names.now) c.in-Some.size ≡ false)
    × (ltb (length a.name_ends.now) (name_count a.input.now) ≡ false))
names-room c =
    let a = c.args in
    or-neither (ltb (length a.names.now) c.in-Some.size)
    (ltb (length a.name_ends.now) (name_count a.input.now))
    (ap (λ (n : ℕ). ltb (length a.names.now) c.in-Some.size
    || ltb (length a.name_ends.now) n) (sym c.name_count.ensures)
    ∙ sym c.names_room_too_small.ensures ∙ c.if-names_room_too_small.false)

pub returns-in_err-block : goal.returns-in_err-block
unfolding numbered_block
returns-in_err-block c =
    let a = c.args in
    let p = err_from_is_err_and c.from_residual.result c.from_residual.ensures.1 in
    let done =
    decode_refused a.bases a.reference.now a.input.now (buffers (goal.at.returns-in_err-block c).Start) _
    (sym (ap numbered_block c.in_err-block.was) ∙ c.judge.ensures) in
    rw (p.1, p.2) (done.outcome, done.buffers_are)

pub judge_names-requires : goal.judge_names-requires
judge_names-requires c =
    (block-parts _ _ _ _ _ (accepted (goal.at.judge_names-requires c).In_ok-block).answer).ready.accepted

pub returns-in_default : goal.returns-in_default
returns-in_default c =
    let a = c.args in
    let done =
    decode_unnamed a.bases a.reference.now a.input.now (accepted (goal.at.returns-in_default c).In_ok-block).divided _
    (accepted (goal.at.returns-in_default c).In_ok-block).answer (buffers (goal.at.returns-in_default c).Start)
    (names_none a.input.now (sym c.judge_names.ensures ∙ c.in_default.is)) in
    rw c.into.ensures (done.outcome, done.buffers_are)

pub returns-then-room_too_small : goal.returns-then-room_too_small
returns-then-room_too_small c =
    let a = c.args in
    let done =
    decode_no_room a.bases a.reference.now a.input.now (accepted (goal.at.returns-then-room_too_small c).In_ok-block).divided _
    (accepted (goal.at.returns-then-room_too_small c).In_ok-block).answer _ (known (goal.at.returns-then-room_too_small c).In-Some).end (known (goal.at.returns-then-room_too_small c).In-Some).answer (buffers (goal.at.returns-then-room_too_small c).Start)
    (reads_full a.reference.now a.bases (buffers (goal.at.returns-then-room_too_small c).Start) (accepted (goal.at.returns-then-room_too_small c).In_ok-block).divided _ _ _
    (sizes (goal.at.returns-then-room_too_small c).In_ok-block).0 (sizes (goal.at.returns-then-room_too_small c).In_ok-block).1 (sym c.room_too_small.ensures ∙ c.if-room_too_small.true)) in
    rw c.into-then-room_too_small.ensures (done.outcome, done.buffers_are)

pub name_count-requires : goal.name_count-requires
name_count-requires c =
    (block-parts _ _ _ _ _ (accepted (goal.at.name_count-requires c).In_ok-block).answer).ready.accepted

pub returns-then-names_room_too_small : goal.returns-then-names_room_too_small
returns-then-names_room_too_small c =
    let a = c.args in
    let done =
    decode_no_room a.bases a.reference.now a.input.now (accepted (goal.at.returns-then-names_room_too_small c).In_ok-block).divided _
    (accepted (goal.at.returns-then-names_room_too_small c).In_ok-block).answer _ (known (goal.at.returns-then-names_room_too_small c).In-Some).end (known (goal.at.returns-then-names_room_too_small c).In-Some).answer (buffers (goal.at.returns-then-names_room_too_small c).Start)
    (names_full a.reference.now a.bases (buffers (goal.at.returns-then-names_room_too_small c).Start) (accepted (goal.at.returns-then-names_room_too_small c).In_ok-block).divided _ _ _
    (sym (known (goal.at.returns-then-names_room_too_small c).In-Some).size) ((known (goal.at.returns-then-names_room_too_small c).In-Some).count ∙ sym c.name_count.ensures)
    (sym c.names_room_too_small.ensures ∙ c.if-names_room_too_small.true)) in
    rw c.into-then-names_room_too_small.ensures (done.outcome, done.buffers_are)

pub write_names-requires : goal.write_names-requires
write_names-requires c =
    let a = c.args in
    record {
      accepted = (block-parts _ _ _ _ _ (accepted (goal.at.write_names-requires c).In_ok-block).answer).ready.accepted;
      judged_as = sym c.judge_names.ensures ∙ c.in-Some.is;
      names_fit = ltb-false (length a.names.now) _ (names-room (goal.at.write_names-requires c).Else-names_room_too_small).0;
      ends_fit = ltb-false (length a.name_ends.now) _ (names-room (goal.at.write_names-requires c).Else-names_room_too_small).1;
    }

pub write_reads-requires : goal.write_reads-requires
write_reads-requires c =
    let a = c.args in
    let counts = c.in_ok-block.block.counts in
    record {
      divided = (accepted (goal.at.write_reads-requires c).In_ok-block).divided;
      answer = (accepted (goal.at.write_reads-requires c).In_ok-block).answer;
      letters_fit =
          omega (
            arith,
            ltb-false (length a.letters.now) counts.letters (reads-room (goal.at.write_reads-requires c).Else-room_too_small).0,
            (sizes (goal.at.write_reads-requires c).In_ok-block).0,
          );
      ends_fit =
          omega (
            arith,
            ltb-false (length a.ends.now) counts.reads (reads-room (goal.at.write_reads-requires c).Else-room_too_small).1,
            (sizes (goal.at.write_reads-requires c).In_ok-block).1,
          );
    }

pub returns : goal.returns
returns c =
    let a = c.args in
    let written = c.write_reads.ensures (accepted (goal.at.returns c).In_ok-block).divided (accepted (goal.at.returns c).In_ok-block).answer in
    let done =
    decode_written a.bases a.reference.now a.input.now (accepted (goal.at.returns c).In_ok-block).divided _
    (accepted (goal.at.returns c).In_ok-block).answer _ (known (goal.at.returns c).In-Some).end (known (goal.at.returns c).In-Some).answer (buffers (goal.at.returns c).Start)
    (all_fit a.reference.now a.bases (buffers (goal.at.returns c).Start) (accepted (goal.at.returns c).In_ok-block).divided _ _ _ _ _
    (sizes (goal.at.returns c).In_ok-block).0 (sizes (goal.at.returns c).In_ok-block).1 (sym (known (goal.at.returns c).In-Some).size) (known (goal.at.returns c).In-Some).count (reads-room (goal.at.returns c).Else-room_too_small).0
    (reads-room (goal.at.returns c).Else-room_too_small).1 (names-room (goal.at.returns c).Else-names_room_too_small).0 (names-room (goal.at.returns c).Else-names_room_too_small).1)
    _ _ _ _ _ written c.write_names.ensures.0 c.write_names.ensures.1 in
    (done.outcome, done.buffers_are)

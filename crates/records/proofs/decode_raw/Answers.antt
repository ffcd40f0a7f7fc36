-- `records::decode_raw` meets its contract: one law for each way through. Assumes nothing.
-- The letters are there.
use mathlib.Core.Path.{◌≡◌, sym, ◌∙◌}
use Prim.Native.Nat.{◌+◌, ◌≤◌}
use native.Mathlib.Omega.{arith}
use lib.ListN.{length}
use Rattle.base.specs.Packed.{packed_length}
use Rattle.dna.specs.declared.Record.TheVariants as kinds
use Rattle.dna.specs.Refused.{refusal_number, numbered}
use Rattle.records.specs.Decoded.{with_list}
use Rattle.records.proofs.RawLaws.{raw_counts, raw_cut, raw_stray, raw_padded, raw_accepted}
use mathlib.Core.Path.{ap}
use mathlib.Core.Bool.{not}
use Rattle.records.proofs.decode_raw.Goals as goal
use Rattle.records.proofs.decode_raw.Goals.{Else-section-start}

room : (c : Else-section-start)
    → let a = c.args in
    a.at + 1 + packed_length 4 a.context.size ≤ length a.section.now
room c = omega (arith, c.if-section-start.false, c.packed_length-bytes.ensures)

pub returns-then-count-ne0 : goal.returns-then-count-ne0
unfolding numbered refusal_number
returns-then-count-ne0 c =
    let a = c.args in
    sym
    (raw_counts a.context a.section.now a.at a.count
    c.requires.perfect_value.0 c.requires.at_in_bounds c.requires.perfect_value.1 (omega (arith, c.if-count-ne0.true)))

pub returns-then-section-start : goal.returns-then-section-start
unfolding numbered refusal_number
returns-then-section-start c =
    let a = c.args in
    sym
    (raw_cut a.context a.section.now a.at a.count
    c.requires.perfect_value.0 c.requires.at_in_bounds c.requires.perfect_value.1 c.if-count-ne0.false
    (omega (arith, c.if-section-start.true, c.packed_length-bytes.ensures)))

pub returns-then-raw_bit_stray : goal.returns-then-raw_bit_stray
unfolding numbered refusal_number
returns-then-raw_bit_stray c =
    let a = c.args in
    sym
    (raw_stray a.context a.section.now a.at a.count
    c.requires.perfect_value.0 c.requires.at_in_bounds c.requires.perfect_value.1 c.if-count-ne0.false
    (room (goal.at.returns-then-raw_bit_stray c).Else-section-start) (sym c.raw_bit_stray.ensures ∙ c.if-raw_bit_stray.true))

pub returns-then-not-padding_is_zero : goal.returns-then-not-padding_is_zero
unfolding numbered refusal_number
returns-then-not-padding_is_zero c =
    let a = c.args in
    sym
    (raw_padded a.context a.section.now a.at a.count
    c.requires.perfect_value.0 c.requires.at_in_bounds c.requires.perfect_value.1 c.if-count-ne0.false
    (room (goal.at.returns-then-not-padding_is_zero c).Else-section-start) (sym c.raw_bit_stray.ensures ∙ c.if-raw_bit_stray.false)
    c.padding_is_zero.ensures (ap not c.if-not-padding_is_zero.true))

pub returns : goal.returns
returns c =
    let a = c.args in
    let made : numbered c.with_list.result
    ≡ with_list kinds.Raw (a.at + 1) 0 (a.at + 1) (numbered c.read_n_list-list.result) =
    c.with_list.ensures in
    made
    ∙ sym
    (raw_accepted a.context a.section.now a.at a.count
    c.requires.perfect_value.0 c.requires.at_in_bounds c.requires.perfect_value.1 c.if-count-ne0.false
    (room (goal.at.returns c).Else-section-start) (sym c.raw_bit_stray.ensures ∙ c.if-raw_bit_stray.false)
    c.padding_is_zero.ensures (ap not c.if-not-padding_is_zero.false) c.packed_length-bytes.ensures
    c.read_n_list-list.ensures)

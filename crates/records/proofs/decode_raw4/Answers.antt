-- `records::decode_raw4` meets its contract: one law for each way through. Assumes nothing.
-- The letters are there.
use mathlib.Core.Path.{◌≡◌, sym, ◌∙◌}
use Prim.Native.Nat.{◌+◌, ◌≤◌}
use native.Mathlib.Omega.{arith}
use lib.ListN.{length}
use Rattle.base.specs.Packed.{packed_length}
use Rattle.dna.specs.declared.Record.TheVariants as kinds
use Rattle.dna.specs.Refused.{refusal_number, numbered}
use Rattle.records.specs.Decoded.{class_number, with_list}
use Rattle.records.proofs.NListLaws.{found_list}
use Rattle.records.proofs.Raw4Laws.{raw4_counts, raw4_cut, raw4_stray, raw4_above}
use Rattle.records.proofs.Raw4Laws.{raw4_padded, raw4_wrong, raw4_accepted}
use mathlib.Core.Path.{ap}
use mathlib.Core.Bool.{not}
use Rattle.records.proofs.decode_raw4.Goals as goal
use Rattle.records.proofs.decode_raw4.Goals.{Else-section-start}

room : (c : Else-section-start)
    → let a = c.args in
    a.at + 1 + packed_length 2 a.context.size ≤ length a.section.now
room c = omega (arith, c.if-section-start.false, c.packed_length-bytes.ensures)

pub returns-then-count-ne0 : goal.returns-then-count-ne0
unfolding numbered refusal_number
returns-then-count-ne0 c =
    let a = c.args in
    sym
    (raw4_counts a.context a.section.now a.at a.count
    c.requires.perfect_value.0 c.requires.at_in_bounds c.requires.perfect_value.1 (omega (arith, c.if-count-ne0.true)))

pub returns-then-section-start : goal.returns-then-section-start
unfolding numbered refusal_number
returns-then-section-start c =
    let a = c.args in
    sym
    (raw4_cut a.context a.section.now a.at a.count
    c.requires.perfect_value.0 c.requires.at_in_bounds c.requires.perfect_value.1 c.if-count-ne0.false
    (omega (arith, c.if-section-start.true, c.packed_length-bytes.ensures)))

pub returns-then-raw_bit_stray : goal.returns-then-raw_bit_stray
unfolding numbered refusal_number
returns-then-raw_bit_stray c =
    let a = c.args in
    sym
    (raw4_stray a.context a.section.now a.at a.count
    c.requires.perfect_value.0 c.requires.at_in_bounds c.requires.perfect_value.1 c.if-count-ne0.false
    (room (goal.at.returns-then-raw_bit_stray c).Else-section-start) (sym c.raw_bit_stray.ensures ∙ c.if-raw_bit_stray.true))

pub returns-in_default : goal.returns-in_default
unfolding numbered refusal_number
returns-in_default c =
    let a = c.args in
    sym
    (raw4_above a.context a.section.now a.at a.count
    c.requires.perfect_value.0 c.requires.at_in_bounds c.requires.perfect_value.1 c.if-count-ne0.false
    (room (goal.at.returns-in_default c).Else-section-start) (sym c.raw_bit_stray.ensures ∙ c.if-raw_bit_stray.false)
    (ap class_number (sym c.in_default.is) ∙ c.holds_n.ensures))

pub returns-then-not-padding_is_zero : goal.returns-then-not-padding_is_zero
unfolding numbered refusal_number
returns-then-not-padding_is_zero c =
    let a = c.args in
    sym
    (raw4_padded a.context a.section.now a.at a.count
    c.requires.perfect_value.0 c.requires.at_in_bounds c.requires.perfect_value.1 c.if-count-ne0.false
    (room (goal.at.returns-then-not-padding_is_zero c).Else-section-start) (sym c.raw_bit_stray.ensures ∙ c.if-raw_bit_stray.false)
    c.in-Some.has_n (ap class_number (sym c.in-Some.is) ∙ c.holds_n.ensures)
    c.padding_is_zero.ensures (ap not c.if-not-padding_is_zero.true))

pub returns-then-has_n-context : goal.returns-then-has_n-context
unfolding numbered refusal_number
returns-then-has_n-context c =
    let a = c.args in
    sym
    (raw4_wrong a.context a.section.now a.at a.count
    c.requires.perfect_value.0 c.requires.at_in_bounds c.requires.perfect_value.1 c.if-count-ne0.false
    (room (goal.at.returns-then-has_n-context c).Else-section-start) (sym c.raw_bit_stray.ensures ∙ c.if-raw_bit_stray.false)
    c.in-Some.has_n (ap class_number (sym c.in-Some.is) ∙ c.holds_n.ensures)
    c.padding_is_zero.ensures (ap not c.if-not-padding_is_zero.false) c.if-has_n-context.true)

pub returns : goal.returns
unfolding numbered
returns c =
    let a = c.args in
    let end = a.at + 1 + c.packed_length-bytes.result in
    let made : numbered c.with_list.result
    ≡ with_list kinds.Raw4 (a.at + 1) 0 (a.at + 1) (found_list end 0 end) =
    c.with_list.ensures in
    made
    ∙ sym
    (raw4_accepted a.context a.section.now a.at a.count
    c.requires.perfect_value.0 c.requires.at_in_bounds c.requires.perfect_value.1 c.if-count-ne0.false
    (room (goal.at.returns c).Else-section-start) (sym c.raw_bit_stray.ensures ∙ c.if-raw_bit_stray.false)
    c.in-Some.has_n (ap class_number (sym c.in-Some.is) ∙ c.holds_n.ensures)
    c.padding_is_zero.ensures (ap not c.if-not-padding_is_zero.false) c.if-has_n-context.false
    c.packed_length-bytes.ensures)

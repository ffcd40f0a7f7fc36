-- `records::decode_local` meets its contract: one law for each way through. Assumes nothing.
-- There is no position.
use mathlib.Core.Path.{◌≡◌, ap, refl, sym, ◌∙◌}
use Prim.Native.Nat.{◌+◌, ◌≤◌, ◌<◌, ◌^◌}
use native.Mathlib.Omega.{arith}
use lib.ListN.{length, get_or}
use Rattle.base.specs.Packed.{packed_length}
use Rattle.std.specs.Prelude.{Result, Err}
use Rattle.dna.specs.Refused.{refusal_number, number_of, numbered}
use Rattle.dna.specs.declared.refusals.Refusal.{Refusal}
use Rattle.records.specs.declared.Decoded.{Decoded}
use Rattle.dna.specs.declared.Record.TheVariants as kinds
use Rattle.records.specs.Decoded.{position_at, with_list}
use Rattle.records.proofs.FieldLaws.{found_position}
use Rattle.records.proofs.RefusalLaws.{refusal-positive}
use Rattle.records.proofs.PositionLaws.{position-12, PositionFound, position-found, position-below}
use Rattle.records.proofs.LocalLaws.{local_cut, local_short, local_packed_cut, local_refused}
use Rattle.records.proofs.LocalLaws.{local_accepted}
use Rattle.records.proofs.decode_local.Goals as goal
use Rattle.records.proofs.decode_local.Goals.{After-packed_length-bytes, Else-section-packed, In_ok-start, In_err-start, Then-section-packed}

is_cut : (c : In_err-start)
    → let a = c.args in
    position_at a.context.bits.step a.context.previous a.section.now (a.at + 1)
    ≡ Err (refusal_number c.in_err-start.field-0.0)
unfolding numbered
is_cut c = sym c.read_position.ensures ∙ ap numbered c.in_err-start.was

-- A position was read.
is_found : (c : In_ok-start)
    → let a = c.args in
    position_at a.context.bits.step a.context.previous a.section.now (a.at + 1)
    ≡ found_position c.in_ok-start.start.position c.in_ok-start.start.next
unfolding numbered
is_found c = sym c.read_position.ensures ∙ ap numbered c.in_ok-start.was

found : (c : In_ok-start)
    → let a = c.args in
    PositionFound a.context.bits.step a.context.previous a.section.now (a.at + 1)
    c.in_ok-start.start.position c.in_ok-start.start.next
found c = position-found _ _ _ _ _ _ (is_found c)

small : (c : In_ok-start) → c.in_ok-start.start.position < 2 ^ 33
small c =
    position-below _ _ _ _ _ _
    (record { each = λ k h. omega (arith, c.type_inv.section k) })
    c.args.context.previous_bounded (found c)

-- Left and right together.
sum : (c : After-packed_length-bytes)
    →
    let a = c.args in
    let n = c.in_ok-start.start.next in
    get_or a.section.now (n + a.count) 0 + get_or a.section.now (n + a.count + 1) 0
    ≡ c.from.result + c.from-2.result
sum c = omega (arith, c.from.ensures, c.from-2.ensures)

-- The letters of the ends are cut.
cut : (c : Then-section-packed)
    →
    let a = c.args in
    length a.section.now
    < c.in_ok-start.start.next + a.count + 2
    + packed_length 4 (c.from.result + c.from-2.result)
cut c = omega (arith, c.if-section-packed.true, c.packed_length-bytes.ensures)

-- They are there.
room : (c : Else-section-packed)
    →
    let a = c.args in
    c.in_ok-start.start.next + a.count + 2
    + packed_length 4 (c.from.result + c.from-2.result)
    ≤ length a.section.now
room c =
    omega (
      arith,
      c.if-section-packed.false,
      c.packed_length-bytes.ensures,
      c.if-section-start.false,
      (found (goal.at.Else-section-packed c).In_ok-start).fits,
    )

pub returns-in_err-start : goal.returns-in_err-start
unfolding numbered
returns-in_err-start c =
    let a = c.args in
    let cut = is_cut (goal.at.returns-in_err-start c).In_err-start in
    let is-12 : refusal_number c.in_err-start.field-0.0 ≡ 12 = position-12 _ _ _ _ cut in
    let same : ◌≡◌ {A = Result Decoded Refusal} c.from_residual.result (Err c.in_err-start.field-0.0) =
    grind (arith, c.from_residual.ensures) in
    ap numbered same
    ∙ ap Err is-12
    ∙ sym
    (local_cut a.context a.section.now a.at a.count
    c.requires.perfect_value.0 c.requires.at_in_bounds c.requires.perfect_value.1 (cut ∙ ap Err is-12))

pub overflow_sub-section : goal.overflow_sub-section
overflow_sub-section c =
    omega (arith, (found (goal.at.overflow_sub-section c).In_ok-start).fits)

pub overflow_add-count : goal.overflow_add-count
overflow_add-count c =
    omega (arith, c.type_inv.section c.args.at)

pub returns-then-section-start : goal.returns-then-section-start
unfolding numbered refusal_number
returns-then-section-start c =
    let a = c.args in
    sym
    (local_short a.context a.section.now a.at a.count
    c.requires.perfect_value.0 c.requires.at_in_bounds c.requires.perfect_value.1 _ _ (is_found (goal.at.returns-then-section-start c).In_ok-start)
    (omega (arith, c.if-section-start.true, (found (goal.at.returns-then-section-start c).In_ok-start).fits)))

pub returns-then-section-packed : goal.returns-then-section-packed
unfolding numbered refusal_number
returns-then-section-packed c =
    let a = c.args in
    sym
    (local_packed_cut a.context a.section.now a.at
    a.count c.requires.perfect_value.0 c.requires.at_in_bounds c.requires.perfect_value.1 _ _ (is_found (goal.at.returns-then-section-packed c).In_ok-start)
    _ _ _ refl refl (sum (goal.at.returns-then-section-packed c).After-packed_length-bytes) (cut (goal.at.returns-then-section-packed c).Then-section-packed))

pub local_fault-requires : goal.local_fault-requires
local_fault-requires c =
    let a = c.args in
    (room (goal.at.local_fault-requires c).Else-section-packed, omega (arith, c.type_inv.section a.at), small (goal.at.local_fault-requires c).In_ok-start)

pub returns-in_err-local_fault : goal.returns-in_err-local_fault
unfolding numbered number_of
returns-in_err-local_fault c =
    let a = c.args in
    let refusal = c.in_err-local_fault.field-0.0 in
    let number : number_of c.local_fault.result ≡ refusal_number refusal =
    ap number_of c.in_err-local_fault.was in
    let same : ◌≡◌ {A = Result Decoded Refusal} c.from_residual-in_err-local_fault.result (Err refusal) =
    grind (arith, c.from_residual-in_err-local_fault.ensures) in
    ap numbered same
    ∙ ap Err (sym number)
    ∙ sym
    (local_refused a.context a.section.now a.at a.count
    c.requires.perfect_value.0 c.requires.at_in_bounds c.requires.perfect_value.1 _ _ (is_found (goal.at.returns-in_err-local_fault c).In_ok-start)
    _ _ _ refl refl (sum (goal.at.returns-in_err-local_fault c).After-packed_length-bytes) (room (goal.at.returns-in_err-local_fault c).Else-section-packed) _ c.local_fault.ensures
    (omega (arith, number, refusal-positive refusal)))

pub returns : goal.returns
unfolding number_of
returns c =
    let a = c.args in
    let n = c.in_ok-start.start.next in
    let made : numbered c.with_list.result
    ≡ with_list (kinds.Local c.placement_of-placement.result) n a.count (n + a.count + 2)
    (numbered c.read_n_list-list.result) = c.with_list.ensures in
    made
    ∙ sym
    (local_accepted a.context a.section.now a.at
    a.count c.requires.perfect_value.0 c.requires.at_in_bounds c.requires.perfect_value.1 _ _ (is_found (goal.at.returns c).In_ok-start)
    _ _ _ refl refl (sum (goal.at.returns c).After-packed_length-bytes) (room (goal.at.returns c).Else-section-packed) _ c.local_fault.ensures (ap number_of c.in_ok-local_fault.was)
    c.placement_of-placement.ensures c.packed_length-bytes.ensures
    c.read_n_list-list.ensures)

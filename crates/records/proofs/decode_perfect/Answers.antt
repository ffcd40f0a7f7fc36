-- `records::decode_perfect` meets its contract: one law for each way through. Assumes nothing.
-- There is no position.
use mathlib.Core.Path.{◌≡◌, ap, sym, ◌∙◌}
use Prim.Native.Nat.{◌<◌, ◌^◌}
use native.Mathlib.Omega.{arith}
use Rattle.std.specs.Prelude.{Result, Err}
use Rattle.dna.specs.Refused.{refusal_number, numbered}
use Rattle.dna.specs.declared.refusals.Refusal.{Refusal}
use Rattle.records.specs.declared.Decoded.{Decoded}
use Rattle.dna.specs.declared.Record.TheVariants as kinds
use Rattle.records.specs.Decoded.{position_at, with_list}
use Rattle.records.proofs.FieldLaws.{found_position}
use Rattle.records.proofs.PositionLaws.{position-12, PositionFound, position-found, position-below}
use Rattle.records.proofs.AlignedLaws.{perfect_cut, perfect_outside, perfect_accepted}
use Rattle.records.proofs.decode_perfect.Goals as goal
use Rattle.records.proofs.decode_perfect.Goals.{In_ok-start, In_err-start}

is_cut : (c : In_err-start)
    → let a = c.args in
    position_at a.context.bits.step a.context.previous a.section.now a.at
    ≡ Err (refusal_number c.in_err-start.field-0.0)
unfolding numbered
is_cut c = sym c.read_position.ensures ∙ ap numbered c.in_err-start.was

-- A position was read.
is_found : (c : In_ok-start)
    → let a = c.args in
    position_at a.context.bits.step a.context.previous a.section.now a.at
    ≡ found_position c.in_ok-start.start.position c.in_ok-start.start.next
unfolding numbered
is_found c = sym c.read_position.ensures ∙ ap numbered c.in_ok-start.was

found : (c : In_ok-start)
    → let a = c.args in
    PositionFound a.context.bits.step a.context.previous a.section.now a.at
    c.in_ok-start.start.position c.in_ok-start.start.next
found c = position-found _ _ _ _ _ _ (is_found c)

small : (c : In_ok-start) → c.in_ok-start.start.position < 2 ^ 33
small c =
    position-below _ _ _ _ _ _
    (record { each = λ k h. omega (arith, c.type_inv.section k) })
    c.args.context.previous_bounded (found c)

pub returns-in_err-start : goal.returns-in_err-start
unfolding numbered
returns-in_err-start c =
    let a = c.args in
    let cut = is_cut (goal.at.returns-in_err-start c).In_err-start in
    let is-12 : refusal_number c.in_err-start.field-0.0 ≡ 12 = position-12 _ _ _ _ cut in
    let same : ◌≡◌ {A = Result Decoded Refusal} c.from_residual.result (Err c.in_err-start.field-0.0) =
    grind (arith, c.from_residual.ensures) in
    ap numbered same
    ∙ ap Err is-12
    ∙ sym
    (perfect_cut a.context a.section.now a.at
    c.requires.perfect_value (cut ∙ ap Err is-12))

pub overflow_add-start : goal.overflow_add-start
overflow_add-start c =
    omega (arith, found (goal.at.overflow_add-start c).In_ok-start, small (goal.at.overflow_add-start c).In_ok-start)

pub returns-then-context-start : goal.returns-then-context-start
unfolding numbered refusal_number
returns-then-context-start c =
    let a = c.args in
    sym
    (perfect_outside a.context a.section.now a.at
    c.requires.perfect_value _ _ (is_found (goal.at.returns-then-context-start c).In_ok-start) c.if-context-start.true)

pub read_n_list-list-requires : goal.read_n_list-list-requires
read_n_list-list-requires c =
    let f = found (goal.at.read_n_list-list-requires c).In_ok-start in (omega (arith, f.fits), omega arith)

pub returns : goal.returns
returns c =
    let a = c.args in
    let n = c.in_ok-start.start.next in
    let made : numbered c.with_list.result
    ≡ with_list (kinds.Perfect c.placement_of-placement.result) n 0 n
    (numbered c.read_n_list-list.result) = c.with_list.ensures in
    made
    ∙ sym
    (perfect_accepted a.context a.section.now a.at
    c.requires.perfect_value _ _ (is_found (goal.at.returns c).In_ok-start) c.if-context-start.false
    c.placement_of-placement.ensures c.read_n_list-list.ensures)

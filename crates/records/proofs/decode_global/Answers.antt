-- `records::decode_global` meets its contract: one law for each way through. Assumes nothing.
use mathlib.Core.Path.{◌≡◌, sym, ap, ◌∙◌}
use Prim.Native.Nat.{◌+◌, ◌≤◌, ◌<◌, ◌^◌}
use native.Mathlib.Omega.{arith}
use mathlib.Core.Bool.{not}
use lib.ListN.{length}
use Rattle.std.specs.Prelude.{Result, Err}
use Rattle.dna.specs.Refused.{refusal_number, numbered}
use Rattle.dna.specs.declared.refusals.Refusal.{Refusal}
use Rattle.records.specs.declared.Decoded.{Decoded}
use Rattle.dna.specs.declared.Record.TheVariants as kinds
use Rattle.records.specs.Decoded.{position_at, with_list}
use Rattle.records.proofs.FieldLaws.{found_position}
use Rattle.records.proofs.PositionLaws.{position-12, PositionFound, position-found, position-below}
use Rattle.records.proofs.AlignedLaws.{global_none, global_cut, global_short, global_outside}
use Rattle.records.proofs.AlignedLaws.{global_misfit, global_accepted}
use Rattle.records.proofs.decode_global.Goals as goal
use Rattle.records.proofs.decode_global.Goals.{Else-count-eq0, Else-section-start, In_ok-start, In_err-start}

some : (c : Else-count-eq0) → 0 < c.args.count
some c = omega (arith, c.if-count-eq0.false)

-- There is no position.
is_cut : (c : In_err-start)
    → let a = c.args in
    position_at a.context.bits.step a.context.previous a.section.now (a.at + 1)
    ≡ Err (refusal_number c.in_err-start.field-0.0)
unfolding numbered
is_cut c = sym c.read_position.ensures ∙ ap numbered c.in_err-start.was

-- A position was read.
is_found : (c : In_ok-start)
    → let a = c.args in
    position_at a.context.bits.step a.context.previous a.section.now (a.at + 1)
    ≡ found_position c.in_ok-start.start.position c.in_ok-start.start.next
unfolding numbered
is_found c = sym c.read_position.ensures ∙ ap numbered c.in_ok-start.was

found : (c : In_ok-start)
    → let a = c.args in
    PositionFound a.context.bits.step a.context.previous a.section.now (a.at + 1)
    c.in_ok-start.start.position c.in_ok-start.start.next
found c = position-found _ _ _ _ _ _ (is_found c)

small : (c : In_ok-start) → c.in_ok-start.start.position < 2 ^ 33
small c =
    position-below _ _ _ _ _ _
    (record { each = λ k h. omega (arith, c.type_inv.section k) })
    c.args.context.previous_bounded (found c)

-- The entries are there.
room : (c : Else-section-start)
    →
    let a = c.args in
    c.in_ok-start.start.next + a.count ≤ length a.section.now
room c = omega (arith, c.if-section-start.false, (found (goal.at.Else-section-start c).In_ok-start).fits)

pub returns-then-count-eq0 : goal.returns-then-count-eq0
unfolding numbered refusal_number
returns-then-count-eq0 c =
    let a = c.args in
    sym
    (global_none a.context a.section.now a.at a.count
    c.requires.perfect_value.0 c.requires.at_in_bounds c.requires.perfect_value.1 c.if-count-eq0.true)

pub returns-in_err-start : goal.returns-in_err-start
unfolding numbered
returns-in_err-start c =
    let a = c.args in
    let cut = is_cut (goal.at.returns-in_err-start c).In_err-start in
    let is-12 : refusal_number c.in_err-start.field-0.0 ≡ 12 = position-12 _ _ _ _ cut in
    let same : ◌≡◌ {A = Result Decoded Refusal} c.from_residual.result (Err c.in_err-start.field-0.0) =
    grind (arith, c.from_residual.ensures) in
    ap numbered same
    ∙ ap Err is-12
    ∙ sym
    (global_cut a.context a.section.now a.at a.count
    c.requires.perfect_value.0 c.requires.at_in_bounds c.requires.perfect_value.1 (some (goal.at.returns-in_err-start c).Else-count-eq0) (cut ∙ ap Err is-12))

pub overflow_sub-section : goal.overflow_sub-section
overflow_sub-section c =
    omega (arith, (found (goal.at.overflow_sub-section c).In_ok-start).fits)

pub returns-then-section-start : goal.returns-then-section-start
unfolding numbered refusal_number
returns-then-section-start c =
    let a = c.args in
    sym
    (global_short a.context a.section.now a.at a.count
    c.requires.perfect_value.0 c.requires.at_in_bounds c.requires.perfect_value.1 (some (goal.at.returns-then-section-start c).Else-count-eq0) _ _
    (is_found (goal.at.returns-then-section-start c).In_ok-start) (omega (arith, c.if-section-start.true, (found (goal.at.returns-then-section-start c).In_ok-start).fits)))

pub overflow_add-start : goal.overflow_add-start
overflow_add-start c =
    omega (arith, small (goal.at.overflow_add-start c).In_ok-start)

pub returns-then-context-start : goal.returns-then-context-start
unfolding numbered refusal_number
returns-then-context-start c =
    let a = c.args in
    sym
    (global_outside a.context a.section.now a.at
    a.count c.requires.perfect_value.0 c.requires.at_in_bounds c.requires.perfect_value.1 (some (goal.at.returns-then-context-start c).Else-count-eq0) _ _
    (is_found (goal.at.returns-then-context-start c).In_ok-start) (room (goal.at.returns-then-context-start c).Else-section-start) c.if-context-start.true)

pub entries_fit-requires : goal.entries_fit-requires
entries_fit-requires c =
    let a = c.args in
    (room (goal.at.entries_fit-requires c).Else-section-start, omega (arith, c.type_inv.section a.at, c.requires.perfect_value.1))

pub returns-then-not-entries_fit : goal.returns-then-not-entries_fit
unfolding numbered refusal_number
returns-then-not-entries_fit c =
    let a = c.args in
    sym
    (global_misfit a.context a.section.now a.at a.count
    c.requires.perfect_value.0 c.requires.at_in_bounds c.requires.perfect_value.1 (some (goal.at.returns-then-not-entries_fit c).Else-count-eq0) _ _
    (is_found (goal.at.returns-then-not-entries_fit c).In_ok-start) (room (goal.at.returns-then-not-entries_fit c).Else-section-start) c.if-context-start.false
    (ap not (sym c.entries_fit.ensures) ∙ (ap not c.if-not-entries_fit.true)))

pub returns : goal.returns
returns c =
    let a = c.args in
    let n = c.in_ok-start.start.next in
    let made : numbered c.with_list.result
    ≡ with_list (kinds.Global c.placement_of-placement.result) n a.count (n + a.count)
    (numbered c.read_n_list-list.result) = c.with_list.ensures in
    made
    ∙ sym
    (global_accepted a.context a.section.now a.at
    a.count c.requires.perfect_value.0 c.requires.at_in_bounds c.requires.perfect_value.1 (some (goal.at.returns c).Else-count-eq0) _ _
    (is_found (goal.at.returns c).In_ok-start) (room (goal.at.returns c).Else-section-start) c.if-context-start.false
    (ap not (sym c.entries_fit.ensures) ∙ (ap not c.if-not-entries_fit.false))
    c.placement_of-placement.ensures c.read_n_list-list.ensures)

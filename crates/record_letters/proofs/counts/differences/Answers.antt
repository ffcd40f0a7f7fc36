-- `record_letters::counts::differences` meets its contract: by the kind. Assumes nothing.
-- What is known of the record, by its kind.
use mathlib.Core.Path.{refl, ◌≡◌, sym, ap, ap₂, subst, ◌∙◌}
use Prim.Native.Nat.{ℕ, ◌+◌, ◌-◌, ◌≤◌}
use native.Mathlib.Omega.{arith}
use Rattle.dna.specs.Reference.{max_reference_bases}
use Rattle.dna.specs.declared.Placement.{Placement}
use Rattle.dna.specs.declared.Record.{Record}
use Rattle.dna.specs.declared.Record.TheVariants as kinds
use Rattle.record_letters.specs.Laid.{local_leftmost, LocalExact, EntriesLaid, PlacedIn}
use Rattle.record_letters.proofs.CountLaws.{differences_of, no_perfect, no_raw, no_raw4}
use Rattle.record_letters.proofs.CountLaws.{of_global, of_local}
use Rattle.record_letters.proofs.counts.differences.Goals as goal
use Rattle.record_letters.proofs.counts.differences.Goals.{After-from, In-Global, In-Local}

global : (c : In-Global)
    → EntriesLaid c.args.section.now
    c.args.reference.now
    c.args.layout
    c.in-Global.placement.position
    c.args.size
global c =
    let a = c.args in
    subst
    (λ (r : Record). PlacedIn a.section.now a.reference.now a.size r a.layout)
    c.in-Global.is c.requires.placed

local : (c : In-Local)
    → PlacedIn c.args.section.now
    c.args.reference.now
    c.args.size (kinds.Local c.in-Local.placement)
    c.args.layout
local c =
    let a = c.args in
    subst
    (λ (r : Record). PlacedIn a.section.now a.reference.now a.size r a.layout)
    c.in-Local.is c.requires.placed

-- Its clips, as they are read.
clips : (c : After-from)
    →
    c.in-Local.placement.left + c.in-Local.placement.right
    ≡ c.from-left.result + c.from.result
clips c = omega (arith, c.from-left.ensures, c.from.ensures)

pub aligned_differences-requires : goal.aligned_differences-requires
aligned_differences-requires c =
    let a = c.args in (
      c.requires.lists,
      global (goal.at.aligned_differences-requires c).In-Global,
      omega arith,
    )

pub overflow_sub-aligned : goal.overflow_sub-aligned
overflow_sub-aligned c =
    omega (arith, clips (goal.at.overflow_sub-aligned c).After-from, (local (goal.at.overflow_sub-aligned c).In-Local).0)

pub local_leftmost-leftmost-requires : goal.local_leftmost-leftmost-requires
local_leftmost-leftmost-requires c =
    let a = c.args in
    let placement : Placement = c.in-Local.placement in
    record {
      local_exact = subst (λ (n : ℕ). LocalExact placement (a.size - n)) (clips (goal.at.local_leftmost-leftmost-requires c).After-from) (local (goal.at.local_leftmost-leftmost-requires c).In-Local).1;
      aligned_bound = subst
          (λ (n : ℕ).
          local_leftmost placement (a.size - n) + (a.size - n) ≤ max_reference_bases)
          (clips (goal.at.local_leftmost-leftmost-requires c).After-from) (local (goal.at.local_leftmost-leftmost-requires c).In-Local).2.stretch.small;
    }

pub aligned_differences-requires-in-Local : goal.aligned_differences-requires-in-Local
aligned_differences-requires-in-Local c =
    let a = c.args in
    let placement : Placement = c.in-Local.placement in (
      c.requires.lists,
      subst
          (λ (i : ℕ).
          EntriesLaid a.section.now a.reference.now a.layout i
          (a.size - (c.from-left.result + c.from.result)))
          (sym c.local_leftmost-leftmost.ensures)
          (subst
          (λ (n : ℕ).
          EntriesLaid a.section.now a.reference.now a.layout
          (local_leftmost placement (a.size - n)) (a.size - n))
          (clips (goal.at.aligned_differences-requires-in-Local c).After-from) (local (goal.at.aligned_differences-requires-in-Local c).In-Local).2),
      omega (arith, clips (goal.at.aligned_differences-requires-in-Local c).After-from, (local (goal.at.aligned_differences-requires-in-Local c).In-Local).0),
    )

pub returns-in-Perfect : goal.returns-in-Perfect
returns-in-Perfect c =
    let a = c.args in
    no_perfect a.section.now a.reference.now a.size a.layout
    c.in-Perfect.field-0
    ∙ ap (differences_of a.section.now a.reference.now a.size a.layout)
    (sym c.in-Perfect.is)

pub returns-in-Global : goal.returns-in-Global
returns-in-Global c =
    let a = c.args in
    c.aligned_differences.ensures
    ∙ of_global a.section.now a.reference.now a.size a.layout
    c.in-Global.placement c.is_forward-forward.result _
    c.is_forward-forward.ensures refl
    ∙ ap (differences_of a.section.now a.reference.now a.size a.layout)
    (sym c.in-Global.is)

pub returns-in-Local : goal.returns-in-Local
returns-in-Local c =
    let a = c.args in
    c.aligned_differences-in-Local.ensures
    ∙ of_local a.section.now a.reference.now a.size a.layout
    c.in-Local.placement c.is_forward.result c.local_leftmost-leftmost.result
    c.is_forward.ensures c.from-left.result
    (a.size - (c.from-left.result + c.from.result)) c.from-left.ensures
    (ap₂ (λ (m n : ℕ). a.size - (m + n)) c.from-left.ensures c.from.ensures)
    c.local_leftmost-leftmost.ensures
    ∙ ap (differences_of a.section.now a.reference.now a.size a.layout)
    (sym c.in-Local.is)

pub returns-in-Raw : goal.returns-in-Raw
returns-in-Raw c =
    let a = c.args in
    no_raw a.section.now a.reference.now a.size a.layout
    ∙ ap (differences_of a.section.now a.reference.now a.size a.layout)
    (sym c.in-Raw.is)

pub returns-in-Raw4 : goal.returns-in-Raw4
returns-in-Raw4 c =
    let a = c.args in
    no_raw4 a.section.now a.reference.now a.size a.layout
    ∙ ap (differences_of a.section.now a.reference.now a.size a.layout)
    (sym c.in-Raw4.is)

use mathlib.Core.Path.{◌≡◌, sym, ap, ◌∙◌}
use Prim.Native.Nat.{ℕ, ◌+◌, ◌-◌, ◌%◌, ◌≤◌, ◌<◌}
use native.Mathlib.Omega.{arith}
use mathlib.Core.Bool.{Bool, false, not, cond, ◌&&◌}
use lib.ListN.{get_or}
use lib.Dec.{eqb}
use borrow.Author.Rules.{rules}
use Rattle.base.specs.Lists.{member, places_from}
use Rattle.dna.specs.Reference.{strand_base}
use Rattle.dna.specs.Alignment.{n_positions}
use Rattle.dna.specs.RecordFaults.{any_outside}
use Rattle.dna.specs.RecordAt.{entries_at}
use Rattle.dna.proofs.ReferenceLaws.{stretch_index-inside}
use Rattle.records.proofs.FieldLaws.{offsets_from}
use Rattle.record_letters.specs.Laid.{offsets_in, differs_at, differences_from}
use Rattle.record_letters.proofs.CountLaws.{one-most, places_first, places_turn}
use Rattle.record_letters.proofs.CountLaws.{differences-first, differences_turn}
use Rattle.record_letters.proofs.CountLaws.{differences-none}
use Rattle.record_letters.proofs.counts.aligned_differences.Goals as goal
use Rattle.record_letters.proofs.counts.aligned_differences.Goals.{After-entry_difference-sum, After-from-place, Start}

-- The entry's aligned letter, and its code.
abbrev place : (c : After-from-place) → ℕ
place c = c.loop-k.place + c.from-place.result

abbrev code : (c : After-from-place) → ℕ
code c = get_or c.args.section.now (c.args.layout.entries + c.loop-k.k) 0 % 4

-- The entry lands in the aligned part, and so do those after it.
inside : (c : After-from-place)
    → (place c < c.args.aligned)
    × (any_outside c.args.aligned
    (places_from (place c)
    (offsets_from c.args.section.now
    (c.args.layout.entries + (c.loop-k.k + 1))
    (c.args.layout.entry_count - (c.loop-k.k + 1))))
    ≡ false)
inside c =
    let l = c.loop-k in
    let a = c.args in
    places_turn a.section.now a.layout.entries a.layout.entry_count l.k l.place
    c.from-place.result c.loop-k-test.true c.from-place.ensures a.aligned
    l.invariant.2

-- Whether an entry is a difference.
abbrev test : (c : Start) → ℕ → ℕ → Bool
test c =
    let a = c.args in
    differs_at a.reference.now a.forward a.leftmost a.aligned a.left
    (n_positions (offsets_in a.section.now a.size a.layout))

-- What is counted for the entry.
counted : (c : After-entry_difference-sum)
    → c.entry_difference-sum.result
    ≡ cond
    (test (goal.at.After-entry_difference-sum c).Start (code (goal.at.After-entry_difference-sum c).After-from-place) (place (goal.at.After-entry_difference-sum c).After-from-place))
    1 0
unfolding differs_at
counted c =
    let a = c.args in
    c.entry_difference-sum.ensures
    ∙ ap
    (λ (i : ℕ).
    cond
    (not (eqb (code (goal.at.After-entry_difference-sum c).After-from-place) (strand_base a.reference.now a.forward i))
    && not
    (member (a.left + place (goal.at.After-entry_difference-sum c).After-from-place) (n_positions (offsets_in a.section.now a.size a.layout))))
    1 0)
    c.stretch_index-index.ensures

counted-most : (c : After-entry_difference-sum) → c.entry_difference-sum.result ≤ 1
counted-most c =
    one-most (test (goal.at.After-entry_difference-sum c).Start (code (goal.at.After-entry_difference-sum c).After-from-place) (place (goal.at.After-entry_difference-sum c).After-from-place)) c.entry_difference-sum.result (counted c)

pub loop-k-init : goal.loop-k-init
loop-k-init c =
    let a = c.args in (
      omega arith,
      omega arith,
      places_first a.section.now a.layout.entries a.layout.entry_count a.aligned
          c.requires.1.places,
      differences-first (test (goal.at.loop-k-init c).Start) a.section.now a.layout.entries
          a.layout.entry_count,
    )

pub stretch_index-index-requires : goal.stretch_index-index-requires
stretch_index-index-requires c =
    ((inside (goal.at.stretch_index-index-requires c).After-from-place).0, c.requires.1.stretch.small)

pub overflow_add-left : goal.overflow_add-left
overflow_add-left c =
    let h : c.args.left + c.args.aligned ≤ c.args.size = c.requires.2 in
    omega (arith, (inside (goal.at.overflow_add-left c).After-from-place).0, c.requires.0.short)

pub entry_difference-sum-requires : goal.entry_difference-sum-requires
entry_difference-sum-requires c =
    let a = c.args in (
      c.requires.0,
      omega (
        arith,
        c.stretch_index-index.ensures,
        stretch_index-inside a.forward a.leftmost a.aligned (place (goal.at.entry_difference-sum-requires c).After-from-place) (inside (goal.at.entry_difference-sum-requires c).After-from-place).0,
        c.requires.1.stretch.inside,
      ),
    )

pub overflow_add-sum : goal.overflow_add-sum
overflow_add-sum c =
    let one : c.entry_difference-sum.result ≤ 1 = counted-most (goal.at.overflow_add-sum c).After-entry_difference-sum in
    search rules

pub loop-k-preserved : goal.loop-k-preserved
loop-k-preserved c =
    let l = c.loop-k in
    let a = c.args in
    let byte = c.type_inv.section (a.layout.entries + l.k) in
    let one : c.entry_difference-sum.result ≤ 1 = counted-most (goal.at.loop-k-preserved c).After-entry_difference-sum in
    let step : differences_from (test (goal.at.loop-k-preserved c).Start) l.place
    (entries_at a.section.now (a.layout.entries + l.k) (a.layout.entry_count - l.k))
    ≡ c.entry_difference-sum.result
    + differences_from (test (goal.at.loop-k-preserved c).Start) (place (goal.at.loop-k-preserved c).After-from-place)
    (entries_at a.section.now (a.layout.entries + (l.k + 1))
    (a.layout.entry_count - (l.k + 1))) =
    differences_turn a.section.now a.layout.entries a.layout.entry_count l.k
    l.place c.from-place.result c.loop-k-test.true c.from-place.ensures
    (test (goal.at.loop-k-preserved c).Start) c.entry_difference-sum.result (counted (goal.at.loop-k-preserved c).After-entry_difference-sum) in (
      omega arith,
      omega (arith, byte, c.from-place.ensures),
      (inside (goal.at.loop-k-preserved c).After-from-place).1,
      l.invariant.3 ∙ ap (λ (n : ℕ). l.sum + n) step ∙ omega arith,
    )

pub returns : goal.returns
returns c =
    let l = c.loop-k in
    let a = c.args in
    let none =
    differences-none (test (goal.at.returns c).Start) a.section.now a.layout.entries a.layout.entry_count
    l.k l.place c.loop-k-test.false in
    sym (l.invariant.3 ∙ ap (λ (n : ℕ). l.sum + n) none ∙ omega arith)

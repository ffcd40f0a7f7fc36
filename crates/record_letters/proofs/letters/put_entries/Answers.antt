use mathlib.Core.Path.{◌≡◌, refl, sym, ap, ◌∙◌}
use Prim.Native.Nat.{ℕ, ◌+◌, ◌-◌, ◌%◌, ◌≤◌, ◌<◌}
use native.Mathlib.Omega.{arith}
use mathlib.Core.Bool.{false}
use mathlib.Core.List.{List, map}
use lib.ListN.{length, get_or}
use Rattle.base.specs.Lists.{places_from}
use Rattle.dna.specs.Record.{Entry}
use Rattle.dna.specs.RecordFaults.{any_outside}
use Rattle.dna.specs.RecordAt.{entries_at}
use Rattle.records.proofs.FieldLaws.{offsets_from}
use Rattle.record_letters.specs.Printed.{overlaid, changes_at, changes}
use Rattle.record_letters.proofs.CountLaws.{one-most, places_turn}
use Rattle.record_letters.proofs.TurnLaws.{length_entered, entries-first, overlaid_none}
use Rattle.record_letters.proofs.TurnLaws.{overlaid_turn, changes_none, changes_turn}
use borrow.Author.Rules.{rules}
use Rattle.record_letters.proofs.letters.put_entries.Goals as goal
use Rattle.record_letters.proofs.letters.put_entries.Goals.{After-put_entry-changed, After-from-place}

-- The entry lands in the buffer, and so do those after it.
inside : (c : After-from-place)
    → (c.loop-k.place + c.from-place.result < length c.args.out.now)
    × (any_outside (length c.args.out.now)
    (places_from (c.loop-k.place + c.from-place.result)
    (offsets_from c.args.section.now
    (c.args.entries + (c.loop-k.k + 1))
    (c.args.count - (c.loop-k.k + 1))))
    ≡ false)
inside c =
    let l = c.loop-k in
    let a = c.args in
    places_turn a.section.now a.entries a.count l.k l.place c.from-place.result
    c.loop-k-test.true c.from-place.ensures (length a.out.now)
    l.invariant.3

-- An entry changes one letter at most.
one : (c : After-put_entry-changed) → c.put_entry-changed.result ≤ 1
one c =
    let l = c.loop-k in
    let a = c.args in
    one-most
    (changes_at l.out (l.place + c.from-place.result)
    (get_or a.section.now (a.entries + l.k) 0 % 4))
    c.put_entry-changed.result c.put_entry-changed.ensures.1

pub loop-k-init : goal.loop-k-init
loop-k-init c =
    let a = c.args in
    let all : entries_at a.section.now a.entries a.count
    ≡ entries_at a.section.now (a.entries + 0) (a.count - 0) =
    entries-first a.section.now a.entries a.count in (
      omega arith,
      refl,
      c.requires.2,
      ap
          (λ (es : List Entry).
          any_outside (length a.out.now)
          (places_from a.at (map (λ entry. entry.offset) es)))
          (sym all)
          ∙ c.requires.3,
      ap (overlaid a.out.now a.at) all,
      ap (changes a.out.now a.at) all ∙ omega arith,
    )

pub overflow_add-place : goal.overflow_add-place
overflow_add-place c =
    let room : c.loop-k.place + c.from-place.result < length c.args.out.now =
    (inside (goal.at.overflow_add-place c).After-from-place).0 in
    search rules

pub put_entry-changed-requires : goal.put_entry-changed-requires
put_entry-changed-requires c =
    let room = (inside (goal.at.put_entry-changed-requires c).After-from-place).0 in
    (omega arith, omega (arith, room, c.loop-k.invariant.1))

pub overflow_add-changed : goal.overflow_add-changed
overflow_add-changed c =
    let most : c.put_entry-changed.result ≤ 1 = one (goal.at.overflow_add-changed c).After-put_entry-changed in
    search rules

pub loop-k-preserved : goal.loop-k-preserved
loop-k-preserved c =
    let put = c.put_entry-changed in
    let more = c.loop-k-test.true in
    let l = c.loop-k in
    let a = c.args in
    let room : l.place + c.from-place.result < length l.out =
    omega (arith, (inside (goal.at.loop-k-preserved c).After-from-place).0, l.invariant.1) in
    let most : put.result ≤ 1 = one (goal.at.loop-k-preserved c).After-put_entry-changed in (
      omega arith,
      ap length put.ensures.0
          ∙ length_entered l.out (l.place + c.from-place.result)
          (get_or a.section.now (a.entries + l.k) 0 % 4) room
          ∙ l.invariant.1,
      omega (arith, (inside (goal.at.loop-k-preserved c).After-from-place).0),
      (inside (goal.at.loop-k-preserved c).After-from-place).1,
      l.invariant.4
          ∙ overlaid_turn a.section.now a.entries a.count l.k l.place
          c.from-place.result more c.from-place.ensures l.out put.new.out
          put.ensures.0,
      l.invariant.5
          ∙ ap (λ (n : ℕ). l.changed + n)
          (changes_turn a.section.now a.entries a.count l.k l.place
          c.from-place.result more c.from-place.ensures l.out put.new.out
          put.ensures.0 put.result put.ensures.1)
          ∙ omega arith,
    )

pub shape_of-out : goal.shape_of-out
shape_of-out c =
    c.loop-k.invariant.1

pub returns : goal.returns
returns c =
    let l = c.loop-k in
    let a = c.args in
    let none =
    changes_none a.section.now a.entries a.count l.k l.place l.out
    c.loop-k-test.false in (
      sym
          (l.invariant.4
          ∙ overlaid_none a.section.now a.entries a.count l.k l.place l.out
          c.loop-k-test.false),
      sym (l.invariant.5 ∙ ap (λ (n : ℕ). l.changed + n) none ∙ omega arith),
    )

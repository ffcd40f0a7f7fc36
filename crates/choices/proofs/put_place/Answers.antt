-- `choices::put_place` meets its contract. Assumes nothing.
use mathlib.Core.Path.{◌∙◌}
use Prim.Native.Nat.{ℕ, ◌-◌}
use native.Mathlib.Omega.{arith}
use lib.ListN.{length}
use lib.Dec.{eqb}
use Rattle.mismatches.specs.Entries.{AlignedFits}
use Rattle.choices.specs.Choice.{rule_candidate}
use Rattle.choices.proofs.PlaceLaws.{fits-aligned, aligned-alone, entries-alone, place_entries}
use Rattle.choices.proofs.PlaceLaws.{put_same}
use Rattle.choices.proofs.put_place.Goals as goal
use Rattle.choices.proofs.put_place.Goals.{After-from-2}

-- The aligned letters.
aligned : (c : After-from-2)
    → AlignedFits c.args.read.now c.from-2.result
    (length c.args.read.now - c.from.result - c.from-2.result)
aligned c =
    fits-aligned c.from-2.result (length c.args.read.now - c.from.result - c.from-2.result)
    c.requires.0 (omega (arith, c.requires.1, c.from.ensures, c.from-2.ensures))

pub put_entries-requires : goal.put_entries-requires
put_entries-requires c =
    (aligned-alone (aligned (goal.at.put_entries-requires c).After-from-2), c.requires.3)

pub returns : goal.returns
returns c =
    let a = c.args in
    let start : ℕ = c.from-2.result in
    let count : ℕ = length a.read.now - c.from.result - start in
    put_same
    (entries-alone a.read.now start count (aligned (goal.at.returns c).After-from-2).inside
    a.reference.now (eqb a.candidate.strand 1) a.candidate.position
    ∙ place_entries a.read.now c.requires.0 a.reference.now (rule_candidate a.candidate)
    (omega (arith, c.requires.1)) start count c.from-2.ensures
    (omega (arith, c.from.ensures, c.from-2.ensures)))
    c.put_entries.ensures

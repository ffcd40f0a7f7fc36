-- `choices::choose` meets its contract. Assumes nothing.
use Prim.Native.Nat.{◌+◌, ◌-◌}
use native.Mathlib.Omega.{arith}
use lib.ListN.{length}
use Rattle.reference.proofs.Fits.{stretch-fits}
use Rattle.letter_packing.specs.Read.{codes_of}
use Rattle.letter_packing.proofs.ReadLaws.{length_codes_of}
use Rattle.choices.specs.Choice.{rule_candidate}
use Rattle.choices.proofs.PlaceLaws.{fits_inside}
use Rattle.choices.proofs.ChoiceLaws.{raw4_chosen, unfit_chosen, over_chosen, used_chosen}
use Rattle.choices.proofs.choose.Goals as goal

pub returns-then-count-gt-MAX_N_POSITIONS : goal.returns-then-count-gt-MAX_N_POSITIONS
returns-then-count-gt-MAX_N_POSITIONS c =
    let a = c.args in
    raw4_chosen a.bases a.reference.now a.read.now (rule_candidate a.candidate) a.list.now
    c.count_n-count.result c.requires.1 c.count_n-count.ensures c.requires.2
    c.if-count-gt-MAX_N_POSITIONS.true

pub returns-in_default : goal.returns-in_default
returns-in_default c =
    let a = c.args in
    unfit_chosen a.bases a.reference.now a.read.now (rule_candidate a.candidate) a.list.now
    c.count_n-count.result c.requires.1 c.count_n-count.ensures c.requires.2
    c.if-count-gt-MAX_N_POSITIONS.false c.in_default.ensures

pub put_place-requires : goal.put_place-requires
put_place-requires c =
    let a = c.args in
    let inside =
    fits_inside a.bases (length a.read.now) (rule_candidate a.candidate) c.in-Some.ensures.0 in (
      c.requires.1,
      inside.0,
      stretch-fits a.candidate.position
          (length a.read.now - (a.candidate.left + a.candidate.right))
          (record { fits = c.requires.0 }) inside.1,
      c.requires.2,
    )

pub returns-in_default-put_place : goal.returns-in_default-put_place
returns-in_default-put_place c =
    let a = c.args in
    over_chosen a.bases a.reference.now a.read.now (rule_candidate a.candidate) _
    c.count_n-count.result c.requires.1 c.count_n-count.ensures
    (omega (arith, c.requires.2, c.put_place.auto.list)) c.if-count-gt-MAX_N_POSITIONS.false
    c.in_default-put_place.ensures

pub record-requires : goal.record-requires
record-requires c =
    let a = c.args in (
      (fits_inside a.bases (length a.read.now) (rule_candidate a.candidate)
          c.in-Some.ensures.0).0,
      c.requires.1.sized,
      c.in-Some.ensures.1,
    )

pub returns : goal.returns
returns c =
    let a = c.args in
    used_chosen a.bases a.reference.now a.read.now (rule_candidate a.candidate) _
    c.count_n-count.result c.requires.1 c.count_n-count.ensures
    (omega (arith, c.requires.2, c.put_place.auto.list)) c.if-count-gt-MAX_N_POSITIONS.false
    c.in-Some.ensures.0 c.requires.0 c.requires.2 c.in-Some-put_place.ensures c.record.result
    (c.record.ensures (codes_of a.read.now) (length_codes_of a.read.now))

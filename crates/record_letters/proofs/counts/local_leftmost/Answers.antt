-- `record_letters::counts::local_leftmost` meets its contract: by the strand. Assumes nothing.
use mathlib.Core.Path.{◌≡◌, sym, ◌∙◌}
use Prim.Native.Nat.{◌+◌, ◌≤◌}
use native.Mathlib.Omega.{arith}
use mathlib.Core.Bool.{false}
use Rattle.dna.specs.Reference.{max_reference_bases}
use Rattle.record_letters.specs.Laid.{is_forward}
use Rattle.record_letters.proofs.LocalLaws.{leftmost-forward, leftmost_reverse, reverse-last}
use Rattle.record_letters.proofs.counts.local_leftmost.Goals as goal
use Rattle.record_letters.proofs.counts.local_leftmost.Goals.{Else-is_forward}

-- The strand is the reverse one.
reverse : (c : Else-is_forward) → is_forward c.args.placement.strand ≡ false
reverse c = sym c.is_forward.ensures ∙ c.if-is_forward.false

-- The position is an index of the reference.
last : (c : Else-is_forward) → c.args.placement.position + 1 ≤ max_reference_bases
last c =
    reverse-last c.args.placement c.args.aligned max_reference_bases c.requires.local_exact c.requires.aligned_bound
    (reverse c)

pub returns-then-is_forward : goal.returns-then-is_forward
returns-then-is_forward c =
    let a = c.args in
    sym
    (leftmost-forward a.placement a.aligned
    (sym c.is_forward.ensures ∙ c.if-is_forward.true))

pub overflow_add-result : goal.overflow_add-result
overflow_add-result c =
    record { fits = omega (arith, last (goal.at.overflow_add-result c).Else-is_forward) }

pub overflow_sub-result : goal.overflow_sub-result
overflow_sub-result c =
    omega (arith, c.requires.local_exact (reverse (goal.at.overflow_sub-result c).Else-is_forward))

pub returns : goal.returns
returns c =
    let a = c.args in
    omega (
      arith,
      leftmost_reverse a.placement a.aligned (reverse (goal.at.returns c).Else-is_forward),
    )

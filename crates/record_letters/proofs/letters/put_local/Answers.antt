-- `record_letters::letters::put_local` meets its contract: clipped letters, aligned part, clipped
-- letters. Assumes nothing.
use mathlib.Core.Path.{◌≡◌, refl, sym, ap, subst, ◌∙◌}
use Prim.Native.Nat.{ℕ, ◌+◌, ◌-◌}
use native.Mathlib.Omega.{arith}
use Rattle.base.specs.Packed.{packed_length}
use Rattle.reference.specs.Stretch.{StretchFits}
use Rattle.base.specs.Paste.{pasted}
use Rattle.dna.specs.Reference.{stretch_letters}
use Rattle.record_letters.specs.Laid.{is_forward, local_leftmost, LocalExact}
use Rattle.record_letters.proofs.PlainLaws.{local_room, local_written}
use borrow.Author.Rules.{rules}
use Rattle.record_letters.proofs.letters.put_local.Goals as goal
use Rattle.record_letters.proofs.letters.put_local.Goals.{After-from-right, After-put_aligned}

-- Left and right, as they are read.
clips-are : (c : After-from-right)
    → c.args.placement.left + c.args.placement.right ≡ c.from-left.result + c.from-right.result
clips-are c = omega (arith, c.from-left.ensures, c.from-right.ensures)

stretch : (c : After-from-right)
    → let aligned : ℕ = c.args.size - (c.from-left.result + c.from-right.result) in
    StretchFits c.args.reference.now (local_leftmost c.args.placement aligned) aligned
stretch c =
    let a = c.args in
    subst
    (λ (n : ℕ).
    StretchFits a.reference.now (local_leftmost a.placement (a.size - n)) (a.size - n))
    (clips-are c) c.requires.2

-- What the aligned part is.
written : (c : After-put_aligned)
    → let aligned : ℕ = c.args.size - (c.from-left.result + c.from-right.result) in
    c.put_aligned.new.out
    ≡ pasted c.put_packed.new.out (c.args.at + c.from-left.result)
    (stretch_letters c.args.reference.now (is_forward c.args.placement.strand)
    (local_leftmost c.args.placement aligned) aligned)
written c =
    let a = c.args in
    let aligned : ℕ = a.size - (c.from-left.result + c.from-right.result) in
    c.put_aligned.ensures
    ∙ ap
    (λ (i : ℕ).
    pasted c.put_packed.new.out (a.at + c.from-left.result)
    (stretch_letters a.reference.now (is_forward a.placement.strand) i aligned))
    c.local_leftmost-leftmost.ensures

pub put_packed-requires : goal.put_packed-requires
unfolding packed_length
put_packed-requires c = (
  omega (arith, c.requires.3, c.from-left.ensures),
  omega (arith, c.from-left.type_inv),
  omega (arith, c.requires.4, c.requires.0, c.from-left.ensures),
)

pub local_leftmost-leftmost-requires : goal.local_leftmost-leftmost-requires
local_leftmost-leftmost-requires c =
    let a = c.args in
    let clips = clips-are (goal.at.local_leftmost-leftmost-requires c).After-from-right in
    record {
      local_exact = subst (λ (n : ℕ). LocalExact a.placement (a.size - n)) clips c.requires.1;
      aligned_bound = (stretch (goal.at.local_leftmost-leftmost-requires c).After-from-right).small;
    }

pub put_aligned-requires : goal.put_aligned-requires
put_aligned-requires c =
    let a = c.args in (
      subst
          (λ (i : ℕ). StretchFits a.reference.now i (a.size - (c.from-left.result + c.from-right.result)))
          (sym c.local_leftmost-leftmost.ensures)
          (stretch (goal.at.put_aligned-requires c).After-from-right),
      search rules,
    )

pub put_packed-requires-2 : goal.put_packed-requires-2
unfolding packed_length
put_packed-requires-2 c =
    let a = c.args in (
      omega (arith, c.requires.3, c.from-left.ensures, c.from-right.ensures),
      omega (arith, c.from-left.type_inv, c.from-right.type_inv),
      local_room a.section.now a.reference.now a.placement a.packed a.size
          c.from-left.result c.from-right.result
          (a.size - (c.from-left.result + c.from-right.result)) c.from-left.ensures
          c.from-right.ensures refl c.requires.0 a.out.now _ _ a.at c.requires.4
          c.put_packed.ensures (written (goal.at.put_packed-requires-2 c).After-put_aligned),
    )

pub returns : goal.returns
returns c =
    let a = c.args in
    local_written a.section.now a.reference.now a.placement a.packed a.size
    c.from-left.result c.from-right.result (a.size - (c.from-left.result + c.from-right.result))
    c.from-left.ensures c.from-right.ensures refl c.requires.0 a.out.now _ _ _ a.at
    c.requires.4 c.put_packed.ensures (written (goal.at.returns c).After-put_aligned)
    c.put_packed-2.ensures

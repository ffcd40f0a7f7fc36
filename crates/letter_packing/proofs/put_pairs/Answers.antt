use mathlib.Core.Path.{◌≡◌, sym, ap, ◌∙◌}
use Prim.Native.Nat.{ℕ, ◌/◌}
use native.Mathlib.Omega.{arith}
use lib.ListN.{length, length-set}
use borrow.Author.Rules.{rules}
use Rattle.base.specs.Lists.{build}
use Rattle.base.specs.Packed.{packed_length}
use Rattle.base.specs.Paste.{pasted}
use Rattle.base.proofs.PasteLaws.{pasted_nil, pasted_turn}
use Rattle.base.proofs.PackedPasteLaws.{packed_byte, pasted_pack_full, pasted_pack_partial}
use Rattle.letter_packing.specs.Read.{codes_of}
use Rattle.letter_packing.proofs.ReadLaws.{length_codes_of}
use Rattle.letter_packing.proofs.PieceLaws.{packed-padded}
use Rattle.letter_packing.proofs.PairLaws.{pair_packed, last_packed}
use Rattle.letter_packing.proofs.put_pairs.Goals as goal

pub loop-k-init : goal.loop-k-init
unfolding build
loop-k-init c =
    let a = c.args in
    (omega arith, sym (pasted_nil a.out.now a.at), search rules)

pub loop-k-preserved : goal.loop-k-preserved
unfolding packed_length
loop-k-preserved c =
    let a = c.args in
    let l = c.loop-k in (
      omega arith,
      pasted_turn a.out.now a.at (packed_byte 16 2
          (codes_of a.read.now)) l.out l.k _
          (omega arith) l.invariant.1
          (c.pair_byte.ensures ∙ pair_packed a.read.now l.k (omega arith)),
      simp length-set l.invariant.2,
    )

pub returns-then-read-ne0 : goal.returns-then-read-ne0
unfolding packed_length
returns-then-read-ne0 c =
    let a = c.args in
    let l = c.loop-k in
    let codes = codes_of a.read.now in
    let size = length_codes_of a.read.now in
    let all : l.k ≡ length a.read.now / 2 = omega arith in (
      pasted_pack_partial 16 2 (omega arith) codes a.out.now l.out a.at _ _
          (omega arith)
          (omega (arith, c.if-read-ne0.true)) (omega arith)
          (l.invariant.1 ∙ ap (λ (n : ℕ). pasted a.out.now a.at (build n (packed_byte 16 2 codes))) all)
          (last_packed a.read.now (length a.read.now / 2) _
          (omega arith) (omega (arith, c.if-read-ne0.true))
          c.code_of_letter.ensures.0)
          ∙ ap (pasted a.out.now a.at) (sym (packed-padded 16 2 codes (omega arith))),
      omega (arith, c.if-read-ne0.true),
    )

pub returns : goal.returns
unfolding packed_length
returns c =
    let a = c.args in
    let l = c.loop-k in
    let codes = codes_of a.read.now in
    let size = length_codes_of a.read.now in (
      pasted_pack_full 16 2 (omega arith) codes a.out.now l.out a.at l.k (omega arith)
          (omega (arith, c.if-read-ne0.false)) l.invariant.1
          ∙ ap (pasted a.out.now a.at) (sym (packed-padded 16 2 codes (omega arith))),
      omega (arith, c.if-read-ne0.false),
    )

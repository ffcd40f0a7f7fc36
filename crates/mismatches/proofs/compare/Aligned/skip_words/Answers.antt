use Prim.Native.Nat.{ℕ, ◌+◌, ◌-◌, ◌*◌, ◌/◌, ◌%◌}
use mathlib.Core.Bool.{Bool, cond}
use native.Mathlib.Nat.{zero-add}
use native.Mathlib.Omega.{arith}
use mathlib.Core.Path.{◌≡◌, refl, sym, ap, ◌∙◌, subst}
use lib.ListN.{length, get_or}
use Rattle.base.specs.Numbers.{le}
use Rattle.dna.proofs.ReferenceLaws.{piece_leftmost}
use Rattle.reference.proofs.Words.{table_fits}
use Rattle.mismatches.specs.Places.{NoneBetween}
use Rattle.mismatches.specs.Compared.{differs}
use Rattle.mismatches.proofs.PlaceLaws.{none_then}
use Rattle.mismatches.proofs.WordLaws.{eight_passed, boundary, byte-after}
use Rattle.mismatches.proofs.compare.Aligned.skip_words.Goals as goal

pub two_words-given-requires : goal.two_words-given-requires
two_words-given-requires g c =
    table_fits c.args.self.now.table.now c.args.self.now.forward c.args.self.now.words

pub loop-k-preserved : goal.loop-k-preserved
loop-k-preserved g c =
    let a = c.args.self.now in
    let n : ℕ = length a.letters.now in
    let place : ℕ = c.args.from + 8 * c.loop-k.k in
    let whole : piece_leftmost a.forward a.leftmost n c.args.from 4 % 4 ≡ 0 =
    ap (λ (low : ℕ). low % 4) (sym c.lowest_under.ensures) ∙ c.if-lowest_under-ne0.false in
    let i : ℕ = c.lowest_under-first.result / 4 in
    let j : ℕ = c.byte_after-second.result in
    let one : 4 * i ≡ piece_leftmost a.forward a.leftmost n place 4 =
    ap (λ (low : ℕ). 4 * (low / 4)) c.lowest_under-first.ensures
    ∙ boundary a.forward a.leftmost n c.args.from (8 * c.loop-k.k) (omega arith) (omega arith)
    whole in
    let two : 4 * j ≡ piece_leftmost a.forward a.leftmost n (place + 4) 4 =
    ap (λ (byte : ℕ). 4 * byte)
    (c.byte_after-second.ensures
    ∙ ap (λ (up : Bool). cond up (i + 1) (i - 1)) (sym c.requires.1))
    ∙ byte-after a.forward a.leftmost n place i (omega arith) one in
    let passed =
    eight_passed a.letters.now 0 a.reference.now a.forward a.leftmost n c.eight_letters.ensures.1
    (omega arith) a.table.now a.words place i j (get_or a.reference.now i 0)
    (get_or a.reference.now j 0) (omega arith) refl (omega (arith, c.type_inv.reference i)) refl
    (omega (arith, c.type_inv.reference j)) one two
    (ap (le 8 a.letters.now) (zero-add place) ∙ sym c.eight_letters.ensures.0
    ∙ c.if-eight_letters-given.false ∙ c.two_words-given.ensures) in
    let end : place + 8 ≡ c.args.from + 8 * (c.loop-k.k + 1) = omega arith in
    subst (λ (to : ℕ). NoneBetween (differs a) c.args.from to) end
    (none_then c.loop-k.invariant passed)

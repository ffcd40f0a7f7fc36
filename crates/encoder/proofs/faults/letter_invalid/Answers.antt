use mathlib.Core.Path.{◌≡◌, ap, ◌∙◌}
use Prim.Native.Nat.{ℕ, max}
use native.Mathlib.Omega.{arith}
use mathlib.Core.Bool.{not}
use lib.ListN.{length, take}
use lib.Seq.{take-length}
use borrow.Author.Rules.{rules}
use Rattle.base.specs.Lists.{any, member}
use Rattle.dna.specs.Reference.{alphabet}
use Rattle.encoder.proofs.FaultLaws.{letters_turn, flag-shown}
use Rattle.encoder.proofs.faults.letter_invalid.Goals as goal

pub loop-letter-init : goal.loop-letter-init
unfolding any
loop-letter-init c = search rules

pub loop-letter-preserved : goal.loop-letter-preserved
loop-letter-preserved c =
    let l = c.loop-letter in
    c.max-invalid.ensures
    ∙ ap (max l.invalid) c.no_letter.ensures
    ∙ letters_turn c.args.letters.now l.letter-index l.invalid (omega arith) l.invariant

pub returns : goal.returns
returns c =
    let l = c.loop-letter in
    let letters = c.args.letters.now in
    let all : l.letter-index ≡ length letters = omega arith in
    flag-shown _ l.invalid l.invariant
    ∙ ap (λ (k : ℕ). any (λ letter. not (member letter alphabet)) (take k letters)) all
    ∙ ap (any (λ letter. not (member letter alphabet))) (take-length letters)

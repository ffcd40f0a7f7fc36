use mathlib.Core.Path.{◌≡◌, ap₂, ◌∙◌}
use Prim.Native.Nat.{ℕ, ◌+◌, ◌-◌, ◌*◌, ◌/◌, ◌%◌}
use native.Mathlib.Nat.{add-zero, sub-zero}
use native.Mathlib.Omega.{arith}
use Rattle.base.specs.Numbers.{le_bytes}
use Rattle.base.specs.Paste.{pasted}
use Rattle.base.proofs.PastingLaws.{pasting-start}
use Rattle.dna.specs.Varint16.{varint16_bytes}
use Rattle.varint16.proofs.WrittenWords.{words_room, words_turn, words_end}
use Rattle.varint16.proofs.put_many_words.Goals as goal

pub loop-k-init : goal.loop-k-init
loop-k-init c =
    rw (add-zero, sub-zero) (pasting-start c.args.out.now c.args.at (varint16_bytes c.args.number) c.requires)

pub put_u16-requires : goal.put_u16-requires
put_u16-requires c =
    let l = c.loop-k in
    words_room (c.args.number - 32768 * l.k) l.invariant

pub loop-k-preserved : goal.loop-k-preserved
loop-k-preserved c =
    let l = c.loop-k in
    words_turn (c.args.number - 32768 * l.k) l.invariant c.put_u16.new.out _ _ (omega arith) c.put_u16.ensures
    (omega arith) (omega arith)

pub put_u16-requires-2 : goal.put_u16-requires-2
put_u16-requires-2 c =
    let l = c.loop-k in
    omega (arith, words_room (c.args.number - 32768 * l.k) l.invariant)

pub returns : goal.returns
returns c =
    let l = c.loop-k in
    let left = c.args.number - 32768 * l.k in
    let place : c.args.at + 2 * (c.args.number / 32768) ≡ c.args.at + 2 * l.k = omega arith in
    let last : c.args.number % 32768 ≡ left = omega arith in
    let ended =
    words_end left l.invariant c.put_u16-2.new.out (omega arith)
    (c.put_u16-2.ensures ∙ ap₂ (λ (p x : ℕ). pasted l.out p (le_bytes 2 x)) place last) in
    (ended.0, omega (arith, ended.1))

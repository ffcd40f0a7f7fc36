use mathlib.Core.Path.{◌≡◌, ap, ◌∙◌}
use Prim.Native.Nat.{ℕ}
use native.Mathlib.Omega.{arith}
use lib.ListN.{length, take}
use lib.Seq.{take-length}
use Rattle.n_lists.specs.NPlaces.{n_count}
use Rattle.n_lists.proofs.CountLaws.{count_more, count_small}
use Rattle.n_lists.proofs.count_chunk.Goals as goal

pub loop-letter-preserved : goal.loop-letter-preserved
loop-letter-preserved c =
    let l = c.loop-letter in
    omega (
      arith,
      l.invariant,
      count_more c.args.chunk.now l.letter-index _ c.loop-letter-test.true c.from-count.ensures,
    )

pub returns : goal.returns
returns c =
    let l = c.loop-letter in
    let chunk = c.args.chunk.now in
    let all : l.letter-index ≡ length chunk = omega arith in
    let small = count_small chunk l.letter-index (omega arith) in
    let whole : n_count (take l.letter-index chunk) ≡ n_count chunk =
    ap (λ (n : ℕ). n_count (take n chunk)) all ∙ ap n_count (take-length chunk) in
    (l.invariant ∙ whole, omega (arith, small, l.invariant, c.requires))

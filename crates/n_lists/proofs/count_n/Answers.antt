use mathlib.Core.Path.{ap}
use native.Mathlib.Omega.{arith}
use Rattle.n_lists.specs.NPlaces.{n_count}
use Rattle.n_lists.proofs.CountLaws.{count_append, count_end, offsets_counted}
use Rattle.n_lists.proofs.count_n.Goals as goal

pub loop-chunk-preserved : goal.loop-chunk-preserved
loop-chunk-preserved c =
    omega (
      arith,
      c.from-count.ensures,
      c.count_chunk.ensures.0,
      c.loop-chunk.invariant,
      ap n_count c.in-Some.ensures.steps.1.0,
      count_append c.in-Some.chunk.now c.next.new.self.rest.now,
    )

pub returns : goal.returns
returns c =
    let a = c.args in
    omega (
      arith,
      c.loop-chunk.invariant,
      count_end c.loop-chunk.chunk-iterator.rest.now (omega (arith, c.in-None.ensures.steps.1)),
      offsets_counted a.read.now,
    )

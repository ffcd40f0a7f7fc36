-- `packing::put_symbols` meets its contract: each chunk of codes makes one byte. Assumes nothing.
use mathlib.Core.Path.{refl, sym, ap, ◌∙◌}
use Prim.Native.Nat.{ℕ, ◌/◌, ◌^◌, min}
use native.Mathlib.Nat.{zero-mul}
use native.Mathlib.Omega.{arith}
use lib.ListN.{length, length-set}
use Rattle.base.proofs.PackedPasteLaws.{packed_byte}
use Rattle.base.proofs.PasteLaws.{pasted_nil, pasted_turn}
use Rattle.base.specs.Lists.{build}
use Rattle.packing.proofs.Chunks.{chunk_inside, chunks_written, chunk_after, chunk_byte}
use Rattle.packing.proofs.Widths.{per_some}
use Rattle.packing.proofs.put_symbols.Goals as goal

pub loop-k-init : goal.loop-k-init
unfolding build
loop-k-init g c =
    let a = c.args in
    rw (
      c.into_iter-k-iterator.ensures.into_iter_gives,
      c.enumerate-k-items.ensures.source,
      c.enumerate-k-items.ensures.count,
      c.chunks.ensures.size,
      c.chunks.ensures.rest,
      zero-mul,
    )
    (refl, refl, sym (pasted_nil a.out.now a.at), refl, omega arith)

pub bounds-out-at : goal.bounds-out-at
bounds-out-at g c =
    let i = c.loop-k.invariant in
    let s = c.in-Some.ensures.steps in
    let k = c.loop-k.k-iterator.count in
    let per = 8 / g.row.BITS in
    omega (
      arith,
      s.1,
      chunk_inside per (per_some g.row.BITS c.requires.width) c.args.codes.now _ k i.1 s.0.1.2,
    )

pub loop-k-preserved : goal.loop-k-preserved
loop-k-preserved g c =
    let a = c.args in
    let i = c.loop-k.invariant in
    let s = c.in-Some.ensures.steps in
    let k = c.loop-k.k-iterator.count in
    let per = 8 / g.row.BITS in
    let some = per_some g.row.BITS c.requires.width in
    let inside = chunk_inside per some a.codes.now _ k i.1 s.0.1.2 in
    let long = s.0.1.1 ∙ ap (λ (n : ℕ). min n (length c.loop-k.k-iterator.iter.rest.now)) i.0 in
    rw (s.2, s.1) (
      s.0.0 ∙ i.0,
      chunk_after per some a.codes.now _ k i.1 c.in-Some.part.now _ s.0.1.0 long,
      pasted_turn a.out.now a.at (packed_byte (2 ^ g.row.BITS) per a.codes.now) c.loop-k.out k _
          (omega (arith, inside)) i.2
          (c.byte.ensures ∙ chunk_byte per some a.codes.now _ k i.1 _ _ s.0.1.0 long (2 ^ g.row.BITS)),
      simp length-set i.3,
      omega (arith, inside),
    )

pub returns : goal.returns
returns g c =
    let i = c.loop-k.invariant in
    let s = c.in-None.ensures.steps in
    chunks_written (8 / g.row.BITS) (per_some g.row.BITS c.requires.width) c.args.codes.now _
    c.loop-k.k-iterator.count i.1 (2 ^ g.row.BITS) _ _ _ s.0.1.0 i.4 i.2

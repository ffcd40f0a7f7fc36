use Rattle.std.proofs.Common.{◌≢◌, ◌∙◌, refl, ap, ℕ, ◌+◌, ◌<◌, length, get_or, arith, get_or-set_other, get_or-set_same, below_more}
use Rattle.base.specs.Lists.{total}
use Rattle.names_writer.proofs.PutTableLaws.{start-turn, start-most}
use Rattle.names_writer.proofs.table.put_starts.Goals as goal

pub loop-k-init : goal.loop-k-init
unfolding total
loop-k-init c =
    record {
      last = λ j h. absurd (omega arith);
      starts = λ j h. absurd (omega arith);
      place = omega arith;
    }

pub overflow_add-place : goal.overflow_add-place
overflow_add-place c =
    let a = c.args in
    let l = c.loop-k in
    omega (
      arith,
      start-turn a.start a.sizes.now l.k,
      start-most a.sizes.now (l.k + 1) (length a.cursors.now) (omega arith),
      l.invariant.place,
      c.requires.sizes_bound,
    )

pub loop-k-preserved : goal.loop-k-preserved
loop-k-preserved c =
    let a = c.args in
    let l = c.loop-k in
    let lt : l.k < length l.cursors = omega arith in
    record {
      last =
          below_more _ _
          (λ j h. let ne : j ≢ l.k = omega arith in rw get_or-set_other (l.invariant.last j h))
          (rw get_or-set_same refl);
      starts =
          below_more _ _
          (λ j h. let ne : j ≢ l.k = omega arith in rw get_or-set_other (l.invariant.starts j h))
          (rw get_or-set_same l.invariant.place);
      place =
          ap (λ (n : ℕ). n + get_or a.sizes.now l.k 0) l.invariant.place
          ∙ start-turn a.start a.sizes.now l.k;
    }

pub returns : goal.returns
returns c =
    let l = c.loop-k in
    record {
      last = λ k h. l.invariant.last k (omega arith);
      place = λ k h. l.invariant.starts k (omega arith);
    }

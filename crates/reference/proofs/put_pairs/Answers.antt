use Prim.Native.Nat.{ℕ, ◌+◌, ◌*◌}
use native.Mathlib.Omega.{arith}
use mathlib.Core.Bool.{Bool, not}
use mathlib.Core.Path.{refl, ap, ◌∙◌}
use lib.Dec.{eqb}
use Rattle.dna.proofs.ReferenceLaws.{stretch_index-inside}
use Rattle.reference.proofs.Words.{table_fits}
use Rattle.reference.proofs.Stretches.{written_none, pair_written, written_all, byte_piece}
use Rattle.reference.proofs.put_pairs.Goals as goal

pub loop-k-init : goal.loop-k-init
loop-k-init g c =
    let a = c.args in
    written_none a.reference.now (not (eqb g.row.FORWARD 0)) (4 * a.first) (8 * a.pairs) a.out.now a.at

pub bounds-reference-one : goal.bounds-reference-one
bounds-reference-one g c =
    let a = c.args in
    let k = c.loop-k.k in
    omega (
      arith,
      c.stretch_index-one.ensures,
      stretch_index-inside (not (eqb g.row.FORWARD 0)) a.first (2 * a.pairs) (2 * k) (omega arith),
    )

pub bounds-reference-other : goal.bounds-reference-other
bounds-reference-other g c =
    let a = c.args in
    let k = c.loop-k.k in
    omega (
      arith,
      c.stretch_index-other.ensures,
      stretch_index-inside (not (eqb g.row.FORWARD 0)) a.first (2 * a.pairs) (2 * k + 1) (omega arith),
    )

pub two_words-words-requires : goal.two_words-words-requires
two_words-words-requires g c =
    table_fits c.args.table.now (not (eqb g.row.FORWARD 0)) c.requires.3

pub loop-k-preserved : goal.loop-k-preserved
loop-k-preserved g c =
    let words = c.two_words-words in
    let l = c.loop-k in
    let known = c.type_inv.reference in
    let a = c.args in
    let forward : Bool = not (eqb g.row.FORWARD 0) in
    let one = c.stretch_index-one in
    let other = c.stretch_index-other in
    let inside = c.loop-k-test.true in
    pair_written a.reference.now forward (4 * a.first) (8 * a.pairs) a.table.now
    c.put_u64.new.out (a.at + 8 * l.k) l.k one.result other.result _ _ words.result
    c.requires.3 l.invariant (omega arith) (omega arith)
    words.ensures c.put_u64.ensures refl
    refl (omega (arith, known one.result)) refl (omega (arith, known other.result))
    (ap (λ (i : ℕ). 4 * i) one.ensures
    ∙ byte_piece forward a.first (2 * a.pairs) (2 * l.k) (8 * a.pairs) (8 * l.k) (omega arith) (omega arith) (omega arith))
    (ap (λ (i : ℕ). 4 * i) other.ensures
    ∙ byte_piece forward a.first (2 * a.pairs) (2 * l.k + 1) (8 * a.pairs) (8 * l.k + 4) (omega arith) (omega arith) (omega arith))

pub returns : goal.returns
returns g c =
    let a = c.args in
    written_all a.reference.now (not (eqb g.row.FORWARD 0)) (4 * a.first) (8 * a.pairs)
    c.loop-k.invariant (omega arith) (omega arith)

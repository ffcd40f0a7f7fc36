-- `reference::put_strand` meets its contract: four writes leave no gap. Assumes nothing.
use Prim.Native.Nat.{◌+◌, ◌-◌, ◌*◌, ◌/◌}
use native.Mathlib.Omega.{arith}
use mathlib.Core.Bool.{Bool, not}
use mathlib.Core.Path.{◌≡◌}
use borrow.Author.Rules.{rules}
use lib.Dec.{eqb}
use Rattle.reference.proofs.Words.{table_fits}
use Rattle.reference.proofs.Stretches.{ends_and_bytes, whole_piece, piece_fits}
use Rattle.reference.proofs.put_strand.Goals as goal

pub put_four-requires : goal.put_four-requires
put_four-requires g c =
    let forward : Bool = not (eqb g.row.FORWARD 0) in (
      piece_fits forward _ 4 _ c.requires.0 (omega arith) c.piece_leftmost-first.ensures,
      omega arith,
      table_fits c.args.table.now forward c.requires.2,
    )

pub put_four-requires-2 : goal.put_four-requires-2
put_four-requires-2 g c =
    let forward : Bool = not (eqb g.row.FORWARD 0) in (
      piece_fits forward _ 4 _ c.requires.0 (omega arith) c.piece_leftmost-third.ensures,
      search rules,
      table_fits c.args.table.now forward c.requires.2,
    )

pub put_four-requires-3 : goal.put_four-requires-3
put_four-requires-3 g c =
    let forward : Bool = not (eqb g.row.FORWARD 0) in (
      piece_fits forward _ 4 _ c.requires.0 (omega arith) c.piece_leftmost-last.ensures,
      search rules,
      table_fits c.args.table.now forward c.requires.2,
    )

pub returns : goal.returns
returns g c =
    let a = c.args in
    let forward : Bool = not (eqb g.row.FORWARD 0) in
    let lent = c.requires.2 in
    let head = c.letters_before_byte-head in
    let pairs = (a.bases - head.result) / 8 in
    let last : a.bases - 8 + 4 ≡ a.bases - 4 = omega arith in
    ends_and_bytes a.reference.now forward a.leftmost a.bases a.out.now _ _ _ _ a.at
    head.result (8 * pairs) _ _ _ _ _ _ _ c.requires.1 c.if-bases-lt8.false
    (c.put_four.ensures forward lent)
    c.put_pairs.ensures
    (c.put_four-2.ensures forward lent)
    (c.put_four-3.ensures forward lent)
    head.ensures.0 (omega arith) (omega arith) (omega arith) (omega arith) (omega arith)
    c.piece_leftmost-first.ensures
    (whole_piece forward a.leftmost a.bases head.result (8 * pairs) _ head.ensures.1 (omega arith) (omega arith)
    c.piece_leftmost-whole.ensures)
    c.piece_leftmost-third.ensures
    (rw last at c.piece_leftmost-last.ensures)

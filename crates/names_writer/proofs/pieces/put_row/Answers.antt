use Rattle.std.proofs.Common.{◌≡◌, ◌≢◌, ◌∙◌, refl, ap, ap₂, ℕ, ◌+◌, ◌<◌, List, length, get_or, arith, get_or-set_other, get_or-set_same, below_more}
use Rattle.tokens.specs.WrittenNames.{split_of}
use Rattle.names_writer.specs.declared.pieces.Cursor.{Cursor}
use Rattle.names_writer.specs.Steps.{token_number, kind_byte}
use Rattle.names_writer.specs.Rows.{token_of}
use Rattle.names_writer.specs.Pieces.{cursor_at, place_of, piece_of, row_piece, Moved}
use Rattle.names_writer.proofs.TokenPartLaws.{token_lies, token_is}
use Rattle.names_writer.proofs.PieceLaws.{piece_kind, written_start, written-turn}
use Rattle.names_writer.proofs.pieces.put_row.Goals as goal
use Rattle.names_writer.proofs.pieces.put_row.Goals.{In-loop-k, After-part_at-token, After-from-kind}

pub loop-k-init : goal.loop-k-init
loop-k-init c =
    let a = c.args in
    record {
      moved = λ j h. absurd (omega arith);
      same = λ j h. refl;
      written =
          written_start a.out.now (place_of a.cursors.now)
          (row_piece a.name.now a.kinds.now a.cursors.now);
    }

inside : (c : In-loop-k) → c.loop-k.k < length (split_of c.args.name.now)
inside c = omega (arith, c.requires.marked.counted)

-- Token k of the name.
token : (c : After-part_at-token) → c.part_at-token.result.now ≡ token_of c.args.name.now c.loop-k.k
token c =
    c.part_at-token.ensures
    ∙ token_is c.args.name.now c.args.marks.now c.requires.marked.ends c.loop-k.k
    (inside (goal.at.After-part_at-token c).In-loop-k)

-- The cursor is still where it was.
old : (c : In-loop-k) → cursor_at c.loop-k.cursors c.loop-k.k ≡ cursor_at c.args.cursors.now c.loop-k.k
old c = c.loop-k.invariant.same c.loop-k.k (omega arith)

-- What the token adds to its column.
piece : (c : After-from-kind)
    → piece_of (cursor_at c.loop-k.cursors c.loop-k.k).last (kind_byte c.from-kind.result)
    c.part_at-token.result.now
    ≡ row_piece c.args.name.now c.args.kinds.now c.args.cursors.now c.loop-k.k
piece c =
    let byte = get_or c.args.kinds.now c.loop-k.k 0 in
    piece_kind _ (kind_byte c.from-kind.result) byte c.part_at-token.result.now c.from-kind.ensures.string
    c.from-kind.ensures.width
    ∙ ap₂ (λ (cursor : Cursor) (t : List ℕ). piece_of cursor.last byte t)
    (old (goal.at.After-from-kind c).In-loop-k) (token (goal.at.After-from-kind c).After-part_at-token)

pub part_at-token-requires : goal.part_at-token-requires
part_at-token-requires c =
    token_lies c.args.name.now c.args.marks.now c.requires.marked.ends c.loop-k.k
    (inside (goal.at.part_at-token-requires c).In-loop-k)

pub put_piece-place-requires : goal.put_piece-place-requires
put_piece-place-requires c =
    let l = c.loop-k in
    record {
      number_value = c.number_of-number.ensures;
      token_in_bounds =
          omega (
            arith,
            ap length (piece (goal.at.put_piece-place-requires c).After-from-kind),
            ap (λ (cursor : Cursor). cursor.place) (old (goal.at.put_piece-place-requires c).In-loop-k),
            c.requires.pieces_fit.each l.k (omega arith),
            l.auto.out,
          );
    }

pub loop-k-preserved : goal.loop-k-preserved
loop-k-preserved c =
    let a = c.args in
    let l = c.loop-k in
    let lt : l.k < length l.cursors = omega arith in
    let is = piece (goal.at.loop-k-preserved c).After-from-kind in
    let place = ap (λ (cursor : Cursor). cursor.place) (old (goal.at.loop-k-preserved c).In-loop-k) in
    let moved : Moved (token_of a.name.now l.k) (row_piece a.name.now a.kinds.now a.cursors.now l.k)
    (cursor_at a.cursors.now l.k)
    (record { last = c.number_of-number.result; place = c.put_piece-place.result }) =
    record {
      last =
          c.number_of-number.ensures
          ∙ ap token_number (token (goal.at.loop-k-preserved c).After-part_at-token);
      place =
          c.put_piece-place.ensures.1 ∙ ap₂ (λ (at : ℕ) (bytes : List ℕ). at + length bytes) place is;
    } in
    record {
      moved =
          below_more _ _
          (λ j h. let ne : j ≢ l.k = omega arith in rw get_or-set_other (l.invariant.moved j h))
          (rw get_or-set_same moved);
      same = λ j h. let ne : j ≢ l.k = omega arith in rw get_or-set_other (l.invariant.same j (omega arith));
      written =
          written-turn a.out.now (place_of a.cursors.now)
          (row_piece a.name.now a.kinds.now a.cursors.now) l.k l.out _ _ _ l.invariant.written place is
          c.put_piece-place.ensures.0;
    }

pub returns-clause-moved : goal.returns-clause-moved
returns-clause-moved c = record { each = λ k h. c.loop-k.invariant.moved k (omega arith) }

pub returns-clause-written : goal.returns-clause-written
returns-clause-written c =
    let l = c.loop-k in
    let e : l.k ≡ length c.args.cursors.now = omega arith in
    rw (← e) l.invariant.written

use Rattle.std.proofs.Common.{◌≡◌, ◌≢◌, ◌∙◌, refl, ap, ap₂, Option, Some, ℕ, ◌+◌, ◌<◌, List, length, get_or, arith, get_or-set_other, get_or-set_same, below_more}
use Rattle.tokens.specs.WrittenNames.{split_of}
use Rattle.names_writer.specs.declared.pieces.Cursor.{Cursor}
use Rattle.names_writer.specs.Steps.{no_number, number_of, kind_byte}
use Rattle.names_writer.specs.Rows.{token_of}
use Rattle.names_writer.specs.Pieces.{cursor_at, place_of, typed_piece, typed_row_piece, TypedMoved}
use Rattle.std.specs.Option.{unwrap_or}
use Rattle.names_writer.proofs.ValueLaws.{number_or}
use Rattle.names_writer.proofs.TokenPartLaws.{token_lies, token_is}
use Rattle.names_writer.proofs.PieceLaws.{typed_kind, written_start, written-turn}
use Rattle.names_writer.proofs.pieces.put_typed_row.Goals as goal
use Rattle.names_writer.proofs.pieces.put_typed_row.Goals.{In-loop-k, After-token_at-token, After-from}

pub loop-k-init : goal.loop-k-init
loop-k-init c =
    let a = c.args in
    record {
      moved = λ j h. absurd (omega arith);
      same = λ j h. refl;
      written =
          written_start a.out.now (place_of a.cursors.now)
          (typed_row_piece a.name.now a.kinds.now a.cursors.now);
    }

inside : (c : In-loop-k) → c.loop-k.k < length (split_of c.args.name.now)
inside c = omega (arith, c.requires.marked.counted)

-- Token k of the name.
token : (c : After-token_at-token) → c.token_at-token.result.now ≡ token_of c.args.name.now c.loop-k.k
token c =
    c.token_at-token.ensures
    ∙ token_is c.args.name.now c.args.marks.now c.requires.marked.ends c.loop-k.k
    (inside (goal.at.After-token_at-token c).In-loop-k)

-- The number of the token, or what stands for none.
number : (c : After-from) → c.unwrap_or-number.result ≡ number_of c.token_at-token.result.now
number c =
    c.unwrap_or-number.ensures
    ∙ ap (λ (o : Option ℕ). unwrap_or o no_number) c.number_of.ensures
    ∙ number_or c.token_at-token.result.now

-- The cursor is still where it was.
old : (c : In-loop-k) → cursor_at c.loop-k.cursors c.loop-k.k ≡ cursor_at c.args.cursors.now c.loop-k.k
old c = c.loop-k.invariant.same c.loop-k.k (omega arith)

-- What the token adds to its column.
piece : (c : After-from)
    → typed_piece (cursor_at c.loop-k.cursors c.loop-k.k).last (kind_byte c.from.result)
    c.token_at-token.result.now
    ≡ typed_row_piece c.args.name.now c.args.kinds.now c.args.cursors.now c.loop-k.k
piece c =
    let byte = get_or c.args.kinds.now c.loop-k.k 0 in
    typed_kind _ (kind_byte c.from.result) byte c.token_at-token.result.now c.from.ensures.string
    c.from.ensures.width
    ∙ ap₂ (λ (cursor : Cursor) (t : List ℕ). typed_piece cursor.last byte t)
    (old (goal.at.After-from c).In-loop-k) (token (goal.at.After-from c).After-token_at-token)

pub token_at-token-requires : goal.token_at-token-requires
token_at-token-requires c =
    token_lies c.args.name.now c.args.marks.now c.requires.marked.ends c.loop-k.k
    (inside (goal.at.token_at-token-requires c).In-loop-k)

pub put_typed_piece-place-requires : goal.put_typed_piece-place-requires
put_typed_piece-place-requires c =
    let l = c.loop-k in
    record {
      number_value = number (goal.at.put_typed_piece-place-requires c).After-from;
      token_in_bounds =
          omega (
            arith,
            ap length (piece (goal.at.put_typed_piece-place-requires c).After-from),
            ap (λ (cursor : Cursor). cursor.place) (old (goal.at.put_typed_piece-place-requires c).In-loop-k),
            c.requires.pieces_fit.each l.k (omega arith),
            l.auto.out,
          );
    }

pub loop-k-preserved : goal.loop-k-preserved
loop-k-preserved c =
    let a = c.args in
    let l = c.loop-k in
    let lt : l.k < length l.cursors = omega arith in
    let is = piece (goal.at.loop-k-preserved c).After-from in
    let place = ap (λ (cursor : Cursor). cursor.place) (old (goal.at.loop-k-preserved c).In-loop-k) in
    let moved : TypedMoved (token_of a.name.now l.k) (typed_row_piece a.name.now a.kinds.now a.cursors.now l.k)
    (cursor_at a.cursors.now l.k)
    (record { last = Some c.unwrap_or-number.result; place = c.put_typed_piece-place.result }) =
    record {
      last =
          ap (λ (n : ℕ). Some n) (number (goal.at.loop-k-preserved c).After-from)
          ∙ ap (λ (t : List ℕ). Some (number_of t))
          (token (goal.at.loop-k-preserved c).After-token_at-token);
      place =
          c.put_typed_piece-place.ensures.1 ∙ ap₂ (λ (at : ℕ) (bytes : List ℕ). at + length bytes) place is;
    } in
    record {
      moved =
          below_more _ _
          (λ j h. let ne : j ≢ l.k = omega arith in rw get_or-set_other (l.invariant.moved j h))
          (rw get_or-set_same moved);
      same = λ j h. let ne : j ≢ l.k = omega arith in rw get_or-set_other (l.invariant.same j (omega arith));
      written =
          written-turn a.out.now (place_of a.cursors.now)
          (typed_row_piece a.name.now a.kinds.now a.cursors.now) l.k l.out _ _ _ l.invariant.written place is
          c.put_typed_piece-place.ensures.0;
    }

pub returns-clause-moved : goal.returns-clause-moved
returns-clause-moved c = record { each = λ k h. c.loop-k.invariant.moved k (omega arith) }

pub returns-clause-written : goal.returns-clause-written
returns-clause-written c =
    let l = c.loop-k in
    let e : l.k ≡ length c.args.cursors.now = omega arith in
    rw (← e) l.invariant.written

use Rattle.std.proofs.Common.{◌≡◌, ◌≢◌, ◌∙◌, refl, ap, subst, ℕ, ◌<◌, List, length, arith, get_or-set_other, get_or-set_same, below_more}
use Rattle.tokens.specs.WrittenNames.{split_of}
use Rattle.names_writer.specs.declared.column.Column.{Column}
use Rattle.names_writer.specs.Rows.{token_of}
use Rattle.names_writer.specs.Columns.{column_at, Grown}
use Rattle.names_writer.proofs.TokenPartLaws.{token_lies, token_is}
use Rattle.names_writer.proofs.MeasuredLaws.{token-short}
use Rattle.names_writer.proofs.rows.add_row.Goals as goal
use Rattle.names_writer.proofs.rows.add_row.Goals.{In-loop-k, After-token_at}

pub loop-k-init : goal.loop-k-init
loop-k-init c = record { grown = λ j h. absurd (omega arith); same = λ j h. refl }

inside : (c : In-loop-k) → c.loop-k.k < length (split_of c.args.name.now)
inside c = omega (arith, c.requires.marked.counted)

-- Token k of the name.
token : (c : After-token_at) → c.token_at.result.now ≡ token_of c.args.name.now c.loop-k.k
token c =
    c.token_at.ensures
    ∙ token_is c.args.name.now c.args.marks.now c.requires.marked.ends c.loop-k.k
    (inside (goal.at.After-token_at c).In-loop-k)

pub token_at-requires : goal.token_at-requires
token_at-requires c =
    token_lies c.args.name.now c.args.marks.now c.requires.marked.ends c.loop-k.k
    (inside (goal.at.token_at-requires c).In-loop-k)

pub with-requires : goal.with-requires
with-requires c =
    let l = c.loop-k in (
      omega (
        arith,
        ap (λ (column : Column). column.size) (l.invariant.same l.k (omega arith)),
        c.requires.small.each l.k (omega arith),
      ),
      omega (
        arith,
        ap length (token (goal.at.with-requires c).After-token_at),
        token-short c.args.name.now l.k,
        c.requires.marked.short,
      ),
    )

pub loop-k-preserved : goal.loop-k-preserved
loop-k-preserved c =
    let l = c.loop-k in
    let lt : l.k < length l.columns = omega arith in
    let grown : Grown (column_at c.args.columns.now l.k) (token_of c.args.name.now l.k) c.with.result =
    subst (λ (column : Column). Grown column (token_of c.args.name.now l.k) c.with.result)
    (l.invariant.same l.k (omega arith))
    (subst (λ (t : List ℕ). Grown (column_at l.columns l.k) t c.with.result)
    (token (goal.at.loop-k-preserved c).After-token_at) c.with.ensures) in
    record {
      grown =
          below_more _ _
          (λ j h. let ne : j ≢ l.k = omega arith in rw get_or-set_other (l.invariant.grown j h))
          (rw get_or-set_same grown);
      same = λ j h. let ne : j ≢ l.k = omega arith in rw get_or-set_other (l.invariant.same j (omega arith));
    }

pub returns : goal.returns
returns c = record { each = λ k h. c.loop-k.invariant.grown k (omega arith) }

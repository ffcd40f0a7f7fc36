use mathlib.Core.Path.{sym, ap, ◌∙◌}
use mathlib.Core.List.{List}
use Prim.Native.Nat.{ℕ}
use native.Mathlib.Omega.{arith}
use lib.ListN.{length}
use Rattle.tokens.specs.WrittenNames.{split_of, names_lent}
use Rattle.names_writer.proofs.LentLaws.{LentName, lent_name, part_lies}
use Rattle.names_writer.proofs.RefusedLaws.{differ-start, differ_found}
use Rattle.names_writer.proofs.RefusedLaws.{differ_passed, differ-past}
use Rattle.names_writer.proofs.refused.counts_differ.Goals as goal
use Rattle.names_writer.proofs.refused.counts_differ.Goals.{After-part_at}

name : (c : After-part_at) → LentName c.args.names.now c.args.ends.now c.loop-i.i c.part_at.result.now
name c =
    lent_name c.args.names.now c.args.ends.now c.requires.fit c.loop-i.i (omega arith)
    c.part_at.result.now c.part_at.ensures

pub loop-i-init : goal.loop-i-init
loop-i-init c = differ-start (names_lent c.args.names.now c.args.ends.now)

pub part_at-requires : goal.part_at-requires
part_at-requires c =
    part_lies c.args.names.now c.args.ends.now c.requires.fit c.loop-i.i (omega arith)

pub split_name-count-requires : goal.split_name-count-requires
split_name-count-requires c =
    let n = name (goal.at.split_name-count-requires c).After-part_at in
    record { some = n.some; short = n.short; room = omega (arith, c.requires.room) }

pub returns-then-count-first : goal.returns-then-count-first
returns-then-count-first c =
    let a = c.args in
    let l = c.loop-i in
    sym (differ_found a.names.now a.ends.now l.i (omega arith) c.split_name-count.result
    c.token_count-first.result
    (c.split_name-count.ensures.1
    ∙ ap (λ (name : List ℕ). length (split_of name))
    (name (goal.at.returns-then-count-first c).After-part_at).is)
    c.token_count-first.ensures c.if-count-first.true)
    ∙ l.invariant

pub loop-i-preserved : goal.loop-i-preserved
loop-i-preserved c =
    let a = c.args in
    let l = c.loop-i in
    sym (differ_passed a.names.now a.ends.now l.i (omega arith) c.split_name-count.result
    c.token_count-first.result
    (c.split_name-count.ensures.1
    ∙ ap (λ (name : List ℕ). length (split_of name))
    (name (goal.at.loop-i-preserved c).After-part_at).is)
    c.token_count-first.ensures c.if-count-first.false)
    ∙ l.invariant

pub returns : goal.returns
returns c =
    let a = c.args in
    let l = c.loop-i in
    sym (differ-past a.names.now a.ends.now l.i (omega arith)) ∙ l.invariant

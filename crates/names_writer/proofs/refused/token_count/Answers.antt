-- `names_writer::refused::token_count` meets its contract. Assumes nothing.
use mathlib.Core.Path.{ap, ◌∙◌}
use mathlib.Core.List.{List}
use Prim.Native.Nat.{ℕ}
use native.Mathlib.Nat.{pos_of_ne-zero}
use lib.ListN.{length}
use Rattle.tokens.specs.WrittenNames.{split_of, token_count}
use Rattle.names_writer.proofs.LentLaws.{LentName, lent_name, part_lies}
use Rattle.names_writer.proofs.RefusedLaws.{no-tokens}
use Rattle.names_writer.proofs.refused.token_count.Goals as goal
use Rattle.names_writer.proofs.refused.token_count.Goals.{After-part_at}

pub returns-then-ends-eq0 : goal.returns-then-ends-eq0
returns-then-ends-eq0 c = no-tokens c.args.names.now c.args.ends.now c.if-ends-eq0.true

name : (c : After-part_at) → LentName c.args.names.now c.args.ends.now 0 c.part_at.result.now
name c =
    lent_name c.args.names.now c.args.ends.now c.requires.fit 0 (pos_of_ne-zero c.if-ends-eq0.false)
    c.part_at.result.now c.part_at.ensures

pub part_at-requires : goal.part_at-requires
part_at-requires c =
    part_lies c.args.names.now c.args.ends.now c.requires.fit 0 (pos_of_ne-zero c.if-ends-eq0.false)

pub split_name-requires : goal.split_name-requires
split_name-requires c =
    let n = name (goal.at.split_name-requires c).After-part_at in
    record { some = n.some; short = n.short; room = c.requires.room }

pub returns : goal.returns
unfolding token_count
returns c =
    c.split_name.ensures.1
    ∙ ap (λ (name : List ℕ). length (split_of name)) (name (goal.at.returns c).After-part_at).is

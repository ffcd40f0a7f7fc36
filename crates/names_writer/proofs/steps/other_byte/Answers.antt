-- `names_writer::steps::other_byte` meets its contract. Assumes nothing.
use mathlib.Core.Path.{sym, ◌∙◌}
use mathlib.Core.Bool.{not}
use borrow.Author.Rules.{rules}
use Rattle.std.proofs.lemmas.Iterator.{YieldsList-from_slice}
use Rattle.std.proofs.lemmas.Iterator.Search.{any_from_yields_List}
use Rattle.base.proofs.SliceLaws.{any_list}
use Rattle.tokens.specs.Split.{is_digit}
use Rattle.names_writer.proofs.steps.other_byte.Goals as goal

pub returns : goal.returns
unfolding is_digit
returns c =
    any_from_yields_List (λ byte. not (is_digit byte)) _ _ _ c.any.ensures.ran
    (YieldsList-from_slice c.args.token.now cc) (λ x b q k. search rules)
    ∙ sym (any_list (λ byte. not (is_digit byte)) c.args.token.now)

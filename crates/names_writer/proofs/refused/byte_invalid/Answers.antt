-- `names_writer::refused::byte_invalid` meets its contract. Assumes nothing.
use mathlib.Core.Path.{sym, ◌∙◌}
use mathlib.Core.Bool.{not}
use borrow.Author.Rules.{rules}
use Rattle.std.proofs.lemmas.Iterator.{YieldsList-from_slice}
use Rattle.std.proofs.lemmas.Iterator.Search.{any_from_yields_List}
use Rattle.base.proofs.SliceLaws.{any_list}
use Rattle.tokens.specs.Split.{is_printable}
use Rattle.names_writer.proofs.refused.byte_invalid.Goals as goal

pub returns : goal.returns
unfolding is_printable
returns c =
    any_from_yields_List (λ byte. not (is_printable byte)) _ _ _ c.any.ensures.ran
    (YieldsList-from_slice c.args.names.now cc) (λ x b q k. search rules)
    ∙ sym (any_list (λ byte. not (is_printable byte)) c.args.names.now)

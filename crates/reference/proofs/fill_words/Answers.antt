-- `reference::fill_words` meets its contract: all 256 words stand. Assumes nothing.
use native.Mathlib.Omega.{arith}
use mathlib.Core.Path.{sym, ◌∙◌}
use lib.Seq.{ext_get_or}
use Rattle.reference.proofs.Words.{length-word_table, get_or-word_table}
use Rattle.reference.proofs.fill_words.Goals as goal

pub returns : goal.returns
returns c =
    let a = c.args in
    let size = length-word_table a.forward in
    ext_get_or 0 _ _ (omega arith)
    (λ k h.
    c.loop-byte.invariant k (omega arith) ∙ sym (get_or-word_table a.forward k (omega arith)))

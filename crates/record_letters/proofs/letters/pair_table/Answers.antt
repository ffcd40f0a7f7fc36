-- `record_letters::letters::pair_table` meets its contract: each call gives the word of its byte.
-- Assumes nothing.
use mathlib.Core.Path.{◌≡◌, sym, ◌∙◌}
use Prim.Native.Nat.{◌<◌}
use native.Mathlib.Omega.{arith}
use lib.ListN.{get_or}
use Rattle.std.proofs.lemmas.List.{ext_get_or}
use Rattle.record_letters.specs.Printed.{pair_word, pair_words}
use Rattle.record_letters.proofs.PairLaws.{length-pair_words, get_or-pair_words}
use Rattle.record_letters.proofs.letters.pair_table.Goals as goal

pub returns : goal.returns
returns c =
    let items = c.from_fn.ensures.items in
    ext_get_or 0 c.from_fn.result pair_words
    (items.long ∙ sym length-pair_words)
    (λ i h.
    let small : i < 256 = omega (arith, items.long) in
    let call = (items.at i 0 small).2 in
    let this : get_or c.from_fn.result i 0 ≡ pair_word i = grind (arith, call) in
    this ∙ sym (get_or-pair_words i small))

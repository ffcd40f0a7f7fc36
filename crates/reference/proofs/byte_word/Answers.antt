-- `reference::byte_word` meets its contract: the letters of a reference of that byte alone, as a
-- number. Assumes nothing.
use mathlib.Core.Path.{refl}
use Rattle.reference.proofs.Words.{byte_word-is}
use Rattle.reference.proofs.byte_word.Goals as goal

pub returns : goal.returns
returns c =
    let a = c.args in
    byte_word-is a.forward a.byte c.u32_at.result _ _ refl c.put_letters.ensures
    c.u32_at.ensures

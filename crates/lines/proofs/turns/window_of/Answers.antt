-- `lines::turns::window_of` meets its contract. Assumes nothing.
use mathlib.Core.Path.{refl, sym}
use native.Mathlib.Omega.{arith}
use lib.Seq.{length-take-le, take_all}
use Rattle.lines.specs.Listing.{window_of}
use Rattle.lines.proofs.turns.window_of.Goals as goal

pub returns-then-left-le-MAX_BYTES : goal.returns-then-left-le-MAX_BYTES
unfolding window_of
returns-then-left-le-MAX_BYTES c =
    sym (take_all 32_768 _ (omega arith))

pub slice_bounds-result-end : goal.slice_bounds-result-end
slice_bounds-result-end c =
    let args = c.args in
    sym (length-take-le 32_768 args.left.now (omega arith))

pub returns : goal.returns
unfolding window_of
returns c =
    refl

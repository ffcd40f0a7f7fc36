-- `cases::case_file::bytes_from` meets its contract: a part that would leave the bytes ends with
-- them. Assumes nothing.
use mathlib.Core.Path.{◌≡◌, sym, ap, ◌∙◌}
use Prim.Native.Nat.{◌+◌, ◌-◌, ℕ, ◌≤◌}
use native.Mathlib.Omega.{arith}
use lib.ListN.{length, take, drop, drop_of_length-le, length-drop}
use lib.Seq.{take-nil, take_all}
use Rattle.cases.proofs.case_file.bytes_from.Goals as goal

pub returns-then-bytes-from : goal.returns-then-bytes-from
returns-then-bytes-from c =
    let a = c.args in
    let past : length a.bytes.now ≤ a.from = omega arith in
    sym (rw drop_of_length-le (take-nil a.count))

pub returns-then-bytes-from-2 : goal.returns-then-bytes-from-2
returns-then-bytes-from-2 c =
    let a = c.args in
    let rest = drop a.from a.bytes.now in
    take_all (length a.bytes.now - a.from) rest (simp length-drop (omega arith))
    ∙ sym (take_all a.count rest (simp length-drop (omega arith)))

pub returns : goal.returns
returns c =
    let a = c.args in
    let e : (a.from + a.count) - a.from ≡ a.count = omega arith in
    ap (λ (n : ℕ). take n (drop a.from a.bytes.now)) e

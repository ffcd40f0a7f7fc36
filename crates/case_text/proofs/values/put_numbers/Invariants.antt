-- `case_text::values::put_numbers` answers inside the buffer. Assumes nothing.
use Rattle.std.proofs.Common.{◌≡◌, ◌≤◌, length}
use Rattle.case_text.proofs.values.put_numbers.Given as goal

abbrev pub invariant-loop-value : goal.invariant-loop-value
invariant-loop-value l =
    (goal.iterator-loop-value).can_next l.value-iterator × (goal.iterator-loop-value).is_finite l.value-iterator
    × (length l.out ≡ length l.initial.out) × (l.at ≤ l.place) × (l.place ≤ length l.initial.out)

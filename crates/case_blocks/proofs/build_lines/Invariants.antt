-- `case_blocks::build_lines` keeps what is built inside the buffer. Assumes nothing.
use Rattle.std.proofs.Common.{◌≡◌, length}
use Rattle.case_blocks.specs.Built.{BuiltIn}
use Rattle.case_blocks.proofs.build_lines.Given as goal

abbrev pub invariant-loop-line : goal.invariant-loop-line
invariant-loop-line l =
    (goal.iterator-loop-line).can_next l.line-iterator × (goal.iterator-loop-line).is_finite l.line-iterator
    × (length l.out ≡ length l.initial.out) × BuiltIn l.built (length l.initial.out)

-- An input that is built in a buffer of so many bytes: its last block has a header there, and it
-- ends there.
use Rattle.std.specs.Prelude.{ℕ, ◌+◌, ◌≤◌, ◌<◌}
use Rattle.case_blocks.specs.declared.Built.{Built}
use Rattle.case_blocks.specs.declared.Kind.{Kind}
use Rattle.case_blocks.specs.declared.Kind.TheVariants as kind

pub record BuiltIn (built : Built) (size : ℕ) : Type 0 where
  pub begun : built.start + 121 ≤ size
  pub inside : built.end ≤ size

-- A section has one of nine numbers.
abbrev pub KindFits : (kind : Kind) → Type 0
KindFits (kind.Section number) = number < 9
KindFits kind.Block = Unit {0}
KindFits kind.Bytes = Unit {0}
KindFits kind.Put = Unit {0}
KindFits kind.Cut = Unit {0}
KindFits kind.Nothing = Unit {0}

-- The types of columns and their bytes. Assumes nothing.
use mathlib.Core.Path.{◌≡◌, refl, ap}
use native.Mathlib.Omega.{arith}
use Rattle.names.specs.declared.column.Kind.{Kind}
use Rattle.names.specs.declared.column.Kind.TheVariants.{Strings, Steps8, Steps16, Steps32}
use Rattle.names.specs.Cursors.{byte_of}

-- Strings have the byte 0.
pub byte-strings : (kind : Kind) → kind ≡ Strings → byte_of kind ≡ 0
unfolding byte_of
byte-strings kind e = ap byte_of e

-- No other type has.
pub byte-other : (kind : Kind) → (kind ≡ Strings → ⊥) → byte_of kind ≡ 0 → ⊥
unfolding byte_of
byte-other Strings other e = other refl
byte-other Steps8 other e = omega arith
byte-other Steps16 other e = omega arith
byte-other Steps32 other e = omega arith

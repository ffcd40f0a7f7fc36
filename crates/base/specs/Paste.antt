-- Writing into a buffer.
use Rattle.std.specs.Prelude.{ℕ, ◌+◌, List, ◌++◌, length, take, drop}

-- A buffer with a part written over it from index `at` on.
unfoldable pub pasted {ℓ} : {A : Type ℓ} (buffer : List A) (at : ℕ) (part : List A) → List A
pasted buffer at part = take at buffer ++ part ++ drop (at + length part) buffer

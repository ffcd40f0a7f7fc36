-- Text in ASCII.
use Rattle.std.specs.Prelude.{ℕ, List, [], ◌∷◌}
use Prim.Native.Char.{code}
use Prim.Native.String.{String, [] as ended, ◌∷◌ as ◌then◌}

-- The bytes of a text.
unfoldable pub text : (characters : String) → List ℕ
text ended = []
text (character then characters) = code character ∷ text characters

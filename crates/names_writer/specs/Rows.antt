-- A name token by token, as code walks over it.
use Rattle.std.specs.Prelude.{ℕ, ◌≤◌, ◌≡◌, List, [], length, get_or}
use Rattle.base.specs.Place.{At}
use Rattle.tokens.specs.WrittenNames.{split_of}
use Rattle.names_writer.specs.Runs.{token_ends}

-- Token k of a name.
abbrev pub token_of : (name : List ℕ) (k : ℕ) → List ℕ
token_of name k = get_or (split_of name) k []

-- A name whose `count` tokens end where `marks` says.
pub record Marked (name marks : List ℕ) (count : ℕ) : Type 0 where
  pub counted : count ≡ length (split_of name)
  pub ends : At marks 0 (token_ends name 0)
  pub short : length name ≤ 255

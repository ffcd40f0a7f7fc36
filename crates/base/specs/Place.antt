-- What stands at a place of a list, by index. It replaces rewriting of front ++ part ++ rest.
use Rattle.std.specs.Prelude.{ℕ, ◌+◌, ◌≤◌, ◌<◌, ◌≡◌, List, length, get_or}

-- The part stands at index `place` of the list.
pub record At (list : List ℕ) (place : ℕ) (part : List ℕ) : Type 0 where
  pub fits : place + length part ≤ length list
  pub same : (k : ℕ) → k < length part → get_or list (place + k) 0 ≡ get_or part k 0

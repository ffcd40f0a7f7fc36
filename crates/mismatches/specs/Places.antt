-- Places at which a test holds, as a search for the next of them answers. Nothing here is part of
-- the format.
use Rattle.std.specs.Prelude.{ℕ, ◌≤◌, ◌<◌, ◌≡◌, Bool, true, false}

-- The test holds at no place from `from` on and before `to`.
pub record NoneBetween (test : ℕ → Bool) (from to : ℕ) : Type 0 where
  pub rises : from ≤ to
  pub none : (k : ℕ) → from ≤ k → k < to → test k ≡ false

-- The first place from `from` on and before `bound` at which the test holds.
pub record FirstOf (test : ℕ → Bool) (from bound place : ℕ) : Type 0 where
  pub passed : NoneBetween test from place
  pub inside : place < bound
  pub holds : test place ≡ true

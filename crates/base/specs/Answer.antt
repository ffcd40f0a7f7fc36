-- Answers (level 2): what stands at a place of a list and the place after it, or a refusal. A
-- refusal is a number, or a number with the indices that go with it.
use Rattle.std.specs.Prelude.{ℕ, cond, List, [], ◌∷◌}
use Rattle.base.specs.Faults.{Fault}

-- The first fault of a list that fits, refused; where none fits, what follows.
unfoldable pub checked : {A : Type 0} (refuse : ℕ → A) (faults : List Fault) (rest : A) → A
checked refuse [] rest = rest
checked refuse (fault ∷ faults) rest =
    cond fault.fits (refuse fault.number) (checked refuse faults rest)

-- The number of the first fault that fits, or 0.
abbrev pub first_number : (faults : List Fault) → ℕ
first_number faults = checked (λ number. number) faults 0

pub data Answer (R A : Type 0) : Type 0 where
  found : (value : A) (next : ℕ) → Answer R A
  refused : (refusal : R) → Answer R A

-- An answer whose refusals are numbers.
abbrev pub Scan : (A : Type 0) → Type 0
Scan A = Answer ℕ A

-- An answer, and what follows it.
unfoldable pub and_then : {R A B : Type 0} (answer : Answer R A) (rest : A → ℕ → Answer R B)
    → Answer R B
and_then (found value next) rest = rest value next
and_then (refused refusal) rest = refused refusal

-- An answer with its refusal put into other terms.
unfoldable pub refused_as : {R S A : Type 0} (terms : R → S) (answer : Answer R A) → Answer S A
refused_as terms (found value next) = found value next
refused_as terms (refused refusal) = refused (terms refusal)

-- Faults (01, Numbers of refusal): a row is a number and whether it fits. Nothing here has an
-- order; where a call answers the first fault that fits, the order is that of the list it is
-- given.
use Rattle.std.specs.Prelude.{ℕ, ◌≡◌, Bool, false, List}
use Rattle.base.specs.Lists.{any}

-- A refusal's number, and whether it fits.
pub record Fault : Type 0 where
  pub number : ℕ
  pub fits : Bool

abbrev pub fault : (number : ℕ) (fits : Bool) → Fault
fault number fits = record { number = number; fits = fits }

-- None of the faults fits.
abbrev pub NoneFits : (faults : List Fault) → Type 0
NoneFits faults = any (λ f. f.fits) faults ≡ false

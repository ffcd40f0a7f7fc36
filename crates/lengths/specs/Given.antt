-- The lengths of a block's reads as the code holds them (01, Numbers of refusal, 9 and 10).
use Rattle.std.specs.Prelude.{ℕ, cond, not, List, eqb}
use Rattle.std.proofs.Math.Option.{Option, none, some}
use Rattle.base.specs.Lists.{total}
use Rattle.base.specs.Answer.{Scan, found, refused}
use Rattle.std.specs.Prelude as std
use Rattle.std.specs.Prelude.{Some, None}

-- The list, whatever number a refusal has: each is 9.
unfoldable pub lengths_found : (lengths : Scan (List ℕ)) → Option (List ℕ)
lengths_found (found lengths next) = some lengths
lengths_found (refused number) = none

-- The sum of the lengths of all reads; none where there are no lengths.
abbrev pub LengthsSum : Type 0
LengthsSum = std.Option ℕ

-- The sum of the lengths.
unfoldable pub lengths_sum : (lengths : Option (List ℕ)) → LengthsSum
lengths_sum (some lengths) = Some (total lengths)
lengths_sum none = None

-- 9 where there are no lengths, 10 where the raw DNA size is not their sum, else 0.
unfoldable pub lengths_number : (raw : ℕ) (lengths : Option (List ℕ)) → ℕ
lengths_number raw (some lengths) = cond (not (eqb raw (total lengths))) 10 0
lengths_number raw none = 9

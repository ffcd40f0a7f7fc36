-- Writing an element of a column's table a turn. Assumes nothing.
use mathlib.Core.Path.{◌≡◌, sym, ap, ◌∙◌}
use Prim.Native.Nat.{ℕ, ◌+◌, ◌<◌}
use native.Mathlib.Nat.{zero-add}
use native.Mathlib.Omega.{arith}
use mathlib.Core.List.{List}
use lib.ListN.{length, set}
use Rattle.base.specs.Lists.{build}
use Rattle.base.specs.Paste.{pasted}
use Rattle.base.proofs.PasteLaws.{pasted_nil, pasted_turn}

module _ (table : List ℕ) (f : ℕ → ℕ) where
  -- Nothing is written yet.
  pub table_start : table ≡ pasted table 0 (build 0 f)
  unfolding build
  table_start = sym (pasted_nil table 0)

  module _ (now : List ℕ) (k : ℕ) (written : now ≡ pasted table 0 (build k f))
      (inside : k < length table) where
    -- It is written.
    pub table_turn : (x : ℕ) → x ≡ f k → set now k x ≡ pasted table 0 (build (k + 1) f)
    table_turn x e =
        ap (λ (j : ℕ). set now j x) (sym (zero-add k))
        ∙ pasted_turn table 0 f now k x (omega arith) written e

-- The sizes of columns, and their sum. Assumes nothing.
use mathlib.Core.Path.{◌≡◌, ap, ◌∙◌}
use Prim.Native.Nat.{ℕ, ◌+◌, ◌-◌, ◌≤◌}
use native.Mathlib.Omega.{arith}
use mathlib.Core.List.{List, [], ◌∷◌, ◌++◌}
use lib.Dec.{eqb}
use Rattle.base.specs.Lists.{build, total}
use Rattle.base.proofs.ListLaws.{by_test, build-snoc}
use Rattle.tokens.specs.Columns.{step_type}
use Rattle.names_writer.specs.Steps.{kind_width, column_size}
use Rattle.names_writer.proofs.ValueLaws.{steps-small}

total-snoc : (list : List ℕ) (x : ℕ) → total (list ++ (x ∷ [])) ≡ total list + x
unfolding total
total-snoc [] x = omega arith
total-snoc (y ∷ ys) x = omega (arith, total-snoc ys x)

pub total_turn : (k : ℕ) (f : ℕ → ℕ) → total (build (k + 1) f) ≡ total (build k f) + f k
total_turn k f = ap total (build-snoc k f) ∙ total-snoc (build k f) (f k)

-- ---- A size

width-most : (kind : ℕ) → kind_width kind ≤ 4
unfolding kind_width step_type
width-most kind =
    by_test (eqb kind 4) (λ e. rw e (omega arith))
    (λ e. by_test (eqb kind 3) (λ f. rw (e, f) (omega arith)) (λ f. rw (e, f) (omega arith)))

pub column-size-most : (kind size reads : ℕ) → size ≤ 12800000 → reads ≤ 50000
    → column_size kind size reads ≤ 12800000
unfolding column_size
column-size-most kind size reads small few =
    by_test (eqb kind 0) (λ e. rw e small)
    (λ e. rw e (omega (arith, steps-small (kind_width kind) (reads - 1) (width-most kind))))

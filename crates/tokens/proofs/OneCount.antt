-- Names have one token count exactly if the writer's test finds none that differs. Assumes nothing.
use mathlib.Core.Path.{◌≡◌, refl, sym, ap, ◌∙◌}
use Prim.Native.Nat.{ℕ}
use mathlib.Core.Bool.{true, false}
use mathlib.Core.List.{List, [], ◌∷◌}
use lib.ListN.{length}
use lib.Dec.{eqb}
use borrow.Author.Tests.{eq-eqb}
use Rattle.base.specs.Lists.{any}
use Rattle.base.proofs.AllLaws.{all_too, all_none}
use Rattle.tokens.specs.Split.{Split}
use Rattle.tokens.specs.WrittenNames.{split_of, token_count, token_counts_differ}
use Rattle.tokens.specs.LentNames.{OneTokenCount}
use Rattle.tokens.proofs.SplitLaws.{split-of, split-split_of}
use Rattle.tokens.proofs.WrittenStored.{one_count}

-- By the test all have the count of the first.
pub one-token-count : (names : List (List ℕ)) → token_counts_differ names ≡ false → OneTokenCount names
one-token-count names e = (
  token_count names,
  all_too (λ name. length (split_of name) ≡ token_count names) _ (λ name is. (split_of name, split-of name, is)) names
      (one_count names e),
)

-- Names that have one count have that of the first.
pub count-one : (names : List (List ℕ)) → OneTokenCount names → token_counts_differ names ≡ false
unfolding token_counts_differ token_count any
count-one [] one = refl
count-one (name ∷ names) one =
    let counts : (x : List ℕ) → (tokens : List (List ℕ)) × Split x tokens × (length tokens ≡ one.0) → length (split_of x) ≡ one.0
    = λ x is. sym (ap length (split-split_of is.1)) ∙ is.2 in
    let first : length (split_of name) ≡ one.0 = counts name one.1.0 in
    all_none (λ x. eqb (length (split_of x)) (length (split_of name))) (name ∷ names)
    (all_too _ (λ x. eqb (length (split_of x)) (length (split_of name)) ≡ true)
    (λ x is. eq-eqb _ _ (counts x is ∙ sym first)) (name ∷ names) one.1)

-- A section that the rule writes stores its names. Assumes nothing.
use mathlib.Core.Path.{◌≡◌, refl, sym, ap, ◌∙◌, subst}
use Prim.Native.Nat.{ℕ, zero, suc, ◌<◌}
use native.Mathlib.Nat.{not-suc-le-zero, le_of_suc-le-suc}
use native.Mathlib.Omega.{arith}
use mathlib.Core.Bool.{Bool, true, false, not}
use mathlib.Core.List.{List, [], ◌∷◌}
use lib.ListN.{length, get_or, length-map}
use lib.Dec.{eqb}
use borrow.Author.Tests.{eqb-true}
use Rattle.base.specs.Lists.{build, All}
use Rattle.base.proofs.ListLaws.{build_cong, build_get_or, all_get_or, all_build}
use Rattle.base.proofs.GroupLaws.{map-build}
use Rattle.base.proofs.AllLaws.{all_too, all_map, none-all, get_or-map_any}
use Rattle.tokens.specs.Split.{Alternate, Split, NameFits}
use Rattle.tokens.specs.Columns.{column_tokens, ColumnFits}
use Rattle.tokens.specs.Names.{names_bytes, row_of, StoredNames, NamesStored}
use Rattle.tokens.specs.WrittenNames.{split_of, column_for, token_count, tokens_at, columns_for}
use Rattle.tokens.specs.WrittenNames.{written_names, token_counts_differ}
use Rattle.tokens.proofs.SplitLaws.{split-of}
use Rattle.tokens.proofs.ColumnLaws.{column-tokens, column_fits}

-- ---- Token k of every name

-- A token of a split is not empty.
pub token_some : (digits : Bool) (tokens : List (List ℕ)) → Alternate digits tokens → (k : ℕ) → k < length tokens
    → 0 < length (get_or tokens k [])
token_some digits [] is k h = absurd (not-suc-le-zero h)
token_some digits (token ∷ tokens) is zero h = is.0.some
token_some digits (token ∷ tokens) is (suc k) h = token_some (not digits) tokens is.1 k (le_of_suc-le-suc h)

-- Names of one token count have that of the first.
pub one_count : (names : List (List ℕ)) → token_counts_differ names ≡ false
    → All (λ name. length (split_of name) ≡ token_count names) names
unfolding token_counts_differ
one_count names e =
    all_too (λ name. eqb (length (split_of name)) (token_count names) ≡ true) (λ name. length (split_of name) ≡ token_count names)
    (λ name. eqb-true _ _) names (none-all (λ name. eqb (length (split_of name)) (token_count names)) names e)

-- There is one for each name.
pub length-tokens_at : (names : List (List ℕ)) (k : ℕ) → length (tokens_at names k) ≡ length names
unfolding tokens_at
length-tokens_at names k = length-map names (λ name. get_or (split_of name) k [])

-- None is empty.
pub tokens_at-some : (names : List (List ℕ)) (k : ℕ) → token_counts_differ names ≡ false → k < token_count names
    → All (λ token. 0 < length token) (tokens_at names k)
unfolding tokens_at
tokens_at-some names k e h =
    all_map (λ name. length (split_of name) ≡ token_count names) (λ token. 0 < length token) (λ name. get_or (split_of name) k [])
    (λ name count. token_some (split-of name).digits (split_of name) (split-of name).alternate k (omega arith)) names
    (one_count names e)

-- ---- The section

-- The columns of names fit them.
columns-fit : (names : List (List ℕ)) → 0 < length names → All (ColumnFits (length names)) (columns_for names)
unfolding columns_for
columns-fit names some =
    all_build (ColumnFits (length names)) (token_count names) (λ k. column_for (tokens_at names k)) (λ k h.
    let count : length (tokens_at names k) ≡ length names = length-tokens_at names k in
    subst (λ (n : ℕ). ColumnFits n (column_for (tokens_at names k))) count (column_fits (tokens_at names k) (omega arith)))

-- Column k holds token k of every name.
pub column_for-tokens_at : (names : List (List ℕ)) (k : ℕ) → 0 < length names → token_counts_differ names ≡ false → k < token_count names
    → column_tokens (column_for (tokens_at names k)) ≡ tokens_at names k
column_for-tokens_at names k some e h =
    column-tokens (tokens_at names k) (omega (arith, length-tokens_at names k)) (tokens_at-some names k e h)

-- A row is the split of its name.
row-split : (names : List (List ℕ)) → token_counts_differ names ≡ false → (read : ℕ) → read < length names
    → row_of (columns_for names) read ≡ split_of (get_or names read [])
unfolding row_of columns_for tokens_at
row-split names e read h =
    let name : List ℕ = get_or names read [] in
    let count : length (split_of name) ≡ token_count names =
    all_get_or (λ name. length (split_of name) ≡ token_count names) names [] (one_count names e) read h in
    map-build (λ column. get_or (column_tokens column) read []) (token_count names) (λ k. column_for (tokens_at names k))
    ∙ build_cong (token_count names) _ (λ k. get_or (split_of name) k [])
    (λ k l.
    ap (λ (tokens : List (List ℕ)). get_or tokens read []) (column_for-tokens_at names k (omega arith) e l)
    ∙ get_or-map_any (λ name. get_or (split_of name) k []) names read [] [] h)
    ∙ ap (λ (n : ℕ). build n (λ k. get_or (split_of name) k [])) (sym count)
    ∙ build_get_or (split_of name) []

-- The section is the bytes of the columns.
written-section : (names : List (List ℕ)) → 0 < length names → names_bytes (columns_for names) ≡ written_names names
unfolding written_names
written-section [] some = absurd (not-suc-le-zero some)
written-section (name ∷ names) some = refl

-- The section of names of one token count stores them.
pub written-stored : (names : List (List ℕ)) → All NameFits names → token_counts_differ names ≡ false → 0 < length names
    → StoredNames (written_names names) names
written-stored names fit e some =
    record {
      columns = columns_for names;
      bytes = written-section names some;
      fits = columns-fit names some;
      split = λ read h.
          subst (λ (tokens : List (List ℕ)). Split (get_or names read []) tokens) (sym (row-split names e read h))
          (split-of (get_or names read []));
      names_fit = fit;
    }

-- Also where there are none.
pub written-names : (names : List (List ℕ)) → All NameFits names → token_counts_differ names ≡ false
    → NamesStored (length names) (written_names names) names
unfolding written_names
written-names [] fit e = (refl, refl)
written-names (name ∷ names) fit e = (refl, written-stored (name ∷ names) fit e (omega arith))

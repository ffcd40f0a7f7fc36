-- The writer accepts exactly the names within the limits, and takes them as they were lent. Assumes nothing.
use mathlib.Core.Path.{◌≡◌, sym, ap, ◌∙◌, subst}
use Prim.Native.Nat.{ℕ}
use mathlib.Core.Bool.{true, false, not}
use mathlib.Core.List.{List, [], ◌∷◌, map, flatten}
use lib.ListN.{length, length-map}
use lib.Dec.{eqb}
use borrow.Author.Tests.{eqb-true, eq-eqb}
use Rattle.base.specs.Lists.{any, steps_from, All}
use Rattle.base.proofs.ListLaws.{all_left, all_right}
use Rattle.base.proofs.StepsLaws.{length-places}
use Rattle.base.proofs.AllLaws.{all_too, all_map, all_flatten, none-all, all_none, all_any}
use Rattle.base.proofs.CutLaws.{parts_of_flatten, cut_by, lists-ends, CutAt, ends-lists}
use Rattle.base.proofs.Tests.{or-neither, neither_or, not-false, true_not}
use Rattle.tokens.specs.Split.{is_printable, name_length_invalid, NameFits}
use Rattle.tokens.specs.WrittenNames.{names_lent, name_ends_invalid}
use Rattle.tokens.specs.WrittenNames.{token_counts_differ, names_refused}
use Rattle.tokens.specs.LentNames.{LentNames}
use Rattle.tokens.proofs.RowMeaning.{length-valid, valid-length}
use Rattle.tokens.proofs.OneCount.{one-token-count, count-one}

-- ---- Names and their tests

-- Names that fit have lengths that pass.
fit-lengths : (names : List (List ℕ)) → All NameFits names → any name_length_invalid (map length names) ≡ false
fit-lengths names fit =
    all_any name_length_invalid (map length names)
    (all_map NameFits (λ size. name_length_invalid size ≡ false) length (λ name f. length-valid (length name) f.some f.short) names fit)

-- Their bytes are printable.
fit-printable : (names : List (List ℕ)) → All NameFits names → All (λ byte. is_printable byte ≡ true) (flatten names)
fit-printable names fit =
    all_flatten (λ byte. is_printable byte ≡ true) names
    (all_too NameFits (All (λ byte. is_printable byte ≡ true)) (λ name f. f.printable) names fit)

-- Names with such lengths and bytes fit.
names_fit : (names : List (List ℕ)) → any name_length_invalid (map length names) ≡ false
    → All (λ byte. is_printable byte ≡ true) (flatten names) → All NameFits names
unfolding any flatten
names_fit [] e printable = tt
names_fit (name ∷ names) e printable =
    let parts = or-neither (name_length_invalid (length name)) _ e in
    let size = valid-length (length name) parts.0 in
    let claim : ℕ → Type 0 = λ byte. is_printable byte ≡ true in (
      record { some = size.0; short = size.1; printable = all_left claim name (flatten names) printable },
      names_fit names parts.1 (all_right claim name (flatten names) printable),
    )

-- ---- Accepted

-- Lent names are what their ends cut out.
lent-are : (reads : ℕ) (bytes ends : List ℕ) (names : List (List ℕ)) → LentNames reads bytes ends names → names_lent bytes ends ≡ names
unfolding names_lent
lent-are reads bytes ends names lent = parts_of_flatten bytes ends names lent.bytes_are lent.ends_are

-- Their ends are without fault.
ends_valid : (reads : ℕ) (bytes ends : List ℕ) (names : List (List ℕ)) → LentNames reads bytes ends names → name_ends_invalid bytes ends ≡ false
unfolding name_ends_invalid
ends_valid reads bytes ends names lent =
    lists-ends name_length_invalid bytes ends names lent.bytes_are lent.ends_are (fit-lengths names lent.fit)

-- Names within the limits are not refused, and are taken as they were lent.
pub names-lent : (reads : ℕ) (bytes ends : List ℕ) (names : List (List ℕ)) → LentNames reads bytes ends names
    → (names_refused reads bytes ends ≡ false) × (names_lent bytes ends ≡ names)
unfolding names_refused
names-lent reads bytes ends names lent =
    let are : names_lent bytes ends ≡ names = lent-are reads bytes ends names lent in
    let count : length ends ≡ reads =
    ap length lent.ends_are ∙ length-places 0 (map length names) ∙ length-map names length ∙ lent.counted in (
      neither_or _ _ (true_not _ (eq-eqb (length ends) reads count))
          (neither_or _ _ (ends_valid reads bytes ends names lent)
          (neither_or _ _
          (ap (any (λ byte. not (is_printable byte))) lent.bytes_are
          ∙ all_none is_printable (flatten names) (fit-printable names lent.fit))
          (ap token_counts_differ are ∙ count-one names lent.one_count))),
      are,
    )

-- ---- Not refused

-- The names that ends without fault cut out of the bytes.
cut-lent : (bytes ends : List ℕ) → name_ends_invalid bytes ends ≡ false → any (λ byte. not (is_printable byte)) bytes ≡ false
    → token_counts_differ (names_lent bytes ends) ≡ false
    → LentNames (length ends) bytes ends (names_lent bytes ends)
unfolding name_ends_invalid names_lent
cut-lent bytes ends e printable counts =
    let names : List (List ℕ) = cut_by (steps_from 0 ends) bytes in
    let cut : CutAt name_length_invalid bytes ends names = ends-lists name_length_invalid (λ size h. (valid-length size h).0) bytes ends e in
    let are : names_lent bytes ends ≡ names = parts_of_flatten bytes ends names cut.whole_is cut.ends_are in
    subst (λ (lent : List (List ℕ)). LentNames (length ends) bytes ends lent) (sym are)
    (record {
      counted = cut.counted;
      fit = names_fit names cut.pass
          (none-all is_printable (flatten names) (sym (ap (any (λ byte. not (is_printable byte))) cut.whole_is) ∙ printable));
      one_count = one-token-count names (sym (ap token_counts_differ are) ∙ counts);
      bytes_are = cut.whole_is;
      ends_are = cut.ends_are;
    })

-- What is not refused are names within the limits.
pub lent-names : (reads : ℕ) (bytes ends : List ℕ) → names_refused reads bytes ends ≡ false
    → LentNames reads bytes ends (names_lent bytes ends)
unfolding names_refused
lent-names reads bytes ends e =
    let count = or-neither (not (eqb (length ends) reads)) _ e in
    let right = or-neither (name_ends_invalid bytes ends) _ count.1 in
    let printable = or-neither (any (λ byte. not (is_printable byte)) bytes) _ right.1 in
    subst (λ (n : ℕ). LentNames n bytes ends (names_lent bytes ends)) (eqb-true _ _ (not-false _ count.0))
    (cut-lent bytes ends right.0 printable.0 printable.1)

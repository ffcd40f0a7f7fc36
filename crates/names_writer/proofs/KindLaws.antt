-- The type of a column with one more token. Assumes nothing.
use mathlib.Core.Path.{◌≡◌, refl, sym, ap, ap₂, ◌∙◌}
use Prim.Native.Nat.{ℕ, zero, suc, ◌+◌, ◌-◌, ◌≤◌, ◌<◌}
use native.Mathlib.Numerals.{add-one}
use native.Mathlib.Omega.{arith}
use mathlib.Core.Bool.{Bool, true, false, cond, ◌||◌}
use mathlib.Core.List.{List, [], ◌∷◌, ◌++◌, map}
use lib.ListN.{length, get_or, take, length-map, get_or-map}
use lib.Seq.{take-suc, length-take-le, get_or-take}
use lib.Dec.{ltb, eqb}
use borrow.Author.Tests.{le-ltb}
use Rattle.std.proofs.Common.{None, Some}
use Rattle.base.specs.Lists.{any, steps_from}
use Rattle.base.proofs.ListLaws.{by_test}
use Rattle.base.proofs.Tests.{any_append, any_none, or-neither, absurd_test}
use Rattle.tokens.specs.Columns.{column_type, step_type, max_number}
use Rattle.tokens.specs.WrittenNames.{not_number, value_of, value_from, steps_invalid}
use Rattle.tokens.specs.WrittenNames.{steps_of, width_for, not_rising, column_for}
use Rattle.names_writer.specs.Steps.{no_number, number_of, token_number, widened, kind_after, kind_with}
use Rattle.names_writer.specs.Measured.{last_number}
use Rattle.names_writer.proofs.ValueLaws.{value-most, number_is, number_none}
use Rattle.names_writer.proofs.KindTests.{step_wrong, steps_by, kind_by, or-false}
use Rattle.names_writer.proofs.KindTests.{invalid-snoc, steps-snoc, kind_tests}

-- Steps that are wide enough stay so, and a wider step widens them.
widened_tests : (W M w m : Bool)
    → cond w 5 (cond m (cond (eqb (steps_by W M) 5) 5 3) (steps_by W M)) ≡ steps_by (W || w) (M || m)
widened_tests true M true m = refl
widened_tests true M false true = refl
widened_tests true M false false = refl
widened_tests false true true m = refl
widened_tests false true false true = refl
widened_tests false true false false = refl
widened_tests false false true m = refl
widened_tests false false false true = refl
widened_tests false false false false = refl

no-string : (W M : Bool) → eqb (steps_by W M) 0 ≡ false
no-string true M = refl
no-string false true = refl
no-string false false = refl

-- A number after another.
number-kind : (W M : Bool) (previous number : ℕ) → number ≤ max_number
    → kind_after (steps_by W M) previous number
    ≡ kind_by (step_wrong previous number) (W || ltb 65535 (number - previous))
    (M || ltb 255 (number - previous))
unfolding kind_after widened step_type
number-kind W M previous number small =
    ap₂ (λ (s t : Bool).
    cond (s || (t || step_wrong previous number)) 0
    (widened (steps_by W M) (number - previous)))
    (no-string W M) (le-ltb max_number number small)
    ∙ ap (cond (step_wrong previous number) 0)
    (widened_tests W M (ltb 65535 (number - previous)) (ltb 255 (number - previous)))

-- A token that is none.
none-kind : (W M : Bool) (previous : ℕ) → kind_after (steps_by W M) previous no_number ≡ 0
unfolding kind_after
none-kind W M previous =
    ap (λ (s : Bool).
    cond (s || true) 0 (widened (steps_by W M) (no_number - previous)))
    (no-string W M)

strings-kind : (previous number : ℕ) → kind_after 0 previous number ≡ 0
unfolding kind_after
strings-kind previous number = refl

or_true : (t : Bool) → t || true ≡ true
or_true true = refl
or_true false = refl

string-stays : (N S n f : Bool) → N || S ≡ true → (N || n) || (S || f) ≡ true
string-stays true S n f e = refl
string-stays false true n f e = or_true n
string-stays false false n f e = absurd_test (sym e)

-- The type with one more token, by the tests so far and its own.
tests-more : (N S W M : Bool) (token : List ℕ) (previous last : ℕ)
    → (N || S ≡ false → previous ≡ last)
    → kind_after (kind_by (N || S) W M) previous (number_of token)
    ≡ kind_by ((N || not_number token) || (S || step_wrong last (value_of token)))
    (W || ltb 65535 (value_of token - last)) (M || ltb 255 (value_of token - last))
tests-more N S W M token previous last near =
    let w : Bool = W || ltb 65535 (value_of token - last) in
    let m : Bool = M || ltb 255 (value_of token - last) in
    let wrong : Bool = step_wrong last (value_of token) in
    by_test (N || S)
    (λ yes.
    ap (λ (t : Bool). kind_after (kind_by t W M) previous (number_of token)) yes
    ∙ strings-kind previous (number_of token)
    ∙ ap (λ (t : Bool). kind_by t w m) (sym (string-stays N S (not_number token) wrong yes)))
    (λ no.
    let both = or-neither N S no in
    ap₂ (λ (t : Bool) (p : ℕ). kind_after (kind_by t W M) p (number_of token)) no (near no)
    ∙ by_test (not_number token)
    (λ none.
    ap (kind_after (steps_by W M) last) (number_none token none)
    ∙ none-kind W M last
    ∙ ap₂ (λ (s t : Bool). kind_by ((s || t) || (S || wrong)) w m) (sym both.0) (sym none))
    (λ some.
    ap (kind_after (steps_by W M) last) (number_is token some)
    ∙ number-kind W M last (value_of token) (value-most token some)
    ∙ ap (λ (s : Bool). kind_by (s || wrong) w m) (sym both.1)
    ∙ ap₂ (λ (s t : Bool). kind_by ((s || t) || (S || wrong)) w m) (sym both.0) (sym some)))

map_snoc : {A B : Type 0} (f : A → B) (list : List A) (x : A)
    → map f (list ++ (x ∷ [])) ≡ map f list ++ (f x ∷ [])
map_snoc f [] x = refl
map_snoc f (y ∷ ys) x = ap (λ (rest : List _). f y ∷ rest) (map_snoc f ys x)

-- The number before, as it was stored.
pub last-number : (tokens : List (List ℕ)) (k : ℕ) → k < length tokens
    → any not_number tokens ≡ false
    → number_of (get_or tokens k []) ≡ get_or (map value_of tokens) k 0
unfolding value_of value_from
last-number tokens k inside none =
    number_is (get_or tokens k []) (any_none not_number tokens none k [] inside)
    ∙ sym (get_or-map value_of tokens k [])

-- The type of a column of one token.
kind-one : (token : List ℕ) → cond (not_number token) 0 4 ≡ column_type (column_for (token ∷ []))
unfolding any steps_from steps_invalid
kind-one token =
    sym (kind_tests token []
    ∙ by_test (not_number token) (λ none. rw none) (λ some. rw some))

-- The type of a column with one more token.
pub kind-more : (token : List ℕ) (tokens : List (List ℕ)) (more : List ℕ)
    → kind_after (column_type (column_for (token ∷ tokens)))
    (number_of (get_or (token ∷ tokens) (length tokens) [])) (number_of more)
    ≡ column_type (column_for ((token ∷ tokens) ++ (more ∷ [])))
unfolding any
kind-more token tokens more =
    let start : ℕ = value_of token in
    let numbers : List ℕ = map value_of tokens in
    let last : ℕ = get_or (start ∷ numbers) (length numbers) 0 in
    let N : Bool = any not_number (token ∷ tokens) in
    let S : Bool = steps_invalid start numbers in
    let W : Bool = any (ltb 65535) (steps_from start numbers) in
    let M : Bool = any (ltb 255) (steps_from start numbers) in
    let previous : ℕ = number_of (get_or (token ∷ tokens) (length tokens) []) in
    let near : (N || S ≡ false) → previous ≡ last =
    λ no.
    last-number (token ∷ tokens) (length tokens) (omega arith) (or-neither N S no).0
    ∙ ap (λ (k : ℕ). get_or (start ∷ numbers) k 0) (sym (length-map tokens value_of)) in
    let more-none : any not_number ((token ∷ tokens) ++ (more ∷ [])) ≡ N || not_number more =
    any_append not_number (token ∷ tokens) (more ∷ [])
    ∙ ap (λ (t : Bool). N || t) (or-false (not_number more)) in
    ap (λ (kind : ℕ). kind_after kind previous (number_of more)) (kind_tests token tokens)
    ∙ tests-more N S W M more previous last near
    ∙ ap₂ (λ (s t : Bool). kind_by (s || t) (W || ltb 65535 (value_of more - last))
    (M || ltb 255 (value_of more - last)))
    (sym more-none) (sym (invalid-snoc start numbers (value_of more)))
    ∙ ap₂ (λ (s t : Bool).
    kind_by (any not_number ((token ∷ tokens) ++ (more ∷ []))
    || steps_invalid start (numbers ++ (value_of more ∷ []))) s t)
    (sym (steps-snoc 65535 start numbers (value_of more)))
    (sym (steps-snoc 255 start numbers (value_of more)))
    ∙ ap (λ (l : List ℕ).
    kind_by (any not_number ((token ∷ tokens) ++ (more ∷ [])) || steps_invalid start l)
    (any (ltb 65535) (steps_from start l)) (any (ltb 255) (steps_from start l)))
    (sym (map_snoc value_of tokens more))
    ∙ sym (kind_tests token (tokens ++ (more ∷ [])))

-- The type of the first i + 1 tokens of a column, by that of the first i.
pub kind_at : (tokens : List (List ℕ)) (i : ℕ) → 0 < i → i < length tokens
    → kind_after (column_type (column_for (take i tokens))) (number_of (get_or tokens (i - 1) []))
    (number_of (get_or tokens i []))
    ≡ column_type (column_for (take (i + 1) tokens))
kind_at [] i some inside = absurd (omega arith)
kind_at (token ∷ tokens) zero some inside = absurd (omega arith)
kind_at (token ∷ tokens) (suc j) some inside =
    let size : length (take j tokens) ≡ j = length-take-le j tokens (omega arith) in
    let back : suc j - 1 ≡ j = omega arith in
    let same : get_or (token ∷ tokens) (suc j - 1) [] ≡ get_or (token ∷ take j tokens)
    (length (take j tokens)) [] =
    ap (λ (k : ℕ). get_or (token ∷ tokens) k []) back
    ∙ sym (get_or-take (suc j) (token ∷ tokens) j [] (omega arith))
    ∙ ap (λ (k : ℕ). get_or (token ∷ take j tokens) k []) (sym size) in
    ap (λ (t : List ℕ).
    kind_after (column_type (column_for (token ∷ take j tokens))) (number_of t)
    (number_of (get_or (token ∷ tokens) (suc j) []))) same
    ∙ kind-more token (take j tokens) (get_or (token ∷ tokens) (suc j) [])
    ∙ ap (λ (l : List (List ℕ)). column_type (column_for l))
    (sym (take-suc (token ∷ tokens) (suc j) [] inside)
    ∙ ap (λ (k : ℕ). take k (token ∷ tokens)) (sym (add-one (suc j))))

-- The type of no tokens is that of the narrowest steps.
pub kind-none : column_type (column_for []) ≡ 4
unfolding column_type column_for not_rising steps_of steps_invalid any width_for step_type
kind-none = refl

-- A token that is no number makes strings of its column.
kind-lost : (tokens : List (List ℕ)) (j : ℕ) → j < length tokens
    → not_number (get_or tokens j []) ≡ true → column_type (column_for tokens) ≡ 0
unfolding column_type column_for not_rising
kind-lost tokens j inside lost =
    by_test (any not_number tokens) (λ some. rw some)
    (λ none. absurd_test (sym lost ∙ any_none not_number tokens none j [] inside))

-- The type of the first i + 1 tokens, by the type of the first i and the number of the last.
pub kind-next : (tokens : List (List ℕ)) (i : ℕ) → i < length tokens
    → kind_with (column_type (column_for (take i tokens))) (last_number tokens i) (get_or tokens i [])
    ≡ column_type (column_for (take (i + 1) tokens))
unfolding kind_with last_number token_number
kind-next [] i inside = absurd (omega arith)
kind-next (token ∷ tokens) zero inside =
    ap (cond (not_number token) 0) kind-none ∙ kind-one token
kind-next (token ∷ tokens) (suc j) inside =
    let before : List ℕ = get_or (token ∷ tokens) j [] in
    let next : List ℕ = get_or (token ∷ tokens) (suc j) [] in
    let kind : ℕ = column_type (column_for (take (suc j) (token ∷ tokens))) in
    let back : suc j - 1 ≡ j = omega arith in
    let rest : kind_after kind (number_of before) (number_of next)
    ≡ column_type (column_for (take (suc j + 1) (token ∷ tokens))) =
    ap (λ (k : ℕ). kind_after kind (number_of (get_or (token ∷ tokens) k [])) (number_of next)) (sym back)
    ∙ kind_at (token ∷ tokens) (suc j) (omega arith) inside in
    by_test (not_number before)
    (λ none.
    let size : length (take (suc j) (token ∷ tokens)) ≡ suc j =
    length-take-le (suc j) (token ∷ tokens) (omega arith) in
    let strings : kind ≡ 0 =
    kind-lost (take (suc j) (token ∷ tokens)) j (omega arith)
    (ap not_number (get_or-take (suc j) (token ∷ tokens) j [] (omega arith)) ∙ none) in
    ap (λ (t : Bool). kind_with kind (cond t None (Some (value_of before))) next) none
    ∙ ap (cond (not_number next) 0) strings
    ∙ by_test (not_number next) (λ t. rw t) (λ t. rw t)
    ∙ sym (strings-kind (number_of before) (number_of next))
    ∙ ap (λ (k : ℕ). kind_after k (number_of before) (number_of next)) (sym strings)
    ∙ rest)
    (λ some.
    ap (λ (t : Bool). kind_with kind (cond t None (Some (value_of before))) next) some
    ∙ ap (λ (n : ℕ). kind_after kind n (number_of next)) (sym (number_is before some))
    ∙ rest)

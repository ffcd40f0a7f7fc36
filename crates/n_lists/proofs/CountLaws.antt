-- How many letters of a read are N: letter by letter, chunk by chunk, and as its list names them.
-- Assumes nothing.
use mathlib.Core.Path.{◌≡◌, refl, sym, ap, ◌∙◌}
use Prim.Native.Nat.{ℕ, zero, suc, ◌+◌, ◌-◌, ◌≤◌, ◌<◌}
use native.Mathlib.Omega.{arith}
use mathlib.Core.Bool.{Bool, cond}
use mathlib.Core.List.{List, ◌∷◌, ◌++◌}
use lib.ListN.{length, get_or, take, drop}
use lib.Seq.{length-take-le, take-length, drop-cons}
use lib.Dec.{eqb}
use mir.Val.{bool_byte}
use borrow.Author.Tests.{eqb-true}
use Rattle.std.proofs.lemmas.List.Sums.{count_by-le-length, count_by_more_no, count_by_more_yes}
use Rattle.std.proofs.lemmas.List.Sums.{sum_by-append, sum_by-cons}
use Rattle.base.proofs.ListLaws.{by_test, no_length_lem}
use Rattle.base.proofs.Tests.{absurd_test}
use Rattle.dna.specs.Reference.{code_n}
use Rattle.format.specs.RuleBlock.{code_of_letter}
use Rattle.format.specs.RuleRecord.{n_offsets_of}
use Rattle.letter_packing.specs.Read.{codes_of}
use Rattle.n_lists.specs.NPlaces.{n_places, n_count}
use Rattle.n_lists.proofs.NPlaceLaws.{count_none, count_cons, count_offsets, n-is_n, other-is-none}

-- ---- Letter by letter, chunk by chunk

-- The letters before place i + 1 are those before i and the letter there.
pub count_more : (letters : List ℕ) (i one : ℕ) → i < length letters
    → one ≡ bool_byte (eqb (get_or letters i 0) 78)
    → n_count (take (i + 1) letters) ≡ n_count (take i letters) + one
count_more letters i one inside is =
    by_test (eqb (get_or letters i 0) 78)
    (λ t.
    let counted : one ≡ 1 = is ∙ ap bool_byte t in
    count_by_more_yes (λ letter. eqb letter 78) letters i 0 inside t ∙ omega arith)
    (λ t.
    let passed : one ≡ 0 = is ∙ ap bool_byte t in
    count_by_more_no (λ letter. eqb letter 78) letters i 0 inside t ∙ omega arith)

-- No more of them are N than they are.
pub count_small : (letters : List ℕ) (i : ℕ) → i ≤ length letters → n_count (take i letters) ≤ i
count_small letters i inside =
    omega (
      arith,
      count_by-le-length (λ letter. eqb letter 78) (take i letters),
      length-take-le i letters inside,
    )

-- Those of a chunk and of what comes after it.
pub count_append : (chunk rest : List ℕ) → n_count (chunk ++ rest) ≡ n_count chunk + n_count rest
count_append chunk rest = sum_by-append (λ letter. cond (eqb letter 78) 1 0) chunk rest

-- After the last chunk there are none.
pub count_end : (rest : List ℕ) → length rest ≤ 0 → n_count rest ≡ 0
count_end rest none = ap n_count (no_length_lem rest none)

-- ---- As the list names them

-- A letter is N exactly if it has the code of N.
same-test : (letter : ℕ) → eqb (code_of_letter letter) code_n ≡ eqb letter 78
same-test letter =
    by_test (eqb letter 78)
    (λ t. n-is_n letter (eqb-true letter 78 t) ∙ sym t)
    (λ t. other-is-none letter (λ e. absurd_test (sym (sym t ∙ ap (λ (l : ℕ). eqb l 78) e))) ∙ sym t)

places-counted : (n : ℕ) (letters : List ℕ) (from to : ℕ) → to - from ≡ n → to ≤ length letters
    → length (n_places letters from to) ≡ n_count (take n (drop from letters))
places-counted zero letters from to size inside = count_none letters from to (omega arith)
places-counted (suc n) letters from to size inside =
    let here : ℕ = get_or letters from 0 in
    let rest = places-counted n letters (from + 1) to (omega arith) inside in
    let next : suc from ≡ from + 1 = omega arith in
    let split : drop from letters ≡ here ∷ drop (from + 1) letters =
    drop-cons letters from 0 (omega arith)
    ∙ ap (λ (k : ℕ). here ∷ drop k letters) next in
    count_cons letters from to (cond (eqb here 78) 1 0) (omega arith)
    (ap (λ (b : Bool). cond b 1 0) (sym (same-test here)))
    ∙ ap (λ (k : ℕ). cond (eqb here 78) 1 0 + k) rest
    ∙ sym (sum_by-cons (λ letter. cond (eqb letter 78) 1 0) here (take n (drop (from + 1) letters)))
    ∙ ap (λ (l : List ℕ). n_count (take (suc n) l)) (sym split)

pub offsets_counted : (read : List ℕ) → length (n_offsets_of (codes_of read)) ≡ n_count read
offsets_counted read =
    let all : length read - 0 ≡ length read = omega arith in
    count_offsets read
    ∙ places-counted (length read - 0) read 0 (length read) refl (omega arith)
    ∙ ap (λ (n : ℕ). n_count (take n read)) all
    ∙ ap n_count (take-length read)

-- A read has no more letters N than letters.
pub read_small : (read : List ℕ) → n_count read ≤ length read
read_small read = count_by-le-length (λ letter. eqb letter 78) read

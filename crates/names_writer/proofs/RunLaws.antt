-- The first run of a list is the first token of its split. Assumes nothing.
use mathlib.Core.Path.{◌≡◌, refl, sym, ap, subst, ◌∙◌}
use Prim.Native.Nat.{ℕ, suc, ◌≤◌, ◌<◌}
use native.Mathlib.Omega.{arith}
use mathlib.Core.Bool.{Bool, true, false, cond, not}
use mathlib.Core.List.{List, [], ◌∷◌}
use lib.ListN.{length, get_or, take, drop}
use lib.Seq.{get_or-take}
use Rattle.tokens.specs.Split.{is_digit}
use Rattle.tokens.specs.WrittenNames.{split_of, with_byte, alike}
use Rattle.names_writer.specs.Runs.{run_length}

-- What the first run of some bytes is in their split.
pub record Run (digits : Bool) (bytes : List ℕ) (n : ℕ) : Type 0 where
  pub some : 0 < n
  pub inside : n ≤ length bytes
  pub first : split_of bytes ≡ take n bytes ∷ split_of (drop n bytes)
  pub next : n < length bytes → is_digit (get_or bytes n 0) ≡ not digits

-- A byte before some bytes whose first token starts with `c`.
with_byte_lem : (b c : ℕ) (rest : List ℕ) (n : ℕ) (tokens : List (List ℕ)) (test : Bool) → 0 < n
    → alike b c ≡ test
    → with_byte b (take n (c ∷ rest) ∷ tokens)
    ≡ cond test ((b ∷ take n (c ∷ rest)) ∷ tokens) ((b ∷ []) ∷ take n (c ∷ rest) ∷ tokens)
unfolding with_byte
with_byte_lem b c rest n tokens test some e =
    ap (λ (t : Bool).
    cond t ((b ∷ take n (c ∷ rest)) ∷ tokens) ((b ∷ []) ∷ take n (c ∷ rest) ∷ tokens))
    (ap (alike b) (get_or-take n (c ∷ rest) 0 0 some) ∙ e)

alike_same : (b c : ℕ) (digits : Bool) → is_digit b ≡ digits → is_digit c ≡ digits
    → alike b c ≡ true
unfolding alike
alike_same b c true e f = rw (e, f)
alike_same b c false e f = rw (e, f)

alike-other : (b c : ℕ) (digits : Bool) → is_digit b ≡ digits → is_digit c ≡ not digits
    → alike b c ≡ false
unfolding alike
alike-other b c true e f = rw (e, f)
alike-other b c false e f = rw (e, f)

-- The first byte belongs to the run after it, or is a run of its own.
run-longer : (digits : Bool) (b c : ℕ) (rest : List ℕ) (n : ℕ) → is_digit b ≡ digits
    → is_digit c ≡ digits → Run digits (c ∷ rest) n → Run digits (b ∷ c ∷ rest) (suc n)
unfolding split_of
run-longer digits b c rest n e f run =
    record {
      some = omega arith;
      inside = omega (arith, run.inside);
      first =
          ap (with_byte b) run.first
          ∙ with_byte_lem b c rest n (split_of (drop n (c ∷ rest))) true run.some
          (alike_same b c digits e f);
      next = λ more. run.next (omega arith);
    }

run_ends : (digits : Bool) (b c : ℕ) (rest : List ℕ) (n : ℕ) → is_digit b ≡ digits
    → is_digit c ≡ not digits → Run (not digits) (c ∷ rest) n → Run digits (b ∷ c ∷ rest) 1
unfolding split_of
run_ends digits b c rest n e f run =
    record {
      some = omega arith;
      inside = omega arith;
      first =
          ap (with_byte b) run.first
          ∙ with_byte_lem b c rest n (split_of (drop n (c ∷ rest))) false run.some
          (alike-other b c digits e f)
          ∙ ap (λ (tokens : List (List ℕ)). (b ∷ []) ∷ tokens) (sym run.first);
      next = λ more. f;
    }

run-one : (digits : Bool) (b : ℕ) → is_digit b ≡ digits → Run digits (b ∷ []) 1
unfolding split_of with_byte
run-one digits b e =
    record {
      some = omega arith;
      inside = omega arith;
      first = refl;
      next = λ more. absurd (omega arith);
    }

-- How long a run is.
pub length_none : (digits : Bool) (b : ℕ) (bytes : List ℕ) → is_digit b ≡ not digits
    → run_length digits (b ∷ bytes) ≡ 0
unfolding run_length
length_none true b bytes e = rw e
length_none false b bytes e = rw e

pub length_more : (digits : Bool) (b : ℕ) (bytes : List ℕ) → is_digit b ≡ digits
    → run_length digits (b ∷ bytes) ≡ suc (run_length digits bytes)
unfolding run_length
length_more true b bytes e = rw e
length_more false b bytes e = rw e

pub length-nil : (digits : Bool) → run_length digits [] ≡ 0
unfolding run_length
length-nil digits = refl

or_not : (digits test : Bool) {X : Type 0} → (test ≡ digits → X) → (test ≡ not digits → X) → X
or_not true true f g = f refl
or_not true false f g = g refl
or_not false true f g = g refl
or_not false false f g = f refl

-- The first run is the first token.
pub run-first : (digits : Bool) (b : ℕ) (bytes : List ℕ) → is_digit b ≡ digits
    → Run digits (b ∷ bytes) (run_length digits (b ∷ bytes))
run-first digits b [] e =
    subst (Run digits (b ∷ [])) (sym (length_more digits b [] e ∙ ap suc (length-nil digits)))
    (run-one digits b e)
run-first digits b (c ∷ rest) e =
    let same : (is_digit c ≡ digits) → Run digits (c ∷ rest) (run_length digits (c ∷ rest)) =
    run-first digits c rest in
    let other : (is_digit c ≡ not digits)
    → Run (not digits) (c ∷ rest) (run_length (not digits) (c ∷ rest)) =
    run-first (not digits) c rest in
    subst (Run digits (b ∷ c ∷ rest)) (sym (length_more digits b (c ∷ rest) e))
    (or_not digits (is_digit c)
    (λ f. run-longer digits b c rest (run_length digits (c ∷ rest)) e f (same f))
    (λ f.
    subst (λ (n : ℕ). Run digits (b ∷ c ∷ rest) (suc n)) (sym (length_none digits c rest f))
    (run_ends digits b c rest (run_length (not digits) (c ∷ rest)) e f (other f))))

-- The tokens of a name by index, as the runs find them. Assumes nothing.
use mathlib.Core.Path.{◌≡◌, refl, sym, ap, subst, ◌∙◌}
use Prim.Native.Nat.{ℕ, suc, ◌+◌, ◌≤◌, ◌<◌}
use native.Mathlib.Numerals.{add-one}
use native.Mathlib.Omega.{arith}
use mathlib.Core.Bool.{Bool, true, false, not, beq}
use mathlib.Core.List.{List, [], ◌∷◌, map}
use lib.ListN.{length, get_or, take, drop, set, length-drop, length-map, length-set}
use lib.ListN.{drop_of_length-le}
use lib.Seq.{drop-cons, length-take-le, get_or-drop, drop-drop}
use Rattle.base.specs.Lists.{places_from}
use Rattle.base.specs.Paste.{pasted}
use Rattle.base.proofs.ListLaws.{by_test}
use Rattle.base.proofs.PasteLaws.{set_pasted, pasted_then}
use Rattle.base.proofs.StepsLaws.{length-places}
use Rattle.tokens.specs.Split.{is_digit}
use Rattle.tokens.specs.WrittenNames.{split_of, with_byte, alike}
use Rattle.names_writer.specs.Runs.{run_length, token_ends, NameLent, RunLent}
use Rattle.names_writer.proofs.RunLaws.{Run, run-first, length_none, length_more}
use Rattle.names_writer.proofs.RunLaws.{length-nil}

-- ---- A run, byte by byte

module _ (digits : Bool) (name : List ℕ) (i : ℕ) (inside : i < length name) where
  byte_first : drop i name ≡ get_or name i 0 ∷ drop (i + 1) name
  byte_first =
      drop-cons name i 0 inside ∙ ap (λ (k : ℕ). get_or name i 0 ∷ drop k name) (sym (add-one i))

  pub run_passes : is_digit (get_or name i 0) ≡ digits
      → i + run_length digits (drop i name) ≡ i + 1 + run_length digits (drop (i + 1) name)
  run_passes e =
      let more : run_length digits (drop i name) ≡ suc (run_length digits (drop (i + 1) name)) =
      ap (run_length digits) byte_first ∙ length_more digits _ _ e in
      omega arith

  pub run_stops : is_digit (get_or name i 0) ≡ not digits → i + run_length digits (drop i name) ≡ i
  run_stops e =
      let none : run_length digits (drop i name) ≡ 0 =
      ap (run_length digits) byte_first ∙ length_none digits _ _ e in
      omega arith

pub run_none : (digits : Bool) (name : List ℕ) (i : ℕ) → length name ≤ i
    → i + run_length digits (drop i name) ≡ i
run_none digits name i past =
    let none : run_length digits (drop i name) ≡ 0 =
    ap (run_length digits) (drop_of_length-le name past) ∙ length-nil digits in
    omega arith

-- ---- The tokens from an index on

-- There are no more tokens than bytes.
length_with : (byte : ℕ) (tokens : List (List ℕ)) → length (with_byte byte tokens) ≤ suc (length tokens)
unfolding with_byte
length_with byte [] = omega arith
length_with byte (token ∷ tokens) =
    by_test (alike byte (get_or token 0 0)) (λ e. rw e (omega arith)) (λ e. rw e (omega arith))

pub length-split : (bytes : List ℕ) → length (split_of bytes) ≤ length bytes
unfolding split_of
length-split [] = omega arith
length-split (byte ∷ bytes) =
    omega (arith, length_with byte (split_of bytes), length-split bytes)

-- A run from one index to another.
pub record RunAt (digits : Bool) (name : List ℕ) (from end : ℕ) : Type 0 where
  pub more : from < end
  pub inside : end ≤ length name
  pub ends : token_ends name from ≡ end ∷ token_ends name end
  pub count : length (split_of (drop from name)) ≡ suc (length (split_of (drop end name)))
  pub next : end < length name → is_digit (get_or name end 0) ≡ not digits

-- The run that starts at an index.
module _ (digits : Bool) (name : List ℕ) (from : ℕ) (inside : from < length name)
    (starts : is_digit (get_or name from 0) ≡ digits) where
  abbrev size : ℕ
  size = run_length digits (drop from name)

  run_bytes : Run digits (drop from name) size
  run_bytes =
      subst (λ (bytes : List ℕ). Run digits bytes (run_length digits bytes))
      (sym (drop-cons name from 0 inside)) (run-first digits (get_or name from 0) _ starts)

  split_bytes : split_of (drop from name)
      ≡ take size (drop from name) ∷ split_of (drop (from + size) name)
  split_bytes =
      run_bytes.first
      ∙ ap (λ (rest : List ℕ). take size (drop from name) ∷ split_of rest)
      (drop-drop size from name)

  ends_bytes : token_ends name from ≡ (from + size) ∷ token_ends name (from + size)
  unfolding token_ends places_from
  ends_bytes =
      ap (λ (tokens : List (List ℕ)). places_from from (map length tokens)) split_bytes
      ∙ ap (λ (n : ℕ). (from + n) ∷ places_from (from + n)
      (map length (split_of (drop (from + size) name))))
      (length-take-le size (drop from name) run_bytes.inside)

  run_from : RunAt digits name from (from + size)
  run_from =
      let run = run_bytes in
      record {
        more = omega (arith, run.some);
        inside = omega (arith, run.inside, length-drop from name);
        ends = ends_bytes;
        count = ap length split_bytes;
        next = λ l.
            sym (ap is_digit (get_or-drop from name size 0))
            ∙ run.next (omega (arith, length-drop from name));
      }

  pub run_at : (end : ℕ) → end ≡ from + run_length digits (drop from name)
      → RunAt digits name from end
  run_at end e = subst (RunAt digits name from) (sym e) run_from

-- How many ends there are.
pub length_ends : (name : List ℕ) (from : ℕ)
    → length (token_ends name from) ≡ length (split_of (drop from name))
unfolding token_ends
length_ends name from =
    length-places from (map length (split_of (drop from name)))
    ∙ length-map (split_of (drop from name)) length

-- Past the name there are none.
pub ends-none : (name : List ℕ) (from : ℕ) → length name ≤ from → token_ends name from ≡ []
unfolding token_ends places_from split_of
ends-none name from past =
    ap (λ (bytes : List ℕ). places_from from (map length (split_of bytes)))
    (drop_of_length-le name past)

pub split-none : (name : List ℕ) (from : ℕ) → length name ≤ from
    → length (split_of (drop from name)) ≡ 0
unfolding split_of
split-none name from past =
    ap (λ (bytes : List ℕ). length (split_of bytes)) (drop_of_length-le name past)

-- Two tests that differ.
pub beq-other : (s t : Bool) → beq s t ≡ false → s ≡ not t
beq-other true true e = e
beq-other true false e = refl
beq-other false true e = refl
beq-other false false e = sym e

-- ---- As code writes: the end of one run, then those after it

module _ (digits : Bool) (name : List ℕ) (from : ℕ) (marks : List ℕ) (count : ℕ)
    (lent : RunLent digits name from marks count) (end : ℕ) (run : RunAt digits name from end) where
  -- Nothing comes after the last run.
  pub last_run : end ≡ length name
      → (set marks count end ≡ pasted marks count (token_ends name from))
      × (count + 1 ≡ count + length (split_of (drop from name)))
  last_run all = (
    set_pasted marks count end (omega (arith, lent.few, lent.inside, lent.short, lent.room))
        ∙ ap (λ (rest : List ℕ). pasted marks count (end ∷ rest))
        (sym (ends-none name end (omega arith)))
        ∙ ap (pasted marks count) (sym run.ends),
    omega (arith, run.count, split-none name end (omega arith)),
  )

  -- Another run comes after it.
  pub next_run : end < length name → RunLent (not digits) name end (set marks count end) (count + 1)
  next_run more =
      record {
        starts = run.next more;
        inside = more;
        short = lent.short;
        few = omega (arith, lent.few, run.more);
        room = omega (arith, lent.room, length-set marks count end);
      }

  pub later_runs : (new : List ℕ) (r : ℕ)
      → (new ≡ pasted (set marks count end) (count + 1) (token_ends name end))
      × (r ≡ count + 1 + length (split_of (drop end name)))
      → (new ≡ pasted marks count (token_ends name from))
      × (r ≡ count + length (split_of (drop from name)))
  later_runs new r done =
      let room : count < length marks =
      omega (arith, lent.few, lent.inside, lent.short, lent.room) in (
        pasted_then marks (set marks count end) new count (count + 1) (end ∷ []) (token_ends name end)
            (omega arith) refl (set_pasted marks count end room) done.0
            ∙ ap (pasted marks count) (sym run.ends),
        omega (arith, run.count, done.1),
      )

-- Where the first run starts.
pub first_run : (digits : Bool) (name marks : List ℕ) → NameLent name marks
    → is_digit (get_or name 0 0) ≡ digits → RunLent digits name 0 marks 0
first_run digits name marks lent e =
    record {
      starts = e;
      inside = lent.some;
      short = lent.short;
      few = omega arith;
      room = lent.room;
    }

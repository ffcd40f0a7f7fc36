-- The tokens of a name by their ends. Assumes nothing.
use mathlib.Core.Path.{◌≡◌, refl, sym, ap, ap₂, subst, ◌∙◌}
use Prim.Native.Nat.{ℕ, zero, suc, ◌+◌, ◌-◌, ◌≤◌, ◌<◌}
use native.Mathlib.Nat.{not-suc-le-zero, le_of_suc-le-suc}
use native.Mathlib.Omega.{arith}
use mathlib.Core.List.{List, [], ◌∷◌, ◌++◌, map, flatten}
use lib.ListN.{length, get_or, take, drop, length-append, length-drop}
use lib.Seq.{take_at, drop_at, drop-drop}
use Rattle.base.specs.Lists.{places_from, part_ending}
use Rattle.base.specs.Place.{At}
use Rattle.base.proofs.ListLaws.{by_test}
use Rattle.tokens.specs.WrittenNames.{split_of, with_byte, alike}
use Rattle.names_writer.specs.Lent.{PartLies}
use Rattle.names_writer.specs.Runs.{token_ends}
use Rattle.names_writer.proofs.TokenLaws.{length_ends}

-- ---- The tokens joined are the name

join-with : (byte : ℕ) (tokens : List (List ℕ))
    → flatten (with_byte byte tokens) ≡ byte ∷ flatten tokens
unfolding with_byte flatten
join-with byte [] = refl
join-with byte (token ∷ tokens) =
    by_test (alike byte (get_or token 0 0)) (λ e. rw e) (λ e. rw e)

pub split-joined : (name : List ℕ) → flatten (split_of name) ≡ name
unfolding split_of flatten
split-joined [] = refl
split-joined (byte ∷ bytes) =
    join-with byte (split_of bytes)
    ∙ ap (λ (rest : List ℕ). byte ∷ rest) (split-joined bytes)

-- ---- A token by its ends

-- Token k lies from one end to the next.
record TokenAt (name token : List ℕ) (from to : ℕ) : Type 0 where
  pub ordered : from ≤ to
  pub inside : to ≤ length name
  pub part : take (to - from) (drop from name) ≡ token

token-first : (name token rest : List ℕ) (start : ℕ) → start ≤ length name
    → drop start name ≡ token ++ rest → TokenAt name token start (start + length token)
token-first name token rest start low joined =
    let back : start + length token - start ≡ length token = omega arith in
    record {
      ordered = omega arith;
      inside =
          omega (arith, ap length joined, length-append token rest, length-drop start name);
      part =
          ap₂ take back joined ∙ take_at token rest (length token) refl;
    }

token-each : (name : List ℕ) (tokens : List (List ℕ)) (start : ℕ) → start ≤ length name
    → drop start name ≡ flatten tokens → (k : ℕ) → k < length tokens
    → TokenAt name (get_or tokens k []) (get_or (start ∷ places_from start (map length tokens)) k 0)
    (get_or (places_from start (map length tokens)) k 0)
unfolding places_from flatten
token-each name [] start low joined k h = absurd (not-suc-le-zero h)
token-each name (token ∷ tokens) start low joined zero h =
    token-first name token (flatten tokens) start low joined
token-each name (token ∷ tokens) start low joined (suc k) h =
    token-each name tokens (start + length token)
    (token-first name token (flatten tokens) start low joined).inside
    (sym (drop-drop (length token) start name)
    ∙ ap (drop (length token)) joined
    ∙ drop_at token (flatten tokens) (length token) refl)
    k (le_of_suc-le-suc h)

-- The tokens of a name, `marks` holding the ends of all.
module _ (name marks : List ℕ) (marked : At marks 0 (token_ends name 0)) where
  mark_at : (k : ℕ) → k < length (split_of name) → get_or marks k 0 ≡ get_or (token_ends name 0) k 0
  mark_at k inside =
      ap (λ (j : ℕ). get_or marks j 0) (let e : k ≡ 0 + k = omega arith in e)
      ∙ marked.same k (omega (arith, length_ends name 0))

  mark_before : (k : ℕ) → k < length (split_of name)
      → get_or (0 ∷ marks) k 0 ≡ get_or (0 ∷ token_ends name 0) k 0
  mark_before zero inside = refl
  mark_before (suc k) inside = mark_at k (omega arith)

  module _ (k : ℕ) (inside : k < length (split_of name)) where
    token-at : TokenAt name (get_or (split_of name) k []) (get_or (0 ∷ marks) k 0) (get_or marks k 0)
    unfolding token_ends
    token-at =
        subst (λ (a : ℕ). TokenAt name (get_or (split_of name) k []) a (get_or marks k 0))
        (sym (mark_before k inside))
        (subst (TokenAt name (get_or (split_of name) k []) (get_or (0 ∷ token_ends name 0) k 0))
        (sym (mark_at k inside))
        (token-each name (split_of name) 0 (omega arith) (sym (split-joined name)) k inside))

    -- Token k lies in the name.
    pub token_lies : PartLies name marks k
    token_lies =
        record {
          listed = omega (arith, marked.fits, length_ends name 0);
          rises = token-at.ordered;
          inside = token-at.inside;
        }

    pub token_is : part_ending name marks k ≡ get_or (split_of name) k []
    token_is = token-at.part

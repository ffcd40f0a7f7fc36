-- Whole groups at the front of a section and one more after them: their bytes, reads and numbers. Assumes nothing.
use mathlib.Core.Path.{◌≡◌, refl, sym, ap, ◌∙◌, subst}
use Prim.Native.Nat.{ℕ, zero, suc, ◌+◌, ◌*◌, ◌≤◌, ◌<◌}
use native.Mathlib.Nat.{le_of_suc-le-suc, not-suc-le-zero}
use native.Mathlib.Omega.{arith}
use mathlib.Core.List.{List, [], ◌∷◌, ◌++◌, map, flat_map, append-nil, append_assoc}
use lib.ListN.{length, get_or, take, drop, length-take, length-drop, take-append-drop}
use Rattle.base.specs.Lists.{total, Begins}
use Rattle.base.specs.Groups.{group_count, in_groups}
use Rattle.base.specs.Place.{At}
use Rattle.base.proofs.AtLaws.{at-cons, at_part, at-to}
use Rattle.base.proofs.GroupLaws.{in_groups-nil, in_groups-cons, length-in_groups, by-groups}
use Rattle.dna.specs.Division.{flags_at, Piece, Group, Division, Slot, group_bytes}
use Rattle.dna.specs.Division.{division_bytes, group_slots, slots}
use Rattle.dna.proofs.WalkLaws.{pieces_bytes}

-- What stands at the start begins the list.
pub at-begins : {list : List ℕ} (part : List ℕ) → At list 0 part → Begins part list
at-begins {list} part a = (
  drop (length part) list,
  ap (λ (front : List ℕ). front ++ drop (length part) list) (sym (at_part part a)) ∙ take-append-drop (length part) list,
)

-- A group's bytes and its records after them.
pub group-stands : {list : List ℕ} (at : ℕ) (pieces : List Piece) → at + 4 ≤ length list → At list (at + 4) (pieces_bytes pieces)
    → At list at (group_bytes (record { flags = flags_at list at; pieces = pieces }))
unfolding group_bytes pieces_bytes flags_at
group-stands at pieces fits a =
    at-cons _ refl (omega arith)
    (at-cons _ refl (omega arith)
    (at-to (at + 2) _ (omega arith) (at-cons _ refl (omega arith)
    (at-to (at + 3) _ (omega arith) (at-cons _ refl (omega arith)
    (at-to (at + 4) _ (omega arith) a))))))

pub length-group : (group : Group) → length (group_bytes group) ≡ 4 + length (pieces_bytes group.pieces)
unfolding group_bytes pieces_bytes
length-group group = omega arith

-- ---- One group more at the end

pub bytes-snoc : (groups : Division) (last : Group) → division_bytes (groups ++ (last ∷ [])) ≡ division_bytes groups ++ group_bytes last
unfolding division_bytes flat_map
bytes-snoc [] last = append-nil (group_bytes last)
bytes-snoc (group ∷ groups) last =
    ap (λ (rest : List ℕ). group_bytes group ++ rest) (bytes-snoc groups last)
    ∙ sym (append_assoc (group_bytes group) (division_bytes groups) (group_bytes last))

slots-nil : (lengths : List (List ℕ)) → slots lengths [] ≡ []
unfolding slots
slots-nil [] = refl
slots-nil (ours ∷ lengths) = refl

pub slots-snoc : (lengths : List (List ℕ)) (groups : Division) (last : Group) → length groups < length lengths
    → slots lengths (groups ++ (last ∷ []))
    ≡ slots lengths groups ++ group_slots last.flags 0 (get_or lengths (length groups) []) last.pieces
unfolding slots
slots-snoc [] groups last h = absurd (not-suc-le-zero h)
slots-snoc (ours ∷ lengths) [] last h =
    let here : List Slot = group_slots last.flags 0 ours last.pieces in
    ap (λ (rest : List Slot). here ++ rest) (slots-nil lengths) ∙ append-nil here
slots-snoc (ours ∷ lengths) (group ∷ groups) last h =
    let here : List Slot = group_slots group.flags 0 ours group.pieces in
    ap (λ (rest : List Slot). here ++ rest) (slots-snoc lengths groups last (le_of_suc-le-suc h))
    ∙ sym (append_assoc here (slots lengths groups) _)

-- ---- The number of a group's first read

-- Every group but the last has eight reads.
pub reads_before : (list : List ℕ) (g : ℕ) → g < length (in_groups list) → total (map length (take g (in_groups list))) ≡ 8 * g
unfolding total group_count
reads_before =
    by-groups (λ (list : List ℕ). (g : ℕ) → g < length (in_groups list) → total (map length (take g (in_groups list))) ≡ 8 * g)
    (λ g h. absurd (omega (arith, ap length (in_groups-nil {A = ℕ}))))
    (λ x xs ih.
    let all : List ℕ = x ∷ xs in
    subst (λ (groups : List (List ℕ)). (g : ℕ) → g < length groups → total (map length (take g groups)) ≡ 8 * g) (sym (in_groups-cons x xs))
    (elim [
      | zero ↦ λ h. refl
      | suc k ↦ λ h.
          let less : k < length (in_groups (drop 8 all)) = le_of_suc-le-suc h in
          omega (arith, ih k less, length-in_groups (drop 8 all), length-drop 8 all, length-take 8 all)
    ]))

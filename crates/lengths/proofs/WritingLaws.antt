-- Writing a size section part by part. Assumes nothing.
use mathlib.Core.Path.{◌≡◌, refl, sym, ap, ap₂, ◌∙◌}
use Prim.Native.Nat.{ℕ, zero, suc, ◌+◌, ◌-◌, ◌*◌, ◌/◌, ◌≤◌, ◌<◌, min}
use native.Mathlib.Numerals.{add-one}
use native.Mathlib.Omega.{arith}
use mathlib.Core.List.{List, [], ◌∷◌, ◌++◌, flat_map, append_assoc}
use lib.ListN.{length, get_or, take, drop, length-take, length-drop, length-append}
use lib.Seq.{drop-cons, drop-drop, drop_at, take-take, take-append-le, length-take-le, get_or-take, get_or-drop}
use Rattle.base.specs.Lists.{part, total}
use Rattle.base.proofs.ListLaws.{by_order}
use Rattle.base.specs.Groups.{group_count}
use Rattle.base.specs.Numbers.{le_bytes}
use Rattle.base.specs.Paste.{pasted}
use Rattle.base.proofs.PastingLaws.{Pasting, pasting_room, pasting_turn, pasting_end}
use Rattle.base.specs.Groups.{flag_byte}
use Rattle.dna.specs.Sizes.{StoredSize, in_words, is_same, is_in_byte, stored_bytes, size_group_bytes}
use Rattle.dna.specs.Sizes.{size_section_bytes}
use Rattle.dna.proofs.SizeBytesLaws.{size_section-nil, size_section-cons, stored_total}
use Rattle.dna.proofs.SizeBytesLaws.{length_size_section}
use Rattle.std.specs.Prelude.{Option}
use Rattle.lengths.specs.Form.{stored_of, stored_after}
use Rattle.lengths.proofs.FormLaws.{length-stored_of, part_at, Behind, behind_stored}

-- A list that is used up.
pub drop_all {ℓ} : {A : Type ℓ} (k : ℕ) (list : List A) → length list ≤ k → drop k list ≡ []
drop_all zero [] h = refl
drop_all zero (x ∷ xs) h = absurd (omega arith)
drop_all (suc k) [] h = refl
drop_all (suc k) (x ∷ xs) h = drop_all k xs (omega arith)

-- ---- The sizes of a group

-- What is stored for the reads of the group from `from` on, from its read k on.
abbrev pub group_left : (ends : List ℕ) (from k : ℕ) → List ℕ
group_left ends from k = flat_map stored_bytes (drop k (part (stored_of ends) from 8))

pub length-group : (ends : List ℕ) (from : ℕ) → length (part (stored_of ends) from 8) ≡ min 8
    (length ends - from)
length-group ends from =
    length-take 8 (drop from (stored_of ends))
    ∙ ap (min 8)
    (length-drop from (stored_of ends) ∙ ap (λ (n : ℕ). n - from) (length-stored_of ends))

-- The ends of the reads from `from` on up to `to`, lent as a slice.
module _ (ends : List ℕ) (from to : ℕ) (inside : to - from ≤ length ends - from) where
  pub length-lent : length (take (to - from) (drop from ends)) ≡ to - from
  length-lent = omega (arith, length-take (to - from) (drop from ends), length-drop from ends)

  pub lent_at : (k : ℕ) → k < to - from
      → get_or (take (to - from) (drop from ends)) k 0 ≡ get_or ends (from + k) 0
  lent_at k h =
      get_or-take (to - from) (drop from ends) k 0 h ∙ get_or-drop from ends k 0

module _ (ends : List ℕ) (from k : ℕ) (inside : k < min 8 (length ends - from))
    (stored : StoredSize) (is : stored ≡ get_or (stored_of ends) (from + k) (in_words 0)) where
  group_split : group_left ends from k ≡ stored_bytes stored ++ group_left ends from (k + 1)
  unfolding flat_map
  group_split =
      let group : List StoredSize = part (stored_of ends) from 8 in
      let small : k < 8 = omega arith in
      ap (flat_map stored_bytes)
      (drop-cons group k (in_words 0) (omega (arith, length-group ends from)))
      ∙ ap₂ (λ (bytes : List ℕ) (j : ℕ). bytes ++ flat_map stored_bytes (drop j group))
      (ap stored_bytes (part_at ends from k small ∙ sym is))
      (sym (add-one k))

  module _ {goal : List ℕ} {end : ℕ} {out : List ℕ} {place : ℕ}
      (writing : Pasting goal end out place (group_left ends from k)) where
    pub size_room : place + length (stored_bytes stored) ≤ length out
    size_room = pasting_room writing (stored_bytes stored) (group_left ends from (k + 1)) group_split

    pub size_turn : (out' : List ℕ) (place' : ℕ) → out' ≡ pasted out place (stored_bytes stored)
        → place' ≡ place + length (stored_bytes stored)
        → Pasting goal end out' place' (group_left ends from (k + 1))
    size_turn out' place' written there =
        pasting_turn writing (stored_bytes stored)
        (group_left ends from (k + 1)) out' place' group_split written there

pub group-end : (ends : List ℕ) (from k : ℕ) {goal : List ℕ} {end : ℕ} {out : List ℕ} {place : ℕ}
    → min 8 (length ends - from) ≤ k
    → Pasting goal end out place (group_left ends from k) → (out ≡ goal) × (place ≡ end)
unfolding flat_map
group-end ends from k all writing =
    pasting_end writing
    (ap (flat_map stored_bytes)
    (drop_all k (part (stored_of ends) from 8) (omega (arith, length-group ends from))))

-- ---- A group

-- A front written before what follows it is there already.
pasted-front : (buffer : List ℕ) (at : ℕ) (front rest : List ℕ)
    → at + length front + length rest ≤ length buffer
    → pasted (pasted buffer (at + length front) rest) at front ≡ pasted buffer at (front ++ rest)
unfolding pasted
pasted-front buffer at front rest fits =
    let next : ℕ = at + length front in
    let back : List ℕ = drop (next + length rest) buffer in
    let size : length (take next buffer) ≡ next = length-take-le next buffer (omega arith) in
    let whole : take next buffer ++ rest ++ back ≡ take next buffer ++ (rest ++ back) =
    append_assoc (take next buffer) rest back in
    let before : take at (take next buffer ++ rest ++ back) ≡ take at buffer =
    ap (take at) whole
    ∙ take-append-le at (take next buffer) (rest ++ back) (omega (arith, size))
    ∙ take-take at next buffer (omega arith) in
    let after : drop next (take next buffer ++ rest ++ back) ≡ rest ++ back =
    ap (drop next) whole ∙ drop_at (take next buffer) (rest ++ back) next size in
    let n : next + length rest ≡ at + length (front ++ rest) =
    omega (arith, length-append front rest) in
    ap₂ (λ (l r : List ℕ). l ++ front ++ r) before after
    ∙ sym (append_assoc (take at buffer ++ front) rest back)
    ∙ ap (λ (l : List ℕ). l ++ back) (append_assoc (take at buffer) front rest)
    ∙ ap (λ (m : ℕ). take at buffer ++ (front ++ rest) ++ drop m buffer) n

-- ---- The section

module _ (ends : List ℕ) (from : ℕ) (inside : from < length ends) where
  section_split : size_section_bytes (drop from (stored_of ends))
      ≡ size_group_bytes (part (stored_of ends) from 8) ++ size_section_bytes
      (drop (from + 8) (stored_of ends))
  section_split =
      let stored : List StoredSize = stored_of ends in
      let one : StoredSize = get_or stored from (in_words 0) in
      let split : drop from stored ≡ one ∷ drop (suc from) stored =
      drop-cons stored from (in_words 0) (omega (arith, length-stored_of ends)) in
      ap size_section_bytes split
      ∙ size_section-cons one (drop (suc from) stored)
      ∙ ap (λ (list : List StoredSize). size_group_bytes (take 8 list) ++ size_section_bytes
      (drop 8 list)) (sym split)
      ∙ ap (λ (list : List StoredSize). size_group_bytes
      (part stored from 8) ++ size_section_bytes list)
      (drop-drop 8 from stored)

  module _ {goal : List ℕ} {end : ℕ} {out : List ℕ} {place : ℕ}
      (writing : Pasting goal end out place (size_section_bytes (drop from (stored_of ends)))) where
    pub section_room : place + length (size_group_bytes (part (stored_of ends) from 8)) ≤ length out
    section_room =
        pasting_room writing (size_group_bytes (part (stored_of ends) from 8))
        (size_section_bytes (drop (from + 8) (stored_of ends))) section_split

    pub section_turn : (out' : List ℕ) (place' after : ℕ) → after ≡ from + 8 → out' ≡ pasted out place
        (size_group_bytes (part (stored_of ends) from 8))
        → place' ≡ place + length (size_group_bytes (part (stored_of ends) from 8))
        → Pasting goal end out' place' (size_section_bytes (drop after (stored_of ends)))
    section_turn out' place' after next written there =
        rw next
        (pasting_turn writing (size_group_bytes (part (stored_of ends) from 8))
        (size_section_bytes (drop (from + 8) (stored_of ends))) out' place' section_split written there)

pub section_end : (ends : List ℕ) (from : ℕ) {goal : List ℕ} {end : ℕ} {out : List ℕ} {place : ℕ}
    → length ends ≤ from
    → Pasting goal end out place (size_section_bytes (drop from (stored_of ends))) → (out ≡ goal) ×
    (place ≡ end)
section_end ends from all writing =
    pasting_end writing
    (ap size_section_bytes (drop_all from (stored_of ends) (omega (arith, length-stored_of ends)))
    ∙ size_section-nil)

-- ---- Their number

-- What is counted, and what the reads from read i on take.
pub count-start : (ends : List ℕ) (sum : ℕ) → sum ≡ (length ends + 7) / 8 * 2
    → sum + stored_total (stored_of ends) ≡ length (size_section_bytes (stored_of ends))
unfolding group_count
count-start ends sum is =
    let n : length (stored_of ends) ≡ length ends = length-stored_of ends in
    let two : 2 * ((length (stored_of ends) + 7) / 8) ≡ sum = ap (λ (m : ℕ). 2 * ((m + 7) / 8)) n
    ∙ omega arith in
    omega (arith, length_size_section (stored_of ends))

-- One read, after one whose end and length are known.
pub count-read : (ends : List ℕ) (i before : ℕ) (previous : Option ℕ) (end size : ℕ) → i < length ends
    → Behind ends i before previous → end ≡ get_or ends i 0 → size ≡ end - before
    → stored_total (drop i (stored_of ends))
    ≡ length (stored_bytes (stored_after previous size)) + stored_total (drop (i + 1) (stored_of ends))
unfolding total
count-read ends i before previous end size inside behind there is =
    let all : List StoredSize = stored_of ends in
    ap stored_total (drop-cons all i (in_words 0) (omega (arith, length-stored_of ends)))
    ∙ ap₂ (λ (n j : ℕ). n + stored_total (drop j all))
    (ap (λ (s : StoredSize). length (stored_bytes s))
    (sym (behind_stored ends i before previous end size inside behind there is)))
    (sym (add-one i))

pub count_end : (ends : List ℕ) (i : ℕ) → length ends ≤ i → stored_total (drop i (stored_of ends)) ≡ 0
unfolding total
count_end ends i all =
    ap stored_total (drop_all i (stored_of ends) (omega (arith, length-stored_of ends)))

-- What some take, and what the others take.
parts_total : (count : ℕ) (stored : List StoredSize)
    → stored_total stored
    ≡ length (flat_map stored_bytes (take count stored)) + stored_total (drop count stored)
unfolding flat_map total
parts_total zero stored = omega arith
parts_total (suc count) [] = omega arith
parts_total (suc count) (one ∷ stored) =
    omega (
      arith,
      parts_total count stored,
      length-append (stored_bytes one)
          (flat_map stored_bytes (take count stored)),
    )

module _ (ends : List ℕ) (from : ℕ) where
  -- A part of 1,024 reads, and the reads past it.
  pub part_total : stored_total (drop from (stored_of ends))
      ≡ length (flat_map stored_bytes (part (stored_of ends) from 1024))
      + stored_total (drop (from + 1024) (stored_of ends))
  part_total =
      parts_total 1024 (drop from (stored_of ends))
      ∙ ap (λ (list : List StoredSize). length (flat_map stored_bytes
      (part (stored_of ends) from 1024)) + stored_total list)
      (drop-drop 1024 from (stored_of ends))

  -- A part is counted up to its end, or that of all reads.
  pub part_end : (i sum : ℕ) → i ≡ min (from + 1024) (length ends)
      → sum + stored_total (drop i (stored_of ends)) ≡ stored_total (drop from (stored_of ends))
      → sum ≡ length (flat_map stored_bytes (part (stored_of ends) from 1024))
  part_end i sum last counted =
      by_order (from + 1024) (length ends)
      (λ inside.
      let e : i ≡ from + 1024 = omega (arith, last) in
      omega (arith, counted, part_total, ap (λ (j : ℕ). stored_total (drop j (stored_of ends))) e))
      (λ past.
      omega (
        arith,
        counted,
        part_total,
        count_end ends i (omega (arith, last)),
        count_end ends (from + 1024) past,
      ))

-- ---- A whole group

module _ (group : List StoredSize) (buffer : List ℕ) (at : ℕ)
    (room : at + length (size_group_bytes group) ≤ length buffer) where
  pub group_room : at + 2 + length (flat_map stored_bytes group) ≤ length buffer
  unfolding size_group_bytes
  group_room = omega (arith, room)

  -- The sizes, then the two flag bytes before them.
  pub write_group : (between out : List ℕ) (place flags : ℕ)
      → between ≡ pasted buffer (at + 2) (flat_map stored_bytes group)
      → place ≡ at + 2 + length (flat_map stored_bytes group)
      → le_bytes 2 flags ≡ flag_byte is_same group ∷ flag_byte is_in_byte group ∷ []
      → out ≡ pasted between at (le_bytes 2 flags)
      → (out ≡ pasted buffer at (size_group_bytes group)) ×
      (place ≡ at + length (size_group_bytes group))
  unfolding size_group_bytes
  write_group between out place flags sizes there bytes written = (
    written
        ∙ ap₂ (λ (b f : List ℕ). pasted b at f) sizes bytes
        ∙ pasted-front buffer at (flag_byte is_same group ∷ flag_byte is_in_byte group ∷ [])
        (flat_map stored_bytes group) (omega (arith, room)),
    omega arith,
  )

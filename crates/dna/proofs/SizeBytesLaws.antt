-- The bytes of a size section, part by part, and their number. Assumes nothing.
use mathlib.Core.Path.{◌≡◌, refl, sym, ap, ap₂, ◌∙◌}
use Prim.Native.Nat.{ℕ, suc, ◌+◌, ◌-◌, ◌*◌, ◌/◌, ◌%◌, ◌≤◌, ◌<◌}
use native.Mathlib.Omega.{arith}
use mathlib.Core.List.{List, [], ◌∷◌, ◌++◌, map, flat_map, append-nil}
use lib.ListN.{length, take, drop, replicate, length-append, length-drop, length-replicate}
use lib.ListN.{take-append-drop}
use Rattle.base.specs.Lists.{total}
use Rattle.base.specs.Numbers.{le_bytes}
use Rattle.base.specs.Groups.{group_count}
use Rattle.base.proofs.NumberLaws.{length-le_bytes}
use Rattle.base.proofs.GroupLaws.{in_groups-nil, in_groups-cons, by-groups}
use Rattle.dna.specs.Varint16.{varint16_words, varint16_bytes}
use Rattle.dna.specs.Sizes.{StoredSize, stored_bytes, size_group_bytes, size_section_bytes}

-- ---- Words

-- A number below 32768 is one word.
pub varint16-last : (number : ℕ) → number < 32768 → varint16_bytes number ≡ le_bytes 2 number
unfolding varint16_bytes varint16_words flat_map
varint16-last number small =
    let none : number / 32768 ≡ 0 = omega arith in
    let self : number % 32768 ≡ number = omega arith in
    ap₂ (λ (k r : ℕ). flat_map (le_bytes 2) (replicate k 32768 ++ (r ∷ []))) none self ∙ append-nil
    (le_bytes 2 number)

-- From 32768 on a word of 32768 comes first.
pub varint16-more : (number : ℕ) → 32768 ≤ number
    → varint16_bytes number ≡ le_bytes 2 32768 ++ varint16_bytes (number - 32768)
unfolding varint16_bytes varint16_words flat_map
varint16-more number large =
    let more : number / 32768 ≡ suc ((number - 32768) / 32768) = omega arith in
    let same : number % 32768 ≡ (number - 32768) % 32768 = omega arith in
    ap₂ (λ (k r : ℕ). flat_map (le_bytes 2) (replicate k 32768 ++ (r ∷ []))) more same

words-length : (words : List ℕ) → length (flat_map (le_bytes 2) words) ≡ 2 * length words
unfolding flat_map
words-length [] = refl
words-length (word ∷ words) =
    length-append (le_bytes 2 word) (flat_map (le_bytes 2) words)
    ∙ omega (arith, length-le_bytes 2 word, words-length words)

pub length_varint16 : (number : ℕ) → length (varint16_bytes number) ≡ 2 * (number / 32768 + 1)
unfolding varint16_bytes varint16_words
length_varint16 number =
    words-length (replicate (number / 32768) 32768 ++ (number % 32768 ∷ []))
    ∙ ap (λ (n : ℕ). 2 * n)
    (length-append (replicate (number / 32768) 32768) (number % 32768 ∷ [])
    ∙ ap (λ (n : ℕ). n + 1) (length-replicate (number / 32768) 32768))

-- ---- Groups

pub size_section-nil : size_section_bytes [] ≡ []
unfolding size_section_bytes flat_map
size_section-nil = ap (flat_map size_group_bytes) in_groups-nil

pub size_section-cons : (one : StoredSize) (stored : List StoredSize)
    → size_section_bytes (one ∷ stored)
    ≡ size_group_bytes (take 8 (one ∷ stored)) ++ size_section_bytes (drop 8 (one ∷ stored))
unfolding size_section_bytes flat_map
size_section-cons one stored = ap (flat_map size_group_bytes) (in_groups-cons one stored)

-- ---- Their number

-- The bytes that are stored after the flag bytes.
abbrev pub stored_total : (stored : List StoredSize) → ℕ
stored_total stored = total (map (λ one. length (stored_bytes one)) stored)

stored-length : (stored : List StoredSize) → length (flat_map stored_bytes stored)
    ≡ stored_total stored
unfolding flat_map total
stored-length [] = refl
stored-length (one ∷ stored) =
    length-append (stored_bytes one) (flat_map stored_bytes stored)
    ∙ ap (λ (n : ℕ). length (stored_bytes one) + n) (stored-length stored)

total-append : (front back : List StoredSize) → stored_total (front ++ back)
    ≡ stored_total front + stored_total back
unfolding total
total-append [] back = omega arith
total-append (one ∷ front) back =
    ap (λ (n : ℕ). length (stored_bytes one) + n) (total-append front back) ∙ omega arith

none-length : length (size_section_bytes []) ≡ 2 * group_count 0 + stored_total []
unfolding group_count total
none-length = ap length size_section-nil

group-length : (group : List StoredSize) → length (size_group_bytes group) ≡ 2 + stored_total group
unfolding size_group_bytes
group-length group = omega (arith, stored-length group)

more-length : (one : StoredSize) (stored : List StoredSize)
    → length (size_section_bytes (drop 8 (one ∷ stored)))
    ≡ 2 * group_count (length (drop 8 (one ∷ stored))) + stored_total (drop 8 (one ∷ stored))
    → length (size_section_bytes (one ∷ stored)) ≡ 2 * group_count
    (length (one ∷ stored)) + stored_total (one ∷ stored)
unfolding group_count
more-length one stored ih =
    let all : List StoredSize = one ∷ stored in
    let count : (length all + 7) / 8 ≡ suc ((length (drop 8 all) + 7) / 8) = omega
    (arith, length-drop 8 all) in
    let split : stored_total all ≡ stored_total (take 8 all) + stored_total (drop 8 all) =
    ap stored_total (sym (take-append-drop 8 all)) ∙ total-append (take 8 all) (drop 8 all) in
    ap length (size_section-cons one stored)
    ∙ length-append (size_group_bytes (take 8 all)) (size_section_bytes (drop 8 all))
    ∙ omega (arith, group-length (take 8 all))

-- Two flag bytes a group, and what is stored.
pub length_size_section : (stored : List StoredSize)
    → length (size_section_bytes stored) ≡ 2 * group_count (length stored) + stored_total stored
length_size_section =
    by-groups
    (λ stored. length (size_section_bytes stored) ≡ 2 * group_count
    (length stored) + stored_total stored) none-length
    more-length

-- The records of an input read by read, and their sections group by group. Assumes nothing.
use mathlib.Core.Path.{◌≡◌, refl, sym, ap, ap₂, ◌∙◌}
use Prim.Native.Nat.{ℕ, ◌+◌, ◌*◌, ◌/◌, ◌<◌}
use native.Mathlib.Numerals.{add-one}
use native.Mathlib.Omega.{arith}
use mathlib.Core.List.{List, [], ◌∷◌, ◌++◌, map, flat_map, append_assoc}
use lib.ListN.{length, take, drop, length-append, length-map, length-drop, take-append-drop}
use lib.Seq.{drop-cons}
use Rattle.base.specs.Lists.{build}
use Rattle.base.specs.Groups.{in_groups, group_count, flag_byte}
use Rattle.base.proofs.ListLaws.{length-build, get_or-build}
use Rattle.base.proofs.GroupLaws.{in_groups-nil, in_groups-cons, length-in_groups, by-groups}
use Rattle.dna.specs.Alignment.{position_after}
use Rattle.dna.specs.Division.{Piece, division_bytes, group_bytes}
use Rattle.format.specs.RuleRecord.{Candidate, Written, written}
use Rattle.format.specs.RuleBlock.{written_from, written_group, written_n_section}
use Rattle.format.specs.EncodeAnswer.{EncodeInput, reads_of_input, candidates_of}
use Rattle.dna_writer.specs.Section.{codes_at, candidate_at, bytes_of, dna_bytes, n_bytes}

-- ---- Read by read

-- The record of a read after a position, and those after it.
pub records-step : (bases : ℕ) (reference : List ℕ) (input : EncodeInput) (previous i : ℕ)
    → i < length input.ends
    → written_from bases reference previous (drop i (reads_of_input input))
    (drop i (candidates_of input))
    ≡ written bases reference previous (codes_at input i) (candidate_at input i)
    ∷ written_from bases reference
    (position_after
    (written bases reference previous (codes_at input i) (candidate_at input i)).context
    (written bases reference previous (codes_at input i) (candidate_at input i)).stored.fields)
    (drop (i + 1) (reads_of_input input)) (drop (i + 1) (candidates_of input))
unfolding reads_of_input candidates_of written_from
records-step bases reference input previous i inside =
    let n : ℕ = length input.ends in
    let reads : List (List ℕ) = build n (codes_at input) in
    let candidates : List Candidate = build n (candidate_at input) in
    let none : Candidate = candidate_at input 0 in
    ap₂ (written_from bases reference previous)
    (drop-cons reads i [] (omega (arith, length-build n (codes_at input)))
    ∙ ap₂ ◌∷◌ (get_or-build n (codes_at input) i [] inside)
    (ap (λ (k : ℕ). drop k reads) (sym (add-one i))))
    (drop-cons candidates i none (omega (arith, length-build n (candidate_at input)))
    ∙ ap₂ ◌∷◌ (get_or-build n (candidate_at input) i none inside)
    (ap (λ (k : ℕ). drop k candidates) (sym (add-one i))))

-- ---- Group by group

pub dna-none : dna_bytes [] ≡ []
unfolding dna_bytes division_bytes flat_map
dna-none =
    ap (λ (groups : List (List Written)). division_bytes (map written_group groups)) in_groups-nil

pub dna-groups : (records : List Written) → 0 < length records
    → dna_bytes records
    ≡ group_bytes (written_group (take 8 records)) ++ dna_bytes (drop 8 records)
unfolding dna_bytes division_bytes flat_map
dna-groups [] some = absurd (omega arith)
dna-groups (x ∷ xs) some =
    ap (λ (groups : List (List Written)). division_bytes (map written_group groups))
    (in_groups-cons x xs)

pub n-none : n_bytes [] ≡ []
unfolding n_bytes written_n_section
n-none =
    ap (λ (groups : List (List Written)). written_n_section (map written_group groups)) in_groups-nil

pub n-groups : (records : List Written) → 0 < length records
    → n_bytes records ≡ flag_byte (λ w. w.context.with_n) (take 8 records) ∷ n_bytes (drop 8 records)
unfolding n_bytes written_n_section written_group
n-groups [] some = absurd (omega arith)
n-groups (x ∷ xs) some =
    ap (λ (groups : List (List Written)). written_n_section (map written_group groups))
    (in_groups-cons x xs)

pub length-n_bytes : (records : List Written) → length (n_bytes records) ≡ group_count (length records)
unfolding n_bytes written_n_section
length-n_bytes records =
    length-map (map written_group (in_groups records)) _
    ∙ length-map (in_groups records) written_group
    ∙ length-in_groups records

pieces-bytes : (records : List Written)
    → flat_map (λ (piece : Piece). piece.bytes)
    (map (λ w. record { bytes = bytes_of w; stored = w.stored }) records)
    ≡ flat_map bytes_of records
unfolding flat_map
pieces-bytes [] = refl
pieces-bytes (x ∷ xs) = ap (λ (rest : List ℕ). bytes_of x ++ rest) (pieces-bytes xs)

-- The bytes of a group: its four, then its records.
pub group-bytes : (records : List Written)
    → group_bytes (written_group records)
    ≡ flag_byte (λ w. w.context.perfect_bit) records
    ∷ flag_byte (λ w. w.context.forward) records
    ∷ flag_byte (λ w. w.context.with_n) records
    ∷ flag_byte (λ w. w.context.incremental) records
    ∷ flat_map bytes_of records
unfolding group_bytes written_group
group-bytes records =
    ap (λ (rest : List ℕ).
    flag_byte (λ w. w.context.perfect_bit) records
    ∷ flag_byte (λ w. w.context.forward) records
    ∷ flag_byte (λ w. w.context.with_n) records
    ∷ flag_byte (λ w. w.context.incremental) records
    ∷ rest) (pieces-bytes records)

pub flat_map-append : {A : Type 0} (f : A → List ℕ) (front back : List A)
    → flat_map f (front ++ back) ≡ flat_map f front ++ flat_map f back
unfolding flat_map
flat_map-append f [] back = refl
flat_map-append f (x ∷ xs) back =
    ap (λ (rest : List ℕ). f x ++ rest) (flat_map-append f xs back)
    ∙ sym (append_assoc (f x) (flat_map f xs) (flat_map f back))

-- How long the DNA section is: four bytes a group, and the records.
pub length-dna_bytes : (records : List Written)
    → length (dna_bytes records)
    ≡ 4 * group_count (length records) + length (flat_map bytes_of records)
unfolding group_count flat_map
length-dna_bytes records =
    by-groups
    (λ list. length (dna_bytes list)
    ≡ 4 * ((length list + 7) / 8) + length (flat_map bytes_of list))
    (ap length dna-none)
    (λ x xs ih.
    let all : List Written = x ∷ xs in
    let some : 0 < length all = omega arith in
    let head : length (group_bytes (written_group (take 8 all)))
    ≡ 4 + length (flat_map bytes_of (take 8 all)) =
    ap length (group-bytes (take 8 all)) ∙ omega arith in
    let split : length (dna_bytes all)
    ≡ length (group_bytes (written_group (take 8 all))) + length (dna_bytes (drop 8 all)) =
    ap length (dna-groups all some) ∙ length-append (group_bytes (written_group (take 8 all))) _ in
    let whole : length (flat_map bytes_of all)
    ≡ length (flat_map bytes_of (take 8 all)) + length (flat_map bytes_of (drop 8 all)) =
    ap (λ (l : List Written). length (flat_map bytes_of l)) (sym (take-append-drop 8 all))
    ∙ ap length (flat_map-append bytes_of (take 8 all) (drop 8 all))
    ∙ length-append (flat_map bytes_of (take 8 all)) _ in
    omega (arith, length-drop 8 all))
    records

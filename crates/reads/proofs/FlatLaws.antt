-- The walk read by read answers what the walk by groups answers: the reads of its division, or the
-- same refusal. Assumes nothing.
use mathlib.Core.Path.{◌≡◌, refl, sym, ap, ap₂, ◌∙◌}
use Prim.Native.Nat.{ℕ, suc, ◌+◌, ◌-◌, ◌/◌, ◌%◌, ◌<◌, min}
use native.Mathlib.Nat.{add-zero}
use native.Mathlib.Omega.{arith}
use mathlib.Core.List.{List, [], ◌∷◌, ◌++◌}
use lib.ListN.{length, get_or, take, drop, length-take, length-drop, take-append-drop}
use lib.Seq.{get_or-drop, drop-drop}
use Rattle.base.specs.Groups.{in_groups}
use Rattle.base.specs.Faults.{Fault}
use Rattle.base.specs.Answer.{checked, found, and_then, refused_as}
use Rattle.base.proofs.GroupLaws.{in_groups-nil, in_groups-cons, by-groups}
use Rattle.dna.specs.Division.{GroupFlags, flags_at, Piece, Division, Read, Slot, context_of}
use Rattle.dna.specs.Division.{group_slots, slots, reads_from, reads_of}
use Rattle.dna.specs.RecordAt.{record_at}
use Rattle.dna.specs.Walk.{of_read, Walk, refused_at, last_position, reads_at, group_faults, group_at}
use Rattle.dna.specs.Walk.{groups_at, section_walk}
use Rattle.dna.proofs.WalkLaws.{reads_from-append}
use Rattle.reads.specs.ReadWalk.{Source, Standing, first_standing, faults_before, flags_before}
use Rattle.reads.specs.ReadWalk.{record_place, context_at, read_at, standing_after, reads_left}
use Rattle.reads.proofs.AndThenLaws.{and_then_assoc, and_then_cong, and_then-checked}
use Rattle.reads.proofs.InsideLaws.{division_left, left-cons, first_read_lem, RecordThen}
use Rattle.reads.proofs.InsideLaws.{record_then, reads_inside}

module _ (source : Source) where
  -- A group begins: its faults, then its first record, under its bytes.
  left_first : (standing : Standing) (read_length : ℕ) (lengths : List ℕ) (at : ℕ)
      → standing.read % 8 ≡ 0
      → division_left source standing (read_length ∷ lengths) at
      ≡ checked (refused_at standing.read)
      (group_faults (min 8 (source.reads - standing.read))
      (get_or source.ns (standing.read / 8) 0) source.dna at)
      (RecordThen source (flags_at source.dna at) standing.read 0 standing.position
      read_length lengths (at + 4))
  unfolding read_at faults_before flags_before record_place context_at standing_after and_then
  left_first standing read_length lengths at begins =
      left-cons source standing read_length lengths at
      ∙ rw (first_read_lem standing.read begins, begins)
      (and_then-checked (of_read standing.read) _ _ _
      ∙ ap (checked _ _)
      (and_then_assoc
      (refused_as (of_read standing.read)
      (record_at
      (context_of source.bases (flags_at source.dna at) 0 standing.position read_length)
      source.dna (at + 4)))
      _ _))

  -- What a walk over groups gives, as reads.
  abbrev groups_left : (standing : Standing) (lengths : List (List ℕ)) (n_section : List ℕ) (at : ℕ)
      → Walk (List Read)
  groups_left standing lengths n_section at =
      and_then
      (groups_at source.bases standing.read standing.position lengths n_section
      source.dna at)
      (λ division end.
      found (reads_from source.bases standing.position (slots lengths division)) end)

  -- The first group, then the others.
  groups_cons : (standing : Standing) (ours : List ℕ) (lengths : List (List ℕ))
      (n_section : List ℕ) (at : ℕ)
      → let flags : GroupFlags = flags_at source.dna at in
      groups_left standing (ours ∷ lengths) n_section at
      ≡ checked (refused_at standing.read)
      (group_faults (length ours) (get_or n_section 0 0) source.dna at)
      (and_then
      (reads_at source.bases flags standing.read 0 standing.position ours source.dna
      (at + 4))
      (λ pieces next.
      and_then
      (groups_left
      (record {
        read = standing.read + length ours;
        position =
            last_position source.bases standing.position (group_slots flags 0 ours pieces);
        flags = flags;
      })
      lengths (drop 1 n_section) next)
      (λ reads end.
      found
      (reads_from source.bases standing.position (group_slots flags 0 ours pieces) ++ reads)
      end)))
  unfolding groups_at group_at and_then slots
  groups_cons standing ours lengths n_section at =
      let bases : ℕ = source.bases in
      let dna : List ℕ = source.dna in
      let flags : GroupFlags = flags_at dna at in
      let read : ℕ = standing.read in
      let position : ℕ = standing.position in
      let faults : List Fault = group_faults (length ours) (get_or n_section 0 0) dna at in
      let pieces' : Walk (List Piece) = reads_at bases flags read 0 position ours dna (at + 4) in
      let here : List Piece → List Slot = λ pieces. group_slots flags 0 ours pieces in
      and_then_assoc (group_at bases read position ours (get_or n_section 0 0) dna at) _ _
      ∙ and_then-checked (of_read read) faults _ _
      ∙ ap (checked (refused_at read) faults)
      (and_then_assoc pieces' _ _
      ∙ and_then_cong pieces' _ _
      (λ pieces next.
      let later : Walk Division =
      groups_at bases (read + length ours) (last_position bases position (here pieces)) lengths
      (drop 1 n_section) dna next in
      and_then_assoc later _ _
      ∙ and_then_cong later _ _
      (λ division end.
      ap (λ (reads : List Read). found reads end)
      (reads_from-append bases position (here pieces) (slots lengths division)))
      ∙ sym (and_then_assoc later _ _)))

  -- The reads that are left where a group begins are those of the groups that are left.
  abbrev Flat : (lengths : List ℕ) → Type 0
  Flat lengths =
      (standing : Standing) (n_section : List ℕ) (at : ℕ)
      → (0 < length lengths → standing.read % 8 ≡ 0)
      → (0 < length lengths → n_section ≡ drop (standing.read / 8) source.ns)
      → source.reads ≡ standing.read + length lengths
      → division_left source standing lengths at
      ≡ groups_left standing (in_groups lengths) n_section at

  flat_nil : Flat []
  unfolding reads_left groups_at and_then slots reads_from
  flat_nil standing n_section at begins n all =
      sym
      (ap (λ (groups : List (List ℕ)). groups_left standing groups n_section at) in_groups-nil)

  flat_cons : (first : ℕ) (lengths : List ℕ) → Flat (drop 8 (first ∷ lengths))
      → Flat (first ∷ lengths)
  flat_cons first lengths ih standing n_section at begins n all =
      let flags : GroupFlags = flags_at source.dna at in
      let read : ℕ = standing.read in
      let start : read % 8 ≡ 0 = begins (omega arith) in
      let ours : List ℕ = first ∷ take 7 lengths in
      let rest : List ℕ = drop 7 lengths in
      let split : take 7 lengths ++ rest ≡ lengths = take-append-drop 7 lengths in
      let few : length (take 7 lengths) ≡ min 7 (length lengths) = length-take 7 lengths in
      let left : length rest ≡ length lengths - 7 = length-drop 7 lengths in
      let count : min 8 (source.reads - read) ≡ length ours = omega arith in
      let byte : get_or source.ns (read / 8) 0 ≡ get_or n_section 0 0 =
      ap (λ (k : ℕ). get_or source.ns k 0) (sym (add-zero (read / 8)))
      ∙ sym (get_or-drop (read / 8) source.ns 0 0)
      ∙ ap (λ (l : List ℕ). get_or l 0 0) (sym (n (omega arith))) in
      let pieces' : Walk (List Piece) =
      reads_at source.bases flags read 0 standing.position ours source.dna (at + 4) in
      left_first standing first lengths at start
      ∙ ap₂
      (λ (reads n_byte : ℕ).
      checked (refused_at read) (group_faults reads n_byte source.dna at)
      (RecordThen source flags read 0 standing.position first lengths (at + 4)))
      count byte
      ∙ ap
      (checked (refused_at read) (group_faults (length ours) (get_or n_section 0 0) source.dna at))
      (ap
      (λ (l : List ℕ). RecordThen source flags read 0 standing.position first l (at + 4))
      (sym split)
      ∙ record_then source flags read 0 standing.position first (take 7 lengths) rest (at + 4)
      (λ position next.
      reads_inside source (take 7 lengths) rest
      (record { read = suc read; position = position; flags = flags }) 1 next (omega arith)
      (omega arith) (λ less. omega arith))
      ∙ and_then_cong pieces' _ _
      (λ pieces next.
      let here : List Read =
      reads_from source.bases standing.position (group_slots flags 0 ours pieces) in
      ap
      (λ (walk : Walk (List Read)). and_then walk (λ reads end. found (here ++ reads) end))
      (ih _ (drop 1 n_section) next
      (λ some. omega arith)
      (λ some.
      let place : read / 8 + 1 ≡ (read + length ours) / 8 = omega arith in
      ap (drop 1) (n (omega arith))
      ∙ drop-drop 1 (read / 8) source.ns
      ∙ ap (λ (k : ℕ). drop k source.ns) place)
      (omega arith))))
      ∙ sym (groups_cons standing ours (in_groups rest) n_section at)
      ∙ sym
      (ap (λ (groups : List (List ℕ)). groups_left standing groups n_section at)
      (in_groups-cons first lengths))

  pub flat : (lengths : List ℕ) → Flat lengths
  flat = by-groups Flat flat_nil flat_cons

-- All reads of a block: the reads of the division that the walk by groups finds, or its refusal.
pub reads_section : (source : Source) (lengths : List ℕ) → source.reads ≡ length lengths
    → division_left source first_standing lengths 0
    ≡ and_then (section_walk source.bases lengths source.ns source.dna)
    (λ division end. found (reads_of source.bases lengths division) end)
unfolding section_walk reads_of
reads_section source lengths all =
    flat source lengths first_standing source.ns 0 (λ some. refl) (λ some. refl) (omega arith)

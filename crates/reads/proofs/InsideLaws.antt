-- The reads that are left, from inside a group on: the records of its reads, then the others.
-- Assumes nothing.
use mathlib.Core.Path.{◌≡◌, sym, ap, ◌∙◌}
use Prim.Native.Nat.{ℕ, suc, ◌+◌, ◌%◌, ◌≤◌, ◌<◌}
use native.Mathlib.Nat.{add-zero}
use native.Mathlib.Omega.{arith}
use mathlib.Core.Bool.{true, false}
use mathlib.Core.List.{List, [], ◌∷◌, ◌++◌, map}
use lib.ListN.{length}
use borrow.Author.Tests.{eq-eqb, ne_eqb}
use Rattle.base.specs.Answer.{checked, found, and_then, refused_as}
use Rattle.dna.specs.Record.{ReadContext, StoredRecord}
use Rattle.dna.specs.Alignment.{position_after}
use Rattle.dna.specs.Division.{GroupFlags, Piece, Read, Slot, context_of, group_slots, reads_from}
use Rattle.dna.specs.RecordAt.{record_at}
use Rattle.dna.specs.Walk.{of_read, Walk, last_position, reads_at}
use Rattle.reads.specs.ReadWalk.{Source, Standing, read_of, begins_group, faults_before}
use Rattle.reads.specs.ReadWalk.{flags_before, record_place, context_at, read_at, standing_after}
use Rattle.reads.specs.ReadWalk.{reads_left}
use Rattle.reads.proofs.AndThenLaws.{and_then_assoc, and_then_cong, and_then-same}

-- The reads that are left, as reads of a division.
abbrev pub division_left : (source : Source) (standing : Standing) (lengths : List ℕ) (at : ℕ)
    → Walk (List Read)
division_left source standing lengths at =
    and_then (reads_left source standing lengths at) (λ reads end. found (map read_of reads) end)

-- The first of them, then the others.
pub left-cons : (source : Source) (standing : Standing) (read_length : ℕ) (lengths : List ℕ) (at : ℕ)
    → division_left source standing (read_length ∷ lengths) at
    ≡ and_then (read_at source standing read_length at) (λ read next.
    and_then (division_left source (standing_after source standing at read) lengths next)
    (λ reads end. found (read_of read ∷ reads) end))
unfolding reads_left and_then
left-cons source standing read_length lengths at =
    and_then_assoc (read_at source standing read_length at) _ _
    ∙ and_then_cong (read_at source standing read_length at) _ _
    (λ read next.
    and_then_assoc (reads_left source (standing_after source standing at read) lengths next) _ _
    ∙ sym
    (and_then_assoc (reads_left source (standing_after source standing at read) lengths next) _ _))

-- ---- Inside a group

pub first_read_lem : (read : ℕ) → read % 8 ≡ 0 → begins_group read ≡ true
unfolding begins_group
first_read_lem read e = eq-eqb (read % 8) 0 e

pub not_first : (read : ℕ) → 0 < read % 8 → begins_group read ≡ false
unfolding begins_group
not_first read some = ne_eqb (read % 8) 0 (λ e. omega arith)

module _ (source : Source) where
  -- A record of a read of a group, then the reads that are left.
  abbrev pub RecordThen : (flags : GroupFlags) (read place position read_length : ℕ)
      (lengths : List ℕ) (at : ℕ) → Walk (List Read)
  RecordThen flags read place position read_length lengths at =
      let context : ReadContext = context_of source.bases flags place position read_length in
      and_then (refused_as (of_read read) (record_at context source.dna at)) (λ stored next.
      and_then
      (division_left source
      (record {
        read = suc read;
        position = position_after context stored.fields;
        flags = flags;
      })
      lengths next)
      (λ reads end.
      found
      (read_of (record { context = context; stored = stored; at = at; end = next }) ∷ reads) end))

  -- No group begins: the record follows, under the bytes of its group.
  left_inside : (standing : Standing) (place read_length : ℕ) (lengths : List ℕ) (at : ℕ)
      → begins_group standing.read ≡ false → standing.read % 8 ≡ place
      → division_left source standing (read_length ∷ lengths) at
      ≡ RecordThen standing.flags standing.read place standing.position read_length lengths
      at
  unfolding read_at faults_before flags_before record_place context_at standing_after checked and_then
  left_inside standing place read_length lengths at inside here =
      left-cons source standing read_length lengths at
      ∙ rw (inside, here)
      (and_then_assoc
      (refused_as (of_read standing.read)
      (record_at
      (context_of source.bases standing.flags place standing.position read_length)
      source.dna at))
      _ _)

  -- The reads of a group from `place` on, by the walk over groups, then the others.
  abbrev pub GroupThen : (flags : GroupFlags) (read place position : ℕ) (ours rest : List ℕ)
      (at : ℕ) → Walk (List Read)
  GroupThen flags read place position ours rest at =
      and_then (reads_at source.bases flags read place position ours source.dna at)
      (λ pieces next.
      and_then
      (division_left source
      (record {
        read = read + length ours;
        position =
            last_position source.bases position (group_slots flags place ours pieces);
        flags = flags;
      })
      rest next)
      (λ reads end.
      found (reads_from source.bases position (group_slots flags place ours pieces) ++ reads) end))

  -- The others as well.
  pub record_then : (flags : GroupFlags) (read place position read_length : ℕ) (ours rest : List ℕ)
      (at : ℕ)
      → ((position' next : ℕ)
      → division_left source (record { read = suc read; position = position'; flags = flags })
      (ours ++ rest) next
      ≡ GroupThen flags (suc read) (suc place) position' ours rest next)
      → RecordThen flags read place position read_length (ours ++ rest) at
      ≡ GroupThen flags read place position (read_length ∷ ours) rest at
  unfolding reads_at and_then group_slots reads_from last_position
  record_then flags read place position read_length ours rest at others =
      let context : ReadContext = context_of source.bases flags place position read_length in
      let answer : Walk StoredRecord =
      refused_as (of_read read) (record_at context source.dna at) in
      let sum : suc read + length ours ≡ read + suc (length ours) = omega arith in
      and_then_cong answer _ _
      (λ stored next.
      let this : Read =
      read_of (record { context = context; stored = stored; at = at; end = next }) in
      let after : ℕ = position_after context stored.fields in
      let pieces' : Walk (List Piece) =
      reads_at source.bases flags (suc read) (suc place) after ours source.dna next in
      ap
      (λ (walk : Walk (List Read)). and_then walk (λ reads end. found (this ∷ reads) end))
      (others after next)
      ∙ and_then_assoc pieces' _ _
      ∙ and_then_cong pieces' _ _
      (λ pieces end.
      let here : List Slot = group_slots flags (suc place) ours pieces in
      let last : ℕ = last_position source.bases after here in
      let later : ℕ → Walk (List Read) =
      λ n. division_left source (record { read = n; position = last; flags = flags }) rest end in
      and_then_assoc (later (suc read + length ours)) _ _
      ∙ ap
      (λ (n : ℕ).
      and_then (later n) (λ reads end'.
      found (this ∷ (reads_from source.bases after here ++ reads)) end'))
      sum)
      ∙ sym (and_then_assoc pieces' _ _))
      ∙ sym (and_then_assoc answer _ _)

  -- From inside a group on: the reads that are left of it, then the others.
  pub reads_inside : (ours rest : List ℕ) (standing : Standing) (place at : ℕ) → 0 < place
      → place + length ours ≤ 8 → (place < 8 → standing.read % 8 ≡ place)
      → division_left source standing (ours ++ rest) at
      ≡ GroupThen standing.flags standing.read place standing.position ours rest at
  unfolding reads_at and_then group_slots reads_from last_position
  reads_inside [] rest standing place at past most is =
      ap
      (λ (read : ℕ).
      division_left source
      (record { read = read; position = standing.position; flags = standing.flags }) rest at)
      (sym (add-zero standing.read))
      ∙ sym (and_then-same _)
  reads_inside (read_length ∷ ours) rest standing place at past most is =
      let here : standing.read % 8 ≡ place = is (omega arith) in
      let inside : begins_group standing.read ≡ false =
      not_first standing.read (omega arith) in
      left_inside standing place read_length (ours ++ rest) at inside here
      ∙ record_then standing.flags standing.read place standing.position read_length ours
      rest at
      (λ position' next.
      reads_inside ours rest
      (record { read = suc standing.read; position = position'; flags = standing.flags })
      (suc place) next (omega arith) (omega arith) (λ less. omega arith))

-- The walk over a DNA section refuses exactly as DnaRefused says: the converse of first-fault. Assumes nothing.
pub mod Past
use mathlib.Core.Path.{◌≡◌, refl, sym, ap, ◌∙◌, subst}
use Prim.Native.Nat.{ℕ, zero, suc, ◌+◌, ◌*◌, ◌≤◌, ◌<◌}
use native.Mathlib.Nat.{zero-add}
use native.Mathlib.Omega.{arith}
use mathlib.Core.Bool.{false}
use mathlib.Core.Logic.{inl, inr}
use mathlib.Core.List.{List, [], ◌∷◌, ◌++◌, flat_map}
use lib.ListN.{length, get_or, replicate, length-append, length-replicate}
use lib.Dec.{eqb}
use borrow.Author.Tests.{ltb-false, eqb-true, le-ltb, eq-eqb}
use Rattle.base.specs.Lists.{any, All, AllBytes}
use Rattle.base.specs.Groups.{in_groups}
use Rattle.base.specs.Place.{At}
use Rattle.base.specs.Faults.{Fault, fault, NoneFits}
use Rattle.base.specs.Answer.{first_number, refused}
use Rattle.base.proofs.ListLaws.{by_order, all_left, all_right}
use Rattle.base.proofs.AtLaws.{at_left, at_right, at-nil, at-to}
use Rattle.base.proofs.AnswerLaws.{checked-none, checked-first, numbered, and_then-refused}
use Rattle.base.proofs.Tests.{neither_or, not-false, true_not, any_none}
use Rattle.dna.specs.Record.{perfect}
use Rattle.dna.specs.Division.{GroupFlags, flags_at, Piece, Group, Division, Slot, Read}
use Rattle.dna.specs.Division.{group_bytes, division_bytes, context_of, group_slots, slots}
use Rattle.dna.specs.Division.{reads_from, reads_of, ReadMeets, group_bit_stray, with_n_byte_wrong}
use Rattle.dna.specs.Division.{GroupMeets}
use Rattle.dna.specs.RecordAt.{record_at}
use Rattle.dna.specs.Walk.{of_read, last_position, reads_at, group_faults, group_at, section_walk}
use Rattle.dna.specs.FirstFault.{group_lengths, next_context, faults_of_group, GroupRefused}
use Rattle.dna.specs.FirstFault.{RecordRefused, DnaRefused}
use Rattle.dna.proofs.WalkLaws.{pieces_bytes, reads_from-append}
use Rattle.dna.proofs.WalkComplete.{flags-read, pieces-at}
use Rattle.dna.proofs.FirstFault.Walks.{last_position-append}
use Rattle.dna.proofs.FirstFault.Fronts.{at-begins, group-stands, length-group, bytes-snoc}
use Rattle.dna.proofs.FirstFault.Fronts.{slots-snoc}
use Past.{begins-at, none_first, record-refuses, records-past, section-refuses, group_inside}

-- ---- A refusal for a group's bytes

-- A piece of no bytes: what a group's bytes demand of its pieces is their number.
empty-piece : Piece
empty-piece = record { bytes = []; stored = record { fields = perfect 0; n_offsets = [] } }

empty-pieces : (n : ℕ) → pieces_bytes (replicate n empty-piece) ≡ []
unfolding pieces_bytes flat_map empty-piece
empty-pieces zero = refl
empty-pieces (suc n) = empty-pieces n

-- Where no group that meets the rules begins, one of the three faults fits: else the group's bytes and pieces of no
-- bytes would be one.
group_faulty : (ours : List ℕ) (n_byte : ℕ) (dna : List ℕ) (place : ℕ)
    → ((group : Group) → GroupMeets ours n_byte group → At dna place (group_bytes group) → ⊥)
    → 0 < first_number (faults_of_group (length ours) n_byte dna place)
unfolding with_n_byte_wrong any
group_faulty ours n_byte dna place never =
    let faults : List Fault = faults_of_group (length ours) n_byte dna place in
    let flags : GroupFlags = flags_at dna place in
    let pieces : List Piece = replicate (length ours) empty-piece in
    by_order 0 (first_number faults) (λ some. some)
    (λ h.
    let none : NoneFits faults = none_first faults (numbered faults refl) h in
    let no : (k : ℕ) → k < 3 → (get_or faults k (fault 0 false)).fits ≡ false = λ k l. any_none (λ f. f.fits) faults none k (fault 0 false) l in
    let fits : place + 4 ≤ length dna = ltb-false (length dna) (place + 4) (no 0 (omega arith)) in
    absurd (never (record { flags = flags; pieces = pieces })
    (record {
      reads = length-replicate (length ours) empty-piece;
      no_stray_bit = no 1 (omega arith);
      with_n = eqb-true flags.with_n n_byte (not-false (eqb flags.with_n n_byte) (no 2 (omega arith)));
    })
    (group-stands place pieces fits (rw empty-pieces (at-nil fits)))))

-- The group's first fault is the answer.
group_exactly : (bases : ℕ) (lengths n_section dna : List ℕ) (number read : ℕ) → GroupRefused bases lengths n_section dna number read
    → section_walk bases lengths n_section dna ≡ refused (of_read read number)
unfolding group_at group_faults
group_exactly bases lengths n_section dna number read r =
    let groups : Division = r.groups in
    section-refuses bases lengths n_section dna groups (of_read read number)
    (group_inside lengths (length groups) 0 (omega (arith, r.index, r.inside))) r.before
    (checked-first _ _ _
    (group_faulty (group_lengths lengths (length groups)) (get_or n_section (length groups) 0) dna (length (division_bytes groups)) r.none)
    ∙ (λ t. refused (of_read (sym r.index t) (sym r.first t))))

-- ---- A refusal for a record

-- The group's bytes have none of the three faults, its first records meet the rules, and the next one is refused.
record_exactly : (bases : ℕ) (lengths n_section dna : List ℕ) (number read : ℕ) → AllBytes dna
    → RecordRefused bases lengths n_section dna number read
    → section_walk bases lengths n_section dna ≡ refused (of_read read number)
unfolding group_at group_faults reads_of next_context with_n_byte_wrong any
record_exactly bases lengths n_section dna number read bytes r =
    let groups : Division = r.groups in
    let last : Group = r.last in
    let flags : GroupFlags = last.flags in
    let ours : List ℕ = group_lengths lengths (length groups) in
    let n_byte : ℕ = get_or n_section (length groups) 0 in
    let place : ℕ = length (division_bytes groups) in
    let before : List Slot = slots (in_groups lengths) groups in
    let here : List Slot = group_slots flags 0 ours last.pieces in
    let previous : ℕ = last_position bases 0 before in
    let more : length groups < length (in_groups lengths)
    = group_inside lengths (length groups) (length last.pieces) (omega (arith, r.index, r.inside)) in
    let all : slots (in_groups lengths) (groups ++ (last ∷ [])) ≡ before ++ here = slots-snoc (in_groups lengths) groups last more in
    let records : All ReadMeets (reads_from bases 0 before ++ reads_from bases previous here)
    = subst (λ (reads : List Read). All ReadMeets reads) (ap (reads_from bases 0) all ∙ reads_from-append bases 0 before here) r.before.records in
    let stand : At dna 0 (division_bytes groups ++ group_bytes last)
    = subst (λ (part : List ℕ). At dna 0 part) (bytes-snoc groups last) (begins-at _ r.before.begin) in
    let stands : At dna place (group_bytes last) = at-to (0 + place) place (zero-add place) (at_right (division_bytes groups) (group_bytes last) stand) in
    let is : flags_at dna place ≡ flags = flags-read last stands in
    let byte : (flags_at dna place).with_n ≡ n_byte = ap (λ (f : GroupFlags). f.with_n) is ∙ r.before.with_n in
    let position : last_position bases previous here ≡ last_position bases 0 (slots (in_groups lengths) (groups ++ (last ∷ []))) =
    sym (ap (last_position bases 0) all ∙ last_position-append bases 0 before here) in
    let end : place + 4 + length (pieces_bytes last.pieces) ≡ length (division_bytes (groups ++ (last ∷ []))) =
    omega (arith, ap length (bytes-snoc groups last), length-append (division_bytes groups) (group_bytes last), length-group last) in
    section-refuses bases lengths n_section dna groups (of_read read number) more
    (record {
      begin = at-begins (division_bytes groups) (at_left (division_bytes groups) (group_bytes last) stand);
      meet = r.before.meet;
      records = all_left ReadMeets (reads_from bases 0 before) _ records;
    })
    (checked-none _ _ _
    (neither_or _ _ (le-ltb (length dna) (place + 4) (omega (arith, stands.fits, length-group last)))
    (neither_or _ _ (ap (group_bit_stray (length ours)) is ∙ r.before.no_stray_bit)
    (neither_or _ _ (true_not (eqb (flags_at dna place).with_n n_byte) (eq-eqb (flags_at dna place).with_n n_byte byte)) refl)))
    ∙ and_then-refused _
    (ap (λ (f : GroupFlags). reads_at bases f (8 * length groups) 0 previous ours dna (place + 4)) is
    ∙ records-past bases flags (8 * length groups) 0 previous ours last.pieces number r.before.some
    (all_right ReadMeets (reads_from bases 0 before) _ records) (pieces-at last stands)
    ((λ t.
    record_at (context_of bases flags (zero-add (length last.pieces) t) (position t) (get_or ours (length last.pieces) 0)) dna (end t))
    ∙ record-refuses (next_context bases lengths groups last) dna _ number bytes r.first r.none)
    ∙ ap (λ (k : ℕ). refused (of_read k number)) (sym r.index)))

-- The walk over a DNA section refuses what is refused, with that number and for that read.
pub refused_exactly : (bases : ℕ) (lengths n_section dna : List ℕ) (number read : ℕ) → AllBytes dna
    → DnaRefused bases lengths n_section dna number read
    → section_walk bases lengths n_section dna ≡ refused (of_read read number)
refused_exactly bases lengths n_section dna number read bytes (inl r) = group_exactly bases lengths n_section dna number read r
refused_exactly bases lengths n_section dna number read bytes (inr r) = record_exactly bases lengths n_section dna number read bytes r

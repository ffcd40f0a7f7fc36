-- The walk goes past what meets the rules to the record or group that is refused, and refuses it so. Assumes nothing.
use mathlib.Core.Path.{◌≡◌, refl, sym, ap, ◌∙◌, subst}
use Prim.Native.Nat.{ℕ, suc, ◌+◌, ◌*◌, ◌≤◌, ◌<◌}
use native.Mathlib.Nat.{zero-add, le_of_suc-le-suc, not-suc-le-zero}
use native.Mathlib.Omega.{arith}
use mathlib.Core.Logic.{inl, inr}
use mathlib.Core.List.{List, [], ◌∷◌, ◌++◌, map, flat_map}
use lib.ListN.{length, get_or, take, length-append}
use borrow.Author.Tests.{le-ltb}
use Rattle.base.specs.Lists.{total, All, Begins, AllBytes}
use Rattle.base.specs.Groups.{group_count, in_groups}
use Rattle.base.specs.Place.{At}
use Rattle.base.specs.Faults.{Fault, NoneFits}
use Rattle.base.specs.Answer.{first_number, Scan, found, refused, refused_as}
use Rattle.base.proofs.ListLaws.{by_order, all_left, all_right}
use Rattle.base.proofs.AtLaws.{at-middle, at_left, at_right}
use Rattle.base.proofs.GroupLaws.{length-in_groups}
use Rattle.base.proofs.AnswerLaws.{any-first_number, and_then-found, and_then-refused, refused_as-found}
use Rattle.dna.specs.Record.{ReadContext, StoredRecord, record_bytes, RecordFits}
use Rattle.dna.specs.Alignment.{position_after}
use Rattle.dna.specs.RecordFaults.{record_faults}
use Rattle.dna.specs.Division.{GroupFlags, Piece, Division, Slot, Read, group_bytes}
use Rattle.dna.specs.Division.{division_bytes, context_of, group_slots, slots, reads_from}
use Rattle.dna.specs.Division.{reads_of, ReadMeets, GroupsMeet}
use Rattle.dna.specs.RecordAt.{record_at}
use Rattle.dna.specs.Walk.{ReadRefusal, of_read, last_position, reads_at, group_at, groups_at}
use Rattle.dna.specs.Walk.{section_walk}
use Rattle.dna.specs.FirstFault.{group_lengths, faults_of_fields, NumberOfRecord, GroupsBefore}
use Rattle.dna.proofs.RecordComplete.{record-find}
use Rattle.dna.proofs.RecordSound.{RecordFoundAt, record-found}
use Rattle.dna.proofs.WalkLaws.{pieces_bytes, reads_from-append}
use Rattle.dna.proofs.WalkComplete.{group-walk}
use Rattle.dna.proofs.FirstFault.Records.{fields-numbered, record-number}
use Rattle.dna.proofs.FirstFault.Walks.{last_position-append}
use Rattle.dna.proofs.FirstFault.Fronts.{reads_before}

-- What begins the list stands at its start.
pub begins-at : {list : List ℕ} (part : List ℕ) → Begins part list → At list 0 part
begins-at part b = subst (λ (whole : List ℕ). At whole 0 part) b.1 (at-middle [] part b.0)

-- No first number: none fits.
pub none_first : (faults : List Fault) → All (λ f. 0 < f.number) faults → first_number faults ≤ 0 → NoneFits faults
none_first faults above h = any-first_number faults above ∙ le-ltb 0 (first_number faults) h

-- ---- A record

-- A place has one number.
number_same : (context : ReadContext) (list : List ℕ) (at one other : ℕ) → NumberOfRecord context list at one
    → NumberOfRecord context list at other → one ≡ other
number_same context list at one other a b =
    let faults : List Fault = faults_of_fields context list at in
    by_order 0 (first_number faults) (λ some. a.of_fields some ∙ sym (b.of_fields some))
    (λ h.
    let none : NoneFits faults = none_first faults (fields-numbered context list at) h in
    let la = a.of_list none in
    let lb = b.of_list none in
    elim la.1 [
      | inl e ↦ e ∙ sym (lb.2.1 (la.2.0 e))
      | inr e ↦ elim lb.1 [ inl f ↦ la.2.1 (lb.2.0 f) ∙ sym f | inr f ↦ e ∙ sym f ]
    ])

-- Where no record that meets the rules stands, one is refused with that number.
pub record-refuses : (context : ReadContext) (list : List ℕ) (at number : ℕ) → AllBytes list → NumberOfRecord context list at number
    → ((stored : StoredRecord) → RecordFits context stored → NoneFits (record_faults context stored)
    → At list at (record_bytes context stored) → ⊥)
    → record_at context list at ≡ refused number
record-refuses context list at number bytes first none =
    let go : (answer : Scan StoredRecord) → record_at context list at ≡ answer → record_at context list at ≡ refused number
    = elim [
      | found stored next ↦ λ e.
          let f : RecordFoundAt context list at stored next = record-found context list at bytes e in
          absurd (none stored f.fits f.none f.stands)
      | refused other ↦ λ e. e ∙ ap refused (number_same context list at other number (record-number context list at other bytes e) first)
    ] in
    go (record_at context list at) refl

-- Past the records before it, to the one that is refused.
pub records-past : (bases : ℕ) (flags : GroupFlags) (read place previous : ℕ) (lengths : List ℕ) (pieces : List Piece) {list : List ℕ} {at : ℕ}
    (number : ℕ) → length pieces < length lengths
    → All ReadMeets (reads_from bases previous (group_slots flags place lengths pieces)) → At list at (pieces_bytes pieces)
    → record_at
    (context_of bases flags (place + length pieces) (last_position bases previous (group_slots flags place lengths pieces))
    (get_or lengths (length pieces) 0))
    list (at + length (pieces_bytes pieces))
    ≡ refused number
    → reads_at bases flags read place previous lengths list at ≡ refused (of_read (read + length pieces) number)
unfolding reads_at refused_as pieces_bytes flat_map group_slots reads_from last_position
records-past bases flags read place previous [] pieces number h meet a e = absurd (not-suc-le-zero h)
records-past bases flags read place previous (read_length ∷ lengths) [] {list} {at} number h meet a e =
    let p₀ : place ≡ place + 0 = omega arith in
    let a₀ : at ≡ at + 0 = omega arith in
    let r₀ : read ≡ read + 0 = omega arith in
    and_then-refused _
    (ap (refused_as (of_read read)) ((λ t. record_at (context_of bases flags (p₀ t) previous read_length) list (a₀ t)) ∙ e)
    ∙ ap (λ (r : ℕ). refused (of_read r number)) r₀)
records-past bases flags read place previous (read_length ∷ lengths) (piece ∷ pieces) {list} {at} number h meet a e =
    let context : ReadContext = context_of bases flags place previous read_length in
    let position : ℕ = position_after context piece.stored.fields in
    let own : piece.bytes ≡ record_bytes context piece.stored = meet.0.bytes in
    let rest : List ℕ = pieces_bytes pieces in
    let p₁ : suc place + length pieces ≡ place + suc (length pieces) = omega arith in
    let r₁ : suc read + length pieces ≡ read + suc (length pieces) = omega arith in
    let a₁ : at + length (record_bytes context piece.stored) + length rest ≡ at + length (piece.bytes ++ rest) =
    omega (arith, length-append piece.bytes rest, ap length own) in
    and_then-found _
    (refused_as-found (of_read read)
    (record-find context piece.stored meet.0.fits meet.0.no_fault (rw own at (at_left piece.bytes rest a))))
    (and_then-refused _
    (records-past bases flags (suc read) (suc place) position lengths pieces number (le_of_suc-le-suc h) meet.1
    (rw own at (at_right piece.bytes rest a))
    ((λ t.
    record_at
    (context_of bases flags (p₁ t) (last_position bases position (group_slots flags (suc place) lengths pieces))
    (get_or lengths (length pieces) 0))
    list (a₁ t))
    ∙ e)
    ∙ ap (λ (r : ℕ). refused (of_read r number)) r₁))

-- ---- Groups

-- Past the groups before it, to the one that is refused.
groups-past : (bases read previous : ℕ) (lengths : List (List ℕ)) (n_section : List ℕ) (groups : Division) {list : List ℕ} {at : ℕ}
    (refusal : ReadRefusal) → length groups < length lengths
    → GroupsMeet (take (length groups) lengths) (take (length groups) n_section) groups
    → All ReadMeets (reads_from bases previous (slots lengths groups)) → At list at (division_bytes groups)
    → group_at bases (read + total (map length (take (length groups) lengths))) (last_position bases previous (slots lengths groups))
    (get_or lengths (length groups) []) (get_or n_section (length groups) 0) list (at + length (division_bytes groups))
    ≡ refused refusal
    → groups_at bases read previous lengths n_section list at ≡ refused refusal
unfolding groups_at division_bytes flat_map slots last_position total
groups-past bases read previous [] n_section groups refusal h meet records a e = absurd (not-suc-le-zero h)
groups-past bases read previous (ours ∷ lengths) n_section [] {list} {at} refusal h meet records a e =
    let r₀ : read ≡ read + 0 = omega arith in
    let a₀ : at ≡ at + 0 = omega arith in
    and_then-refused _ ((λ t. group_at bases (r₀ t) previous ours (get_or n_section 0 0) list (a₀ t)) ∙ e)
groups-past bases read previous (ours ∷ lengths) [] (group ∷ groups) refusal h meet records a e = absurd meet
groups-past bases read previous (ours ∷ lengths) (n_byte ∷ n_section) (group ∷ groups) {list} {at} refusal h meet records a e =
    let here : List Slot = group_slots group.flags 0 ours group.pieces in
    let there : List Slot = slots lengths groups in
    let both : All ReadMeets (reads_from bases previous here ++ reads_from bases (last_position bases previous here) there)
    = subst (λ (reads : List Read). All ReadMeets reads) (reads_from-append bases previous here there) records in
    let rest : List ℕ = division_bytes groups in
    let before : ℕ = total (map length (take (length groups) lengths)) in
    let r₁ : read + length ours + before ≡ read + (length ours + before) = omega arith in
    let a₁ : at + length (group_bytes group) + length rest ≡ at + length (group_bytes group ++ rest) =
    omega (arith, length-append (group_bytes group) rest) in
    and_then-found _
    (group-walk bases read previous ours n_byte group meet.0
    (all_left ReadMeets (reads_from bases previous here) _ both) (at_left (group_bytes group) rest a))
    (and_then-refused _
    (groups-past bases (read + length ours) (last_position bases previous here) lengths n_section groups refusal (le_of_suc-le-suc h) meet.1
    (all_right ReadMeets (reads_from bases previous here) _ both) (at_right (group_bytes group) rest a)
    ((λ t.
    group_at bases (r₁ t) (sym (last_position-append bases previous here there) t) (get_or lengths (length groups) [])
    (get_or n_section (length groups) 0) list (a₁ t))
    ∙ e)))

-- A section whose next group is refused, after whole groups that meet the rules.
pub section-refuses : (bases : ℕ) (lengths n_section dna : List ℕ) (groups : Division) (refusal : ReadRefusal)
    → length groups < length (in_groups lengths) → GroupsBefore bases lengths n_section dna groups
    → group_at bases (8 * length groups) (last_position bases 0 (slots (in_groups lengths) groups)) (group_lengths lengths (length groups))
    (get_or n_section (length groups) 0) dna (length (division_bytes groups))
    ≡ refused refusal
    → section_walk bases lengths n_section dna ≡ refused refusal
unfolding section_walk reads_of
section-refuses bases lengths n_section dna groups refusal more before e =
    let read : 0 + total (map length (take (length groups) (in_groups lengths))) ≡ 8 * length groups
    = zero-add _ ∙ reads_before lengths (length groups) more in
    groups-past bases 0 0 (in_groups lengths) n_section groups refusal more before.meet before.records
    (begins-at (division_bytes groups) before.begin)
    ((λ t.
    group_at bases (read t) (last_position bases 0 (slots (in_groups lengths) groups)) (group_lengths lengths (length groups))
    (get_or n_section (length groups) 0) dna (zero-add (length (division_bytes groups)) t))
    ∙ e)

-- A read of the block is in one of its groups.
pub group_inside : (lengths : List ℕ) (g k : ℕ) → 8 * g + k < length lengths → g < length (in_groups lengths)
unfolding group_count
group_inside lengths g k h = omega (arith, length-in_groups lengths)

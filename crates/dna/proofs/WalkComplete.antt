-- A division that meets the rules is found by the walk. Assumes nothing.
use mathlib.Core.Path.{◌≡◌, refl, sym, ap, ap₂, ◌∙◌, subst}
use Prim.Native.Nat.{ℕ, suc, ◌+◌, ◌≤◌}
use native.Mathlib.Omega.{arith}
use mathlib.Core.List.{List, [], ◌∷◌, ◌++◌, flat_map}
use lib.ListN.{length, take, length-append}
use lib.Seq.{take-length, length-take-le}
use lib.Dec.{eqb}
use borrow.Author.Tests.{le-ltb, eq-eqb}
use Rattle.base.specs.Lists.{any, All}
use Rattle.base.specs.Groups.{in_groups}
use Rattle.base.specs.Place.{At}
use Rattle.base.proofs.ListLaws.{all_left, all_right}
use Rattle.base.proofs.AtLaws.{at_take, at_left, at_right, at_head, at_tail, at-to}
use Rattle.base.specs.Answer.{found}
use Rattle.base.proofs.AnswerLaws.{checked-none, and_then-found, refused_as-found}
use Rattle.base.proofs.Tests.{neither_or, true_not}
use Rattle.dna.specs.Record.{ReadContext, record_bytes}
use Rattle.dna.specs.Alignment.{position_after}
use Rattle.dna.specs.Division.{GroupFlags, flags_at, Piece, Group, Division, Slot, Read}
use Rattle.dna.specs.Division.{group_bytes, division_bytes, context_of, group_slots, slots}
use Rattle.dna.specs.Division.{reads_from, reads_of, group_bit_stray, with_n_byte_wrong, ReadMeets}
use Rattle.dna.specs.Division.{GroupMeets, GroupsMeet, Divides}
use Rattle.dna.specs.Walk.{of_read, last_position, reads_at, group_faults, group_at, groups_at}
use Rattle.dna.specs.Walk.{section_walk}
use Rattle.dna.proofs.RecordComplete.{record-find}
use Rattle.dna.proofs.WalkLaws.{pieces_bytes, reads_from-append}

reads-walk : (bases : ℕ) (flags : GroupFlags) (read place previous : ℕ) (lengths : List ℕ) (pieces : List Piece) {list : List ℕ} {at : ℕ}
    → length pieces ≡ length lengths → All ReadMeets (reads_from bases previous (group_slots flags place lengths pieces))
    → At list at (pieces_bytes pieces)
    → reads_at bases flags read place previous lengths list at ≡ found pieces (at + length (pieces_bytes pieces))
unfolding reads_at pieces_bytes flat_map group_slots reads_from
reads-walk bases flags read place previous [] [] n h a = ap (found []) (omega arith)
reads-walk bases flags read place previous [] (piece ∷ pieces) n h a = absurd (omega arith)
reads-walk bases flags read place previous (read_length ∷ lengths) [] n h a = absurd (omega arith)
reads-walk bases flags read place previous (read_length ∷ lengths) (piece ∷ pieces) {list} {at} n h a =
    let context : ReadContext = context_of bases flags place previous read_length in
    let own : piece.bytes ≡ record_bytes context piece.stored = h.0.bytes in
    let rest : List ℕ = pieces_bytes pieces in
    and_then-found _
    (refused_as-found (of_read read)
    (record-find context piece.stored h.0.fits h.0.no_fault (rw own at (at_left piece.bytes rest a))))
    (and_then-found _
    (reads-walk bases flags (suc read) (suc place) (position_after context piece.stored.fields) lengths pieces (omega arith) h.1
    (rw own at (at_right piece.bytes rest a)))
    (ap₂ found
    (ap (λ (p : List ℕ). record { bytes = p; stored = piece.stored } ∷ pieces) (sym own))
    (omega (arith, length-append piece.bytes rest, ap length own))))

pub flags-read : (group : Group) {list : List ℕ} {at : ℕ} → At list at (group_bytes group) → flags_at list at ≡ group.flags
unfolding flags_at group_bytes
flags-read group {list} {at} a =
    let a₁ = at_tail a in
    let a₂ = at-to (at + 1 + 1) (at + 2) (omega arith) (at_tail a₁) in
    let a₃ = at-to (at + 2 + 1) (at + 3) (omega arith) (at_tail a₂) in
    λ t. record { perfect = at_head a t; forward = at_head a₁ t; with_n = at_head a₂ t; incremental = at_head a₃ t }

pub pieces-at : (group : Group) {list : List ℕ} {at : ℕ} → At list at (group_bytes group) → At list (at + 4) (pieces_bytes group.pieces)
unfolding group_bytes pieces_bytes
pieces-at group {list} {at} a = at-to _ _ (omega arith) (at_tail (at_tail (at_tail (at_tail a))))

pub group-walk : (bases read previous : ℕ) (lengths : List ℕ) (n_byte : ℕ) (group : Group) {list : List ℕ} {at : ℕ} → GroupMeets lengths n_byte group
    → All ReadMeets (reads_from bases previous (group_slots group.flags 0 lengths group.pieces))
    → At list at (group_bytes group)
    → group_at bases read previous lengths n_byte list at ≡ found group (at + length (group_bytes group))
unfolding group_at group_faults with_n_byte_wrong group_bytes pieces_bytes any
group-walk bases read previous lengths n_byte group {list} {at} meets h a =
    let is : flags_at list at ≡ group.flags = flags-read group a in
    let byte : (flags_at list at).with_n ≡ n_byte = ap (λ (f : GroupFlags). f.with_n) is ∙ meets.with_n in
    checked-none _ _ _
    (neither_or _ _ (le-ltb (length list) (at + 4) (omega (arith, a.fits)))
    (neither_or _ _ (ap (group_bit_stray (length lengths)) is ∙ meets.no_stray_bit)
    (neither_or _ _ (true_not (eqb (flags_at list at).with_n n_byte) (eq-eqb (flags_at list at).with_n n_byte byte)) refl)))
    ∙ and_then-found _
    (ap (λ (f : GroupFlags). reads_at bases f read 0 previous lengths list (at + 4)) is
    ∙ reads-walk bases group.flags read 0 previous lengths group.pieces meets.reads h (pieces-at group a))
    (ap₂ found (ap (λ (f : GroupFlags). record { flags = f; pieces = group.pieces }) is) (omega arith))

groups-walk : (bases read previous : ℕ) (lengths : List (List ℕ)) (n_section : List ℕ) (division : Division) {list : List ℕ} {at : ℕ}
    → GroupsMeet lengths n_section division → All ReadMeets (reads_from bases previous (slots lengths division))
    → At list at (division_bytes division)
    → groups_at bases read previous lengths n_section list at ≡ found division (at + length (division_bytes division))
unfolding groups_at division_bytes flat_map slots
groups-walk bases read previous [] [] [] meets h a = ap (found []) (omega arith)
groups-walk bases read previous [] [] (group ∷ division) meets h a = absurd meets
groups-walk bases read previous [] (n_byte ∷ n_section) division meets h a = absurd meets
groups-walk bases read previous (ours ∷ lengths) [] division meets h a = absurd meets
groups-walk bases read previous (ours ∷ lengths) (n_byte ∷ n_section) [] meets h a = absurd meets
groups-walk bases read previous (ours ∷ lengths) (n_byte ∷ n_section) (group ∷ division) {list} {at} meets h a =
    let here : List Slot = group_slots group.flags 0 ours group.pieces in
    let there : List Slot = slots lengths division in
    let both : All ReadMeets (reads_from bases previous here ++ reads_from bases (last_position bases previous here) there)
    = subst (λ (reads : List Read). All ReadMeets reads) (reads_from-append bases previous here there) h in
    let rest : List ℕ = division_bytes division in
    and_then-found _
    (group-walk bases read previous ours n_byte group meets.0
    (all_left ReadMeets (reads_from bases previous here) _ both) (at_left (group_bytes group) rest a))
    (and_then-found _
    (groups-walk bases (read + length ours) (last_position bases previous here) lengths n_section division meets.1
    (all_right ReadMeets (reads_from bases previous here) _ both) (at_right (group_bytes group) rest a))
    (ap (found (group ∷ division)) (omega (arith, length-append (group_bytes group) rest))))

-- A division of the front of a section is what the walk finds, to that front's end.
pub front-walk : (bases : ℕ) (lengths n_section dna : List ℕ) (division : Division) (end : ℕ) → end ≤ length dna
    → Divides bases lengths n_section (take end dna) division → section_walk bases lengths n_section dna ≡ found division end
unfolding section_walk reads_of
front-walk bases lengths n_section dna division end inside d =
    groups-walk bases 0 0 (in_groups lengths) n_section division d.groups d.records
    (subst (λ (bytes : List ℕ). At dna 0 bytes) (sym d.bytes) (at_take dna end inside))
    ∙ ap (found division) (omega (arith, ap length d.bytes, length-take-le end dna inside))

-- A division that meets the rules is what the walk finds, to the section's end.
pub divides-walk : (bases : ℕ) (lengths n_section dna : List ℕ) (division : Division) → Divides bases lengths n_section dna division
    → section_walk bases lengths n_section dna ≡ found division (length dna)
divides-walk bases lengths n_section dna division d =
    front-walk bases lengths n_section dna division (length dna) (omega arith)
    (subst (λ (front : List ℕ). Divides bases lengths n_section front division) (sym (take-length dna)) d)

-- What the walk finds is a division that meets the rules. Assumes nothing.
use mathlib.Core.Path.{◌≡◌, refl, sym, ap, ◌∙◌, subst}
use Prim.Native.Nat.{ℕ, suc, ◌+◌, ◌≤◌}
use native.Mathlib.Omega.{arith}
use mathlib.Core.Bool.{false, not, ◌||◌}
use mathlib.Core.List.{List, [], ◌∷◌, flat_map}
use lib.ListN.{length, take, length-append}
use lib.Seq.{take_all, length-take-le}
use lib.Dec.{ltb, eqb}
use borrow.Author.Tests.{ltb-false, eqb-true}
use Rattle.base.specs.Lists.{any, All, AllBytes}
use Rattle.base.specs.Groups.{group_count, in_groups}
use Rattle.base.specs.Place.{At}
use Rattle.base.proofs.ListLaws.{all_append}
use Rattle.base.proofs.GroupLaws.{length-in_groups}
use Rattle.base.proofs.AtLaws.{at_take, at_same, at_both, at-cons, at-nil, at-to}
use Rattle.base.specs.Answer.{found, refused_as}
use Rattle.base.proofs.AnswerLaws.{found-same, checked-found, and_then-parts, found-refused_as}
use Rattle.base.proofs.Tests.{or-neither, not-false}
use Rattle.dna.specs.Record.{ReadContext, record_bytes}
use Rattle.dna.specs.Alignment.{position_after}
use Rattle.dna.specs.Division.{GroupFlags, flags_at, Piece, Group, Division, Slot, Read}
use Rattle.dna.specs.Division.{group_bytes, division_bytes, context_of, group_slots, slots}
use Rattle.dna.specs.Division.{reads_from, reads_of, group_bit_stray, with_n_byte_wrong, ReadMeets}
use Rattle.dna.specs.Division.{GroupMeets, GroupsMeet, Divides}
use Rattle.dna.specs.RecordAt.{record_at}
use Rattle.dna.specs.Walk.{of_read, last_position, reads_at, group_faults, group_at, groups_at}
use Rattle.dna.specs.Walk.{section_walk}
use Rattle.dna.proofs.RecordSound.{RecordFoundAt, record-found}
use Rattle.dna.proofs.WalkLaws.{pieces_bytes, reads_from-append}

record ReadsFound (bases : ℕ) (flags : GroupFlags) (place previous : ℕ) (lengths list : List ℕ) (at : ℕ) (pieces : List Piece) (next : ℕ)
    : Type 0 where
  counted : length pieces ≡ length lengths
  meet : All ReadMeets (reads_from bases previous (group_slots flags place lengths pieces))
  stands : At list at (pieces_bytes pieces)
  ends : next ≡ at + length (pieces_bytes pieces)

reads_found : (bases : ℕ) (flags : GroupFlags) (read place previous : ℕ) (lengths : List ℕ) {list : List ℕ} (at : ℕ) {pieces : List Piece}
    {next : ℕ} → AllBytes list → at ≤ length list → reads_at bases flags read place previous lengths list at ≡ found pieces next
    → ReadsFound bases flags place previous lengths list at pieces next
unfolding reads_at pieces_bytes flat_map group_slots reads_from
reads_found bases flags read place previous [] {list} at {pieces} {next} bytes h e =
    let same = found-same e in
    subst (λ (x : List Piece). ReadsFound bases flags place previous [] list at x next) same.0
    (record { counted = refl; meet = tt; stands = at-nil h; ends = omega (arith, same.1) })
reads_found bases flags read place previous (read_length ∷ lengths) {list} at {pieces} {next} bytes h e =
    let context : ReadContext = context_of bases flags place previous read_length in
    let ih : (p m : ℕ) (ps : List Piece) (o : ℕ) → m ≤ length list
    → reads_at bases flags (suc read) (suc place) p lengths list m ≡ found ps o
    → ReadsFound bases flags (suc place) p lengths list m ps o
    = λ p m ps o. reads_found bases flags (suc read) (suc place) p lengths m bytes in
    and_then-parts (refused_as (of_read read) (record_at context list at)) _ e (λ stored m e₁ e₂.
    let f : RecordFoundAt context list at stored m =
    record-found context list at bytes (found-refused_as (of_read read) (record_at context list at) e₁) in
    let p : ℕ = position_after context stored.fields in
    and_then-parts (reads_at bases flags (suc read) (suc place) p lengths list m) _ e₂ (λ ps o e₃ e₄.
    let more : ReadsFound bases flags (suc place) p lengths list m ps o = ih p m ps o (omega (arith, f.ends, f.stands.fits)) e₃ in
    let same = found-same e₄ in
    subst (λ (x : List Piece). ReadsFound bases flags place previous (read_length ∷ lengths) list at x next) same.0
    (record {
      counted = ap suc more.counted;
      meet = (record { bytes = refl; fits = f.fits; no_fault = f.none }, more.meet);
      stands = at_both (record_bytes context stored) (pieces_bytes ps) f.stands (rw f.ends at more.stands);
      ends = omega (arith, same.1, more.ends, f.ends, length-append (record_bytes context stored) (pieces_bytes ps));
    })))

pub record GroupFound (bases previous : ℕ) (lengths : List ℕ) (n_byte : ℕ) (list : List ℕ) (at : ℕ) (group : Group) (next : ℕ) : Type 0 where
  pub meets : GroupMeets lengths n_byte group
  pub reads : All ReadMeets (reads_from bases previous (group_slots group.flags 0 lengths group.pieces))
  pub stands : At list at (group_bytes group)
  pub ends : next ≡ at + length (group_bytes group)

pub group-found : (bases read previous : ℕ) (lengths : List ℕ) (n_byte : ℕ) {list : List ℕ} (at : ℕ) {group : Group} {next : ℕ} → AllBytes list
    → group_at bases read previous lengths n_byte list at ≡ found group next → GroupFound bases previous lengths n_byte list at group next
unfolding group_at group_faults with_n_byte_wrong group_bytes pieces_bytes flags_at any
group-found bases read previous lengths n_byte {list} at {group} {next} bytes e =
    let flags : GroupFlags = flags_at list at in
    let parts = checked-found (of_read read) _ _ e in
    let first : (ltb (length list) (at + 4) ≡ false)
    × (group_bit_stray (length lengths) flags || (not (eqb flags.with_n n_byte) || false) ≡ false) = or-neither _ _ parts.0 in
    let second : (group_bit_stray (length lengths) flags ≡ false) × (not (eqb flags.with_n n_byte) || false ≡ false) = or-neither _ _ first.1 in
    let third : (not (eqb flags.with_n n_byte) ≡ false) × (false ≡ false) = or-neither _ _ second.1 in
    let fits : at + 4 ≤ length list = ltb-false (length list) (at + 4) first.0 in
    and_then-parts (reads_at bases flags read 0 previous lengths list (at + 4)) _ parts.1 (λ pieces m e₁ e₂.
    let f : ReadsFound bases flags 0 previous lengths list (at + 4) pieces m = reads_found bases flags read 0 previous lengths (at + 4) bytes fits e₁ in
    let same = found-same e₂ in
    subst (λ (x : Group). GroupFound bases previous lengths n_byte list at x next) same.0
    (record {
      meets = record {
        reads = f.counted;
        no_stray_bit = second.0;
        with_n = eqb-true flags.with_n n_byte (not-false (eqb flags.with_n n_byte) third.0);
      };
      reads = f.meet;
      stands =
          at-cons _ refl (omega arith)
          (at-cons _ refl (omega arith)
          (at-to (at + 2) _ (omega arith) (at-cons _ refl (omega arith)
          (at-to (at + 3) _ (omega arith) (at-cons _ refl (omega arith)
          (at-to (at + 4) _ (omega arith) f.stands))))));
      ends = omega (arith, same.1, f.ends);
    }))

record GroupsFound (bases previous : ℕ) (lengths : List (List ℕ)) (n_section list : List ℕ) (at : ℕ) (division : Division) (next : ℕ) : Type 0 where
  meet : GroupsMeet lengths n_section division
  reads : All ReadMeets (reads_from bases previous (slots lengths division))
  stands : At list at (division_bytes division)
  ends : next ≡ at + length (division_bytes division)

groups-found : (bases read previous : ℕ) (lengths : List (List ℕ)) (n_section : List ℕ) {list : List ℕ} (at : ℕ) {division : Division} {next : ℕ}
    → AllBytes list → length n_section ≡ length lengths → at ≤ length list
    → groups_at bases read previous lengths n_section list at ≡ found division next
    → GroupsFound bases previous lengths n_section list at division next
unfolding groups_at division_bytes flat_map slots reads_from
groups-found bases read previous [] [] {list} at {division} {next} bytes n h e =
    let same = found-same e in
    subst (λ (x : Division). GroupsFound bases previous [] [] list at x next) same.0
    (record { meet = tt; reads = tt; stands = at-nil h; ends = omega (arith, same.1) })
groups-found bases read previous [] (n_byte ∷ n_section) at bytes n h e = absurd (omega arith)
groups-found bases read previous (ours ∷ lengths) [] at bytes n h e = absurd (omega arith)
groups-found bases read previous (ours ∷ lengths) (n_byte ∷ n_section) {list} at {division} {next} bytes n h e =
    let ih : (p m : ℕ) (gs : Division) (o : ℕ) → m ≤ length list
    → groups_at bases (read + length ours) p lengths n_section list m ≡ found gs o
    → GroupsFound bases p lengths n_section list m gs o
    = λ p m gs o. groups-found bases (read + length ours) p lengths n_section m bytes (omega arith) in
    and_then-parts (group_at bases read previous ours n_byte list at) _ e (λ group m e₁ e₂.
    let f : GroupFound bases previous ours n_byte list at group m = group-found bases read previous ours n_byte at bytes e₁ in
    let here : List Slot = group_slots group.flags 0 ours group.pieces in
    let p : ℕ = last_position bases previous here in
    and_then-parts (groups_at bases (read + length ours) p lengths n_section list m) _ e₂ (λ gs o e₃ e₄.
    let more : GroupsFound bases p lengths n_section list m gs o = ih p m gs o (omega (arith, f.ends, f.stands.fits)) e₃ in
    let same = found-same e₄ in
    subst (λ (x : Division). GroupsFound bases previous (ours ∷ lengths) (n_byte ∷ n_section) list at x next) same.0
    (record {
      meet = (f.meets, more.meet);
      reads =
          subst (λ (reads : List Read). All ReadMeets reads) (sym (reads_from-append bases previous here (slots lengths gs)))
          (all_append ReadMeets (reads_from bases previous here) _ f.reads more.reads);
      stands = at_both (group_bytes group) (division_bytes gs) f.stands (rw f.ends at more.stands);
      ends = omega (arith, same.1, more.ends, f.ends, length-append (group_bytes group) (division_bytes gs));
    })))

-- What the walk found divides the front of the section that it went over.
pub record FrontFound (bases : ℕ) (lengths n_section dna : List ℕ) (division : Division) (end : ℕ) : Type 0 where
  pub inside : end ≤ length dna
  pub divides : Divides bases lengths n_section (take end dna) division

pub walk-front : (bases : ℕ) (lengths n_section dna : List ℕ) (division : Division) (end : ℕ) → AllBytes dna
    → length n_section ≡ group_count (length lengths) → section_walk bases lengths n_section dna ≡ found division end
    → FrontFound bases lengths n_section dna division end
unfolding section_walk reads_of
walk-front bases lengths n_section dna division end bytes n e =
    let f : GroupsFound bases 0 (in_groups lengths) n_section dna 0 division end
    = groups-found bases 0 0 (in_groups lengths) n_section 0 bytes (n ∙ sym (length-in_groups lengths)) (omega arith) e in
    let inside : end ≤ length dna = omega (arith, f.ends, f.stands.fits) in
    record {
      inside = inside;
      divides = record {
        bytes =
            at_same (division_bytes division) (take end dna) (omega (arith, f.ends, length-take-le end dna inside)) f.stands
            (at_take dna end inside);
        groups = f.meet;
        records = f.reads;
      };
    }

-- A walk that leaves no byte of the section over found a division that meets the rules.
pub walk-divides : (bases : ℕ) (lengths n_section dna : List ℕ) (division : Division) (end : ℕ) → AllBytes dna
    → length n_section ≡ group_count (length lengths) → section_walk bases lengths n_section dna ≡ found division end → length dna ≤ end
    → Divides bases lengths n_section dna division
walk-divides bases lengths n_section dna division end bytes n e left =
    let f : FrontFound bases lengths n_section dna division end = walk-front bases lengths n_section dna division end bytes n e in
    subst (λ (front : List ℕ). Divides bases lengths n_section front division) (take_all end dna left) f.divides

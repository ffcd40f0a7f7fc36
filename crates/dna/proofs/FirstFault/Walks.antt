-- Where a walk over records and groups stops: what it found before meets the rules and stands there. Assumes nothing.
use mathlib.Core.Path.{◌≡◌, refl, sym, ap, ◌∙◌, subst}
use Prim.Native.Nat.{ℕ, suc, ◌+◌, ◌≤◌, ◌<◌}
use native.Mathlib.Omega.{arith}
use mathlib.Core.List.{List, [], ◌∷◌, ◌++◌, map, flat_map}
use lib.ListN.{length, get_or, take, length-append}
use Rattle.base.specs.Lists.{total, All, AllBytes}
use Rattle.base.specs.Place.{At}
use Rattle.base.specs.Answer.{refused, refused_as}
use Rattle.base.proofs.ListLaws.{all_append}
use Rattle.base.proofs.AtLaws.{at_both, at-nil, at-to}
use Rattle.base.proofs.AnswerLaws.{found-refused_as, absurd-refused, and_then_stops, refused_as_stops}
use Rattle.dna.specs.Record.{ReadContext, record_bytes}
use Rattle.dna.specs.Alignment.{position_after}
use Rattle.dna.specs.Division.{GroupFlags, Piece, Group, Division, Slot, Read, group_bytes}
use Rattle.dna.specs.Division.{division_bytes, context_of, group_slots, slots, reads_from}
use Rattle.dna.specs.Division.{ReadMeets, GroupsMeet}
use Rattle.dna.specs.RecordAt.{record_at}
use Rattle.dna.specs.Walk.{ReadRefusal, of_read, last_position, reads_at, group_at, groups_at}
use Rattle.dna.proofs.RecordSound.{RecordFoundAt, record-found}
use Rattle.dna.proofs.WalkLaws.{pieces_bytes, reads_from-append}
use Rattle.dna.proofs.WalkSound.{GroupFound, group-found}

-- The position after reads one after the other.
pub last_position-append : (bases previous : ℕ) (front back : List Slot)
    → last_position bases previous (front ++ back) ≡ last_position bases (last_position bases previous front) back
unfolding last_position
last_position-append bases previous [] back = refl
last_position-append bases previous (slot ∷ front) back =
    last_position-append bases
    (position_after (context_of bases slot.flags slot.place previous slot.read_length) slot.piece.stored.fields) front back

-- ---- The records of a group

-- The pieces before the record that is refused.
pub record ReadsStop (bases : ℕ) (flags : GroupFlags) (read place previous : ℕ) (lengths list : List ℕ) (at : ℕ) (refusal : ReadRefusal)
    : Type 0 where
  pub pieces : List Piece
  pub some : length pieces < length lengths
  pub meet : All ReadMeets (reads_from bases previous (group_slots flags place lengths pieces))
  pub stands : At list at (pieces_bytes pieces)
  pub index : refusal.read ≡ read + length pieces
  pub refuses : record_at
      (context_of bases flags (place + length pieces) (last_position bases previous (group_slots flags place lengths pieces))
      (get_or lengths (length pieces) 0))
      list (at + length (pieces_bytes pieces))
      ≡ refused refusal.number

pub reads_stop : (bases : ℕ) (flags : GroupFlags) (read place previous : ℕ) (lengths list : List ℕ) (at : ℕ) (refusal : ReadRefusal)
    → AllBytes list → at ≤ length list → reads_at bases flags read place previous lengths list at ≡ refused refusal
    → ReadsStop bases flags read place previous lengths list at refusal
unfolding reads_at pieces_bytes flat_map group_slots reads_from last_position
reads_stop bases flags read place previous [] list at refusal bytes h e = absurd-refused e
reads_stop bases flags read place previous (read_length ∷ lengths) list at refusal bytes h e =
    let context : ReadContext = context_of bases flags place previous read_length in
    let ih : (p m : ℕ) → m ≤ length list → reads_at bases flags (suc read) (suc place) p lengths list m ≡ refused refusal
    → ReadsStop bases flags (suc read) (suc place) p lengths list m refusal
    = λ p m. reads_stop bases flags (suc read) (suc place) p lengths list m refusal bytes in
    and_then_stops (refused_as (of_read read) (record_at context list at)) _ e
    (λ e₁. refused_as_stops (of_read read) (record_at context list at) e₁ (λ number e₂ is.
    let here : refusal.read ≡ read = ap (λ (r : ReadRefusal). r.read) is in
    let p₀ : place + 0 ≡ place = omega arith in
    let a₀ : at + 0 ≡ at = omega arith in
    record {
      pieces = [];
      some = omega arith;
      meet = tt;
      stands = at-nil h;
      index = omega arith;
      refuses =
          (λ t. record_at (context_of bases flags (p₀ t) previous read_length) list (a₀ t))
          ∙ e₂
          ∙ ap refused (sym (ap (λ (r : ReadRefusal). r.number) is));
    }))
    (λ stored m e₁ e₂.
    let f : RecordFoundAt context list at stored m =
    record-found context list at bytes (found-refused_as (of_read read) (record_at context list at) e₁) in
    let p : ℕ = position_after context stored.fields in
    and_then_stops (reads_at bases flags (suc read) (suc place) p lengths list m) _ e₂
    (λ e₃.
    let more : ReadsStop bases flags (suc read) (suc place) p lengths list m refusal = ih p m (omega (arith, f.ends, f.stands.fits)) e₃ in
    let own : List ℕ = record_bytes context stored in
    let rest : List ℕ = pieces_bytes more.pieces in
    let p₁ : place + suc (length more.pieces) ≡ suc place + length more.pieces = omega arith in
    let a₁ : at + length (own ++ rest) ≡ m + length rest = omega (arith, f.ends, length-append own rest) in
    record {
      pieces = record { bytes = own; stored = stored } ∷ more.pieces;
      some = omega (arith, more.some);
      meet = (record { bytes = refl; fits = f.fits; no_fault = f.none }, more.meet);
      stands = at_both own rest f.stands (at-to m (at + length own) f.ends more.stands);
      index = omega (arith, more.index);
      refuses =
          (λ t.
          record_at
          (context_of bases flags (p₁ t) (last_position bases p (group_slots flags (suc place) lengths more.pieces))
          (get_or lengths (length more.pieces) 0))
          list (a₁ t))
          ∙ more.refuses;
    })
    (λ ps o e₃ e₄. absurd-refused e₄))

-- ---- Groups

-- The groups before the one that is refused.
pub record GroupsStop (bases read previous : ℕ) (lengths : List (List ℕ)) (n_section list : List ℕ) (at : ℕ) (refusal : ReadRefusal)
    : Type 0 where
  pub groups : Division
  pub more : length groups < length lengths
  pub meet : GroupsMeet (take (length groups) lengths) (take (length groups) n_section) groups
  pub reads : All ReadMeets (reads_from bases previous (slots lengths groups))
  pub stands : At list at (division_bytes groups)
  pub refuses : group_at bases (read + total (map length (take (length groups) lengths)))
      (last_position bases previous (slots lengths groups)) (get_or lengths (length groups) []) (get_or n_section (length groups) 0) list
      (at + length (division_bytes groups))
      ≡ refused refusal

-- One group more in front.
group-before : (bases read previous : ℕ) (ours : List ℕ) (lengths : List (List ℕ)) (n_byte : ℕ) (n_section list : List ℕ) (at : ℕ)
    (refusal : ReadRefusal) (group : Group) (m : ℕ) → GroupFound bases previous ours n_byte list at group m
    → GroupsStop bases (read + length ours) (last_position bases previous (group_slots group.flags 0 ours group.pieces)) lengths
    n_section list m refusal
    → GroupsStop bases read previous (ours ∷ lengths) (n_byte ∷ n_section) list at refusal
unfolding division_bytes flat_map slots total
group-before bases read previous ours lengths n_byte n_section list at refusal group m f s =
    let here : List Slot = group_slots group.flags 0 ours group.pieces in
    let gs : Division = s.groups in
    let before : ℕ = total (map length (take (length gs) lengths)) in
    let r₁ : read + (length ours + before) ≡ read + length ours + before = omega arith in
    let a₁ : at + length (group_bytes group ++ division_bytes gs) ≡ m + length (division_bytes gs) =
    omega (arith, f.ends, length-append (group_bytes group) (division_bytes gs)) in
    record {
      groups = group ∷ gs;
      more = omega (arith, s.more);
      meet = (f.meets, s.meet);
      reads =
          subst (λ (reads : List Read). All ReadMeets reads) (sym (reads_from-append bases previous here (slots lengths gs)))
          (all_append ReadMeets (reads_from bases previous here) _ f.reads s.reads);
      stands = at_both (group_bytes group) (division_bytes gs) f.stands (at-to m (at + length (group_bytes group)) f.ends s.stands);
      refuses =
          (λ t.
          group_at bases (r₁ t) (last_position-append bases previous here (slots lengths gs) t) (get_or lengths (length gs) [])
          (get_or n_section (length gs) 0) list (a₁ t))
          ∙ s.refuses;
    }

pub groups_stop : (bases read previous : ℕ) (lengths : List (List ℕ)) (n_section list : List ℕ) (at : ℕ) (refusal : ReadRefusal)
    → AllBytes list → length n_section ≡ length lengths → at ≤ length list
    → groups_at bases read previous lengths n_section list at ≡ refused refusal
    → GroupsStop bases read previous lengths n_section list at refusal
unfolding groups_at division_bytes flat_map slots reads_from last_position total
groups_stop bases read previous [] n_section list at refusal bytes n h e = absurd-refused e
groups_stop bases read previous (ours ∷ lengths) [] list at refusal bytes n h e = absurd (omega arith)
groups_stop bases read previous (ours ∷ lengths) (n_byte ∷ n_section) list at refusal bytes n h e =
    let ih : (p m : ℕ) → m ≤ length list → groups_at bases (read + length ours) p lengths n_section list m ≡ refused refusal
    → GroupsStop bases (read + length ours) p lengths n_section list m refusal
    = λ p m. groups_stop bases (read + length ours) p lengths n_section list m refusal bytes (omega arith) in
    and_then_stops (group_at bases read previous ours n_byte list at) _ e
    (λ e₁.
    let r₀ : read + 0 ≡ read = omega arith in
    let a₀ : at + 0 ≡ at = omega arith in
    record {
      groups = [];
      more = omega arith;
      meet = tt;
      reads = tt;
      stands = at-nil h;
      refuses = (λ t. group_at bases (r₀ t) previous ours n_byte list (a₀ t)) ∙ e₁;
    })
    (λ group m e₁ e₂.
    let f : GroupFound bases previous ours n_byte list at group m = group-found bases read previous ours n_byte at bytes e₁ in
    and_then_stops (groups_at bases (read + length ours) _ lengths n_section list m) _ e₂
    (λ e₃.
    group-before bases read previous ours lengths n_byte n_section list at refusal group m f
    (ih _ m (omega (arith, f.ends, f.stands.fits)) e₃))
    (λ gs o e₃ e₄. absurd-refused e₄))

-- A refusal of the walk over a DNA section says the first fault: what stands before it meets the rules, what begins
-- there does not, and its number is the first that fits. Assumes nothing.
pub mod Cuts
pub mod NLists
pub mod Records
pub mod Walks
pub mod Fronts
use mathlib.Core.Path.{◌≡◌, refl, sym, ap, ◌∙◌, subst}
use Prim.Native.Nat.{ℕ, ◌+◌, ◌*◌, ◌≤◌, ◌<◌}
use native.Mathlib.Nat.{zero-add}
use native.Mathlib.Omega.{arith}
use mathlib.Core.Bool.{false}
use mathlib.Core.Logic.{inl, inr}
use mathlib.Core.List.{List, [], ◌∷◌, ◌++◌, map}
use lib.ListN.{length, get_or, take, length-append}
use lib.Dec.{eqb}
use borrow.Author.Tests.{ltb-false, eqb-true, le-ltb, eq-eqb}
use Rattle.base.specs.Lists.{any, total, All, AllBytes}
use Rattle.base.specs.Groups.{group_count, in_groups}
use Rattle.base.specs.Place.{At}
use Rattle.base.specs.Faults.{Fault, fault, NoneFits}
use Rattle.base.specs.Answer.{first_number, refused}
use Rattle.base.proofs.ListLaws.{all_append}
use Rattle.base.proofs.AtLaws.{at_both, at-to}
use Rattle.base.proofs.GroupLaws.{length-in_groups}
use Rattle.base.proofs.AnswerLaws.{refuses-with, absurd-refused, numbered, some-none, checked_stops}
use Rattle.base.proofs.AnswerLaws.{and_then_stops}
use Rattle.base.proofs.Tests.{neither_or, not-false, true_not, any_none}
use Rattle.dna.specs.Division.{GroupFlags, flags_at, Group, Division, Slot, Read, group_bytes}
use Rattle.dna.specs.Division.{division_bytes, context_of, group_slots, slots, reads_from}
use Rattle.dna.specs.Division.{reads_of, ReadMeets, group_bit_stray, with_n_byte_wrong, GroupMeets}
use Rattle.dna.specs.RecordAt.{record_at}
use Rattle.dna.specs.Walk.{ReadRefusal, of_read, last_position, reads_at, group_faults, group_at}
use Rattle.dna.specs.Walk.{section_walk}
use Rattle.dna.specs.FirstFault.{group_lengths, GroupsBefore, next_context, faults_of_group}
use Rattle.dna.specs.FirstFault.{GroupRefused, RecordRefused, DnaRefused}
use Rattle.dna.proofs.WalkLaws.{pieces_bytes, reads_from-append}
use Rattle.dna.proofs.WalkComplete.{flags-read}
use Rattle.dna.proofs.WalkNumbers.{OwnAt, walk-own}
use Records.{record-number, no_record}
use Walks.{last_position-append, ReadsStop, reads_stop, GroupsStop, groups_stop}
use Fronts.{at-begins, group-stands, length-group, bytes-snoc, slots-snoc, reads_before}

-- The groups before a refusal, and what is known of the next one.
module _ (bases : ℕ) (lengths n_section dna : List ℕ) (refusal : ReadRefusal) (groups : Division) where
  abbrev ours : List ℕ
  ours = group_lengths lengths (length groups)

  abbrev n_byte : ℕ
  n_byte = get_or n_section (length groups) 0

  abbrev place : ℕ
  place = length (division_bytes groups)

  abbrev before : List Slot
  before = slots (in_groups lengths) groups

  abbrev faults : List Fault
  faults = faults_of_group (length ours) n_byte dna place

  -- They meet the rules, and the next one is refused.
  record Stopped : Type 0 where
    more : length groups < length (in_groups lengths)
    meet : GroupsBefore bases lengths n_section dna groups
    stands : At dna 0 (division_bytes groups)
    inside : refusal.read < length lengths
    refuses : group_at bases (8 * length groups) (last_position bases 0 before) ours n_byte dna place ≡ refused refusal

  numbers : All (λ f. 0 < f.number) faults
  unfolding any
  numbers = numbered faults refl

  -- A group that stands there and meets the rules has none of the three faults.
  group_faultless : (group : Group) → GroupMeets ours n_byte group → At dna place (group_bytes group) → NoneFits faults
  unfolding any with_n_byte_wrong
  group_faultless group meets a =
      let is : flags_at dna place ≡ group.flags = flags-read group a in
      let byte : (flags_at dna place).with_n ≡ n_byte = ap (λ (f : GroupFlags). f.with_n) is ∙ meets.with_n in
      neither_or _ _ (le-ltb (length dna) (place + 4) (omega (arith, a.fits, length-group group)))
      (neither_or _ _ (ap (group_bit_stray (length ours)) is ∙ meets.no_stray_bit)
      (neither_or _ _ (true_not (eqb (flags_at dna place).with_n n_byte) (eq-eqb (flags_at dna place).with_n n_byte byte)) refl))

  -- A refusal for a group's bytes.
  group_refused : Stopped → 0 < first_number faults → refusal ≡ of_read (8 * length groups) (first_number faults)
      → GroupRefused bases lengths n_section dna refusal.number refusal.read
  group_refused s some is =
      record {
        groups = groups;
        before = s.meet;
        index = ap (λ (r : ReadRefusal). r.read) is;
        inside = s.inside;
        first = ap (λ (r : ReadRefusal). r.number) is;
        none = λ group meets a. some-none faults numbers some (group_faultless group meets a);
      }

  -- A refusal for a record.
  record_refused : AllBytes dna → Stopped → NoneFits faults
      → ReadsStop bases (flags_at dna place) (8 * length groups) 0 (last_position bases 0 before) ours dna (place + 4) refusal
      → RecordRefused bases lengths n_section dna refusal.number refusal.read
  unfolding reads_of next_context with_n_byte_wrong
  record_refused bytes s none r =
      let flags : GroupFlags = flags_at dna place in
      let last : Group = record { flags = flags; pieces = r.pieces } in
      let here : List Slot = group_slots flags 0 ours r.pieces in
      let no : (k : ℕ) → k < 3 → (get_or faults k (fault 0 false)).fits ≡ false = λ k h. any_none (λ f. f.fits) faults none k (fault 0 false) h in
      let fits : place + 4 ≤ length dna = ltb-false (length dna) (place + 4) (no 0 (omega arith)) in
      let all : slots (in_groups lengths) (groups ++ (last ∷ [])) ≡ before ++ here = slots-snoc (in_groups lengths) groups last s.more in
      let zero : 0 + length r.pieces ≡ length r.pieces = omega arith in
      let end : length (division_bytes (groups ++ (last ∷ []))) ≡ place + 4 + length (pieces_bytes r.pieces) =
      omega (arith, ap length (bytes-snoc groups last), length-append (division_bytes groups) (group_bytes last), length-group last) in
      let position : last_position bases 0 (slots (in_groups lengths) (groups ++ (last ∷ []))) ≡ last_position bases (last_position bases 0 before) here =
      ap (last_position bases 0) all ∙ last_position-append bases 0 before here in
      let refuses : record_at (next_context bases lengths groups last) dna (length (division_bytes (groups ++ (last ∷ [])))) ≡ refused refusal.number =
      (λ t. record_at (context_of bases flags (sym zero t) (position t) (get_or ours (length r.pieces) 0)) dna (end t)) ∙ r.refuses in
      record {
        groups = groups;
        last = last;
        before = record {
          begin =
              at-begins (division_bytes (groups ++ (last ∷ [])))
              (subst (λ (part : List ℕ). At dna 0 part) (sym (bytes-snoc groups last))
              (at_both (division_bytes groups) (group_bytes last) s.stands
              (at-to place (0 + place) (omega arith) (group-stands place r.pieces fits r.stands))));
          meet = s.meet.meet;
          records =
              subst (λ (reads : List Read). All ReadMeets reads)
              (sym (ap (reads_from bases 0) all ∙ reads_from-append bases 0 before here))
              (all_append ReadMeets (reads_from bases 0 before) _ s.meet.records r.meet);
          some = r.some;
          no_stray_bit = no 1 (omega arith);
          with_n = eqb-true flags.with_n n_byte (not-false (eqb flags.with_n n_byte) (no 2 (omega arith)));
        };
        index = r.index;
        inside = s.inside;
        first = record-number (next_context bases lengths groups last) dna _ refusal.number bytes refuses;
        none = no_record (next_context bases lengths groups last) dna _ refusal.number refuses;
      }

  -- The next group is refused for its bytes or for one of its records.
  refused_so : AllBytes dna → Stopped → DnaRefused bases lengths n_section dna refusal.number refusal.read
  unfolding group_at group_faults
  refused_so bytes s =
      checked_stops (of_read (8 * length groups)) faults _ numbers s.refuses (λ some is. inl (group_refused s some is))
      (λ none e. and_then_stops (reads_at bases (flags_at dna place) (8 * length groups) 0 (last_position bases 0 before) ours dna (place + 4)) _ e
      (λ e₁.
      let fits : place + 4 ≤ length dna =
      ltb-false (length dna) (place + 4) (any_none (λ f. f.fits) faults none 0 (fault 0 false) (omega arith)) in
      inr (record_refused bytes s none
      (reads_stop bases (flags_at dna place) (8 * length groups) 0 (last_position bases 0 before) ours dna (place + 4) refusal bytes fits e₁)))
      (λ pieces end e₁ e₂. absurd-refused e₂))

-- What the walk over a DNA section answers where it refuses: the number of the first fault and its read.
pub first-fault : (bases : ℕ) (lengths n_section dna : List ℕ) (refusal : ReadRefusal) → AllBytes dna
    → length n_section ≡ group_count (length lengths)
    → section_walk bases lengths n_section dna ≡ refused refusal
    → DnaRefused bases lengths n_section dna refusal.number refusal.read
unfolding section_walk reads_of
first-fault bases lengths n_section dna refusal bytes n e =
    let own : OwnAt 0 (length lengths) refusal = refuses-with (OwnAt 0 (length lengths)) e (walk-own bases lengths n_section dna) in
    let s : GroupsStop bases 0 0 (in_groups lengths) n_section dna 0 refusal
    = groups_stop bases 0 0 (in_groups lengths) n_section dna 0 refusal bytes (n ∙ sym (length-in_groups lengths)) (omega arith) e in
    let g : Division = s.groups in
    let read : 8 * length g ≡ 0 + total (map length (take (length g) (in_groups lengths)))
    = sym (reads_before lengths (length g) s.more) ∙ sym (zero-add _) in
    refused_so bases lengths n_section dna refusal g bytes
    (record {
      more = s.more;
      meet = record { begin = at-begins (division_bytes g) s.stands; meet = s.meet; records = s.reads };
      stands = s.stands;
      inside = omega (arith, own.below);
      refuses =
          (λ t.
          group_at bases (read t) (last_position bases 0 (slots (in_groups lengths) g)) (group_lengths lengths (length g))
          (get_or n_section (length g) 0) dna (sym (zero-add (length (division_bytes g))) t))
          ∙ s.refuses;
    })

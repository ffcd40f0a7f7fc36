-- Letters and counts of two records that lie alike. Assumes nothing.
use mathlib.Core.Path.{◌≡◌, refl, sym, ap, ◌∙◌, subst}
use Prim.Native.Nat.{ℕ, ◌+◌, ◌-◌}
use native.Mathlib.Nat.{zero-add}
use mathlib.Core.Bool.{Bool, true, false, cond, not, ◌&&◌}
use mathlib.Core.List.{List, map}
use lib.ListN.{length, get_or}
use lib.Dec.{ltb, eqb}
use Rattle.base.specs.Lists.{build, member, index_of, places_from, count_true}
use Rattle.base.proofs.ListLaws.{build_cong}
use Rattle.dna.specs.Reference.{strand_base, stretch_index, letter_of_code}
use Rattle.dna.specs.Record.{ReadContext, Entry, RecordFields, perfect, global, local, raw, raw4}
use Rattle.dna.specs.Record.{StoredRecord}
use Rattle.dna.specs.Alignment.{is_aligned, field_of, entries_of, left_of, right_of, aligned_length}
use Rattle.dna.specs.Alignment.{position, is_local, runs_down, leftmost, reference_index, entry_places}
use Rattle.dna.specs.Alignment.{n_positions}
use Rattle.dna.specs.Letters.{Cause, n_list, raw_code, clipped_code, entry_code, reference_code}
use Rattle.dna.specs.Letters.{aligned_cause, fields_cause, cause_at, packed_codes, code_of}
use Rattle.dna.specs.Letters.{record_letters}
use Rattle.dna.specs.Rules.{Steps}
use Rattle.dna.specs.Counts.{is_filler, is_under_n, is_difference, record_counts}
use Rattle.records.specs.Decoded.{strand_of, record_of}
use Rattle.record_letters.specs.Laid.{is_forward, forward_in, context_in}
use Rattle.record_letters.proofs.Ranges.{placed_fields}

-- What letters and counts use of a read and its fields is the same.
pub record Alike (context other : ReadContext) (fields laid : RecordFields) : Type 0 where
  pub long : other.read_length ≡ context.read_length
  pub forward : other.forward ≡ context.forward
  pub aligned : is_aligned laid ≡ is_aligned fields
  pub place : position other laid ≡ position context fields
  pub down : runs_down other laid ≡ runs_down context fields
  pub entries : entries_of laid ≡ entries_of fields
  pub left : left_of laid ≡ left_of fields
  pub right : right_of laid ≡ right_of fields
  pub packed : packed_codes laid ≡ packed_codes fields

-- A letter's cause, from what it uses.
abbrev cause_from : (aligned forward : Bool) (lowest left size : ℕ) (places : List ℕ) (i : ℕ) → Cause
cause_from aligned forward lowest left size places i =
    cond aligned
    (cond (ltb i left) (clipped_code i)
    (cond (ltb i (left + size))
    (cond (member (i - left) places)
    (entry_code (index_of (i - left) places) (stretch_index forward lowest size (i - left)) forward)
    (reference_code (stretch_index forward lowest size (i - left)) forward))
    (clipped_code (i - size))))
    (raw_code i)

-- Whether an entry is a difference, from what that uses.
abbrev difference_from : (reference : List ℕ) (forward : Bool) (lowest left size : ℕ)
    (entries : List Entry) (offsets : List ℕ) (number : ℕ) → Bool
difference_from reference forward lowest left size entries offsets number =
    let place : ℕ = get_or (places_from 0 (map (λ entry. entry.offset) entries)) number 0 in
    not
    (eqb (get_or (map (λ entry. entry.code) entries) number 0)
    (strand_base reference forward (stretch_index forward lowest size place)))
    && not (member (left + place) (places_from 0 offsets))

module _ {context other : ReadContext} {fields laid : RecordFields}
    (alike : Alike context other fields laid) where
  pub aligned_alike : aligned_length other laid ≡ aligned_length context fields
  unfolding aligned_length
  aligned_alike = λ t. alike.long t - (alike.left t + alike.right t)

  pub lowest_alike : leftmost other laid ≡ leftmost context fields
  unfolding leftmost
  lowest_alike = λ t. cond (alike.down t) (alike.place t + 1 - aligned_alike t) (alike.place t)

  pub steps_alike :
      Steps (aligned_length context fields) 0 0 (map (λ entry. entry.offset) (entries_of fields))
      → Steps (aligned_length other laid) 0 0 (map (λ entry. entry.offset) (entries_of laid))
  steps_alike steps =
      subst (λ (n : ℕ). Steps n 0 0 (map (λ entry. entry.offset) (entries_of laid)))
      (sym aligned_alike)
      (subst
      (λ (entries : List Entry).
      Steps (aligned_length context fields) 0 0 (map (λ entry. entry.offset) entries))
      (sym alike.entries) steps)

  cause_alike : (i : ℕ) → fields_cause other laid i ≡ fields_cause context fields i
  unfolding fields_cause aligned_cause reference_index entry_places
  cause_alike i = λ t.
      cause_from (alike.aligned t) (alike.forward t) (lowest_alike t) (alike.left t)
      (aligned_alike t) (places_from 0 (map (λ entry. entry.offset) (alike.entries t))) i

  code_alike : (reference : List ℕ) (cause : Cause)
      → code_of reference laid cause ≡ code_of reference fields cause
  unfolding code_of
  code_alike reference n_list = refl
  code_alike reference (raw_code index) =
      ap (λ (codes : List ℕ). get_or codes index 0) alike.packed
  code_alike reference (clipped_code index) =
      ap (λ (codes : List ℕ). get_or codes index 0) alike.packed
  code_alike reference (entry_code number index forward) =
      ap (λ (entries : List Entry). get_or (map (λ entry. entry.code) entries) number 0)
      alike.entries
  code_alike reference (reference_code index forward) = refl

  module _ (reference offsets : List ℕ) where
    abbrev these : StoredRecord
    these = record { fields = fields; n_offsets = offsets }

    abbrev those : StoredRecord
    those = record { fields = laid; n_offsets = offsets }

    pub letters_alike : record_letters reference other those ≡ record_letters reference context these
    unfolding record_letters cause_at
    letters_alike =
        let letter : ReadContext → StoredRecord → ℕ → ℕ = λ c s i.
        letter_of_code (code_of reference s.fields (cause_at c s i)) in
        ap (λ (n : ℕ). build n (letter other those)) alike.long
        ∙ build_cong context.read_length (letter other those) (letter context these) (λ i h.
        ap letter_of_code
        (code_alike reference (cause_at other those i)
        ∙ ap (λ (cause : Cause). code_of reference fields
        (cond (member i (n_positions offsets)) n_list cause)) (cause_alike i)))

    pub entries_alike : (record_counts reference other those).entries
        ≡ (record_counts reference context these).entries
    unfolding record_counts
    entries_alike = ap length alike.entries

    pub differences_alike : (record_counts reference other those).differences
        ≡ (record_counts reference context these).differences
    unfolding record_counts is_difference is_filler is_under_n reference_index entry_places n_positions
    differences_alike = λ t.
        count_true
        (build (length (alike.entries t))
        (difference_from reference (alike.forward t) (lowest_alike t) (alike.left t)
        (aligned_alike t) (alike.entries t) offsets))

-- ---- With the position for the field

forward-strand : (forward : Bool) → is_forward (strand_of forward) ≡ forward
unfolding is_forward strand_of
forward-strand true = refl
forward-strand false = refl

pub placed_alike : (context : ReadContext) (bases : ℕ) (fields : RecordFields)
    → (is_aligned fields ≡ false → (context.forward ≡ false) × (context.incremental ≡ false))
    → Alike context (context_in bases context.read_length (record_of context fields)) fields
    (placed_fields context fields)
unfolding placed_fields record_of forward_in is_aligned entries_of left_of right_of packed_codes is_local
    runs_down position field_of
placed_alike context bases (perfect field) raws =
    record {
      long = refl;
      forward = forward-strand context.forward;
      aligned = refl;
      place = zero-add _;
      down = refl;
      entries = refl;
      left = refl;
      right = refl;
      packed = refl;
    }
placed_alike context bases (global field entries) raws =
    record {
      long = refl;
      forward = forward-strand context.forward;
      aligned = refl;
      place = zero-add _;
      down = refl;
      entries = refl;
      left = refl;
      right = refl;
      packed = refl;
    }
placed_alike context bases (local field entries left right clipped) raws =
    record {
      long = refl;
      forward = forward-strand context.forward;
      aligned = refl;
      place = zero-add _;
      down = ap not (forward-strand context.forward);
      entries = refl;
      left = refl;
      right = refl;
      packed = refl;
    }
placed_alike context bases (raw letters) raws =
    record {
      long = refl;
      forward = sym (raws refl).0;
      aligned = refl;
      down = refl;
      place = sym (ap (λ (t : Bool). cond t context.previous_position 0 + 0) (raws refl).1);
      entries = refl;
      left = refl;
      right = refl;
      packed = refl;
    }
placed_alike context bases (raw4 letters) raws =
    record {
      long = refl;
      forward = sym (raws refl).0;
      aligned = refl;
      down = refl;
      place = sym (ap (λ (t : Bool). cond t context.previous_position 0 + 0) (raws refl).1);
      entries = refl;
      left = refl;
      right = refl;
      packed = refl;
    }

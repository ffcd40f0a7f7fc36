-- A record that the fixed rule writes meets the rules, and its letters are the read's. Assumes nothing.
use mathlib.Core.Path.{◌≡◌, refl, sym, ap, ◌∙◌, subst}
use Prim.Native.Nat.{ℕ, zero, suc, ◌+◌, ◌-◌, ◌*◌, ◌^◌, ◌≤◌, ◌<◌}
use native.Mathlib.Omega.{arith}
use mathlib.Core.Bool.{Bool, true, false, not, ◌||◌}
use mathlib.Core.List.{List, [], ◌∷◌, ◌++◌, map}
use lib.ListN.{length, get_or, take, drop, replicate, length-append, length-map, length-replicate}
use lib.ListN.{get_or-replicate, length-take, length-drop, get_or-map, get_or-eq_default}
use lib.Seq.{length-take-le, get_or-take, get_or-drop}
use lib.Dec.{leb, ltb, eqb}
use borrow.Author.Tests.{ltb-true, ltb-false, leb-true, eqb-false}
use Rattle.base.specs.Lists.{build, part, any, member, keep, places_where, places_from, steps_from}
use Rattle.base.specs.Lists.{Below, All}
use Rattle.base.specs.Packed.{packed_length}
use Rattle.base.specs.Faults.{NoneFits}
use Rattle.base.proofs.ListLaws.{by_order, by_test, below_at, below-nil, below-cons, below-append}
use Rattle.base.proofs.ListLaws.{below-take, below-drop}
use Rattle.base.proofs.BitLaws.{any-build, build-any}
use Rattle.base.proofs.Tests.{any_none}
use Rattle.base.proofs.PackedLaws.{packed_length-holds}
use Rattle.base.proofs.PlacesWhereLaws.{Rise, rise_weaken, places_rise, any-places, places-any}
use Rattle.base.proofs.PlacesWhereLaws.{all_keep}
use Rattle.base.proofs.StepsLaws.{length-steps_from}
use Rattle.base.proofs.Tests.{absurd_test, and_both, neither_or, not-true}
use Rattle.dna.specs.Reference.{letter_of_code}
use Rattle.dna.specs.Record.{ReadContext, Entry, EntryFits, PackedFits, RecordFields, field_width}
use Rattle.dna.specs.Record.{has_n_list, FieldsFit, NListFits, RecordFits}
use Rattle.dna.specs.Alignment.{is_aligned, entries_of, aligned_length, n_positions}
use Rattle.dna.specs.RecordFaults.{raw4_codes, padding_of, record_faults}
use Rattle.dna.specs.Letters.{fields_cause, cause_at, packed_codes, code_of, record_letters}
use Rattle.dna.proofs.ReferenceLaws.{strand_base-below}
use Rattle.dna.specs.Rules.{Steps, CountHolds, ClipsHold, Raw4BitHolds, NListHolds}
use Rattle.dna.proofs.RulesMean.{rules_mean}
use Rattle.format.specs.RuleEntries.{differs_at, gaps_of}
use Rattle.format.specs.RuleRecord.{Candidate, n_offsets_of, padded, without_n, aligned_count}
use Rattle.format.specs.RuleRecord.{expected_at, candidate_gaps, candidate_entries, clipped_codes}
use Rattle.format.specs.RuleRecord.{place_used, stored_position, step_fits, field_for}
use Rattle.format.specs.RuleRecord.{aligned_fields, is_perfect, choose_raw4, choose_aligned}
use Rattle.format.specs.RuleRecord.{choose_raw, choice_for, Written, written_as, written}
use Rattle.format.proofs.WrittenEntries.{steps-entries, entries_fit}
use Rattle.format.proofs.WrittenLetters.{AtPlace, at_place, Before, aligned_is, span_is}
use Rattle.format.proofs.WrittenLetters.{fields_letter, letters-by-code, with_n-list}
use Rattle.format.proofs.WrittenLetters.{length_aligned, without-kept}

-- ---- The N list

steps-places : (bound least start : ℕ) (places : List ℕ) → least ≤ 1 → Rise (start + least) bound places
    → Steps bound least start (steps_from start places)
unfolding steps_from
steps-places bound least start [] small r = tt
steps-places bound least start (place ∷ places) small r =
    let back : start + (place - start) ≡ place = omega (arith, r.0) in (
      omega (arith, r.0),
      omega (arith, r.1),
      subst (λ (p : ℕ). Steps bound 1 p (steps_from place places)) (sym back)
          (steps-places bound 1 place places (omega arith) (rise_weaken (suc place) (place + 1) bound places (omega arith) r.2)),
    )

is_n : (codes : List ℕ) (k : ℕ) → Bool
is_n codes k = eqb (get_or codes k 0) 4

n-steps : (codes : List ℕ) → Steps (length codes) 0 0 (n_offsets_of codes)
unfolding n_offsets_of
n-steps codes =
    steps-places (length codes) 0 0 (places_where (λ k. eqb (get_or codes k 0) 4) (length codes)) (omega arith)
    (places_rise (λ k. eqb (get_or codes k 0) 4) (length codes))

none_any : {A : Type 0} (test : A → Bool) (list : List A) (d : A) → ((k : ℕ) → k < length list → test (get_or list k d) ≡ false) → any test list ≡ false
unfolding any
none_any test [] d h = refl
none_any test (x ∷ xs) d h = neither_or _ _ (h 0 (omega arith)) (none_any test xs d (λ k l. h (suc k) (omega arith)))

-- Without an N there are no offsets.
pub n-none : (codes : List ℕ) → member 4 codes ≡ false → n_offsets_of codes ≡ []
unfolding n_offsets_of member places_where steps_from
n-none codes e =
    ap (steps_from 0)
    (places-any (λ k. eqb (get_or codes k 0) 4) (build (length codes) (λ k. k))
    (build-any (λ k. eqb (get_or codes k 0) 4) (length codes) (λ k. k) (λ k h. any_none (λ y. eqb y 4) codes e k 0 h)))

no-list : (list : List ℕ) → length list ≤ 0 → length list ≡ 0
no-list list h = omega arith

-- With an N there is one.
pub n-some : (codes : List ℕ) → member 4 codes ≡ true → 1 ≤ length (n_offsets_of codes)
unfolding n_offsets_of member places_where
n-some codes e =
    let test : ℕ → Bool = λ k. eqb (get_or codes k 0) 4 in
    let places : List ℕ = places_where test (length codes) in
    by_order 0 (length (n_offsets_of codes)) (λ h. h)
    (λ none.
    let zero' : length (keep test (build (length codes) (λ k. k))) ≡ 0 = omega (arith, length-steps_from 0 places) in
    let clear : any test (build (length codes) (λ k. k)) ≡ false = any-places test (build (length codes) (λ k. k)) zero' in
    absurd_test
    (sym e ∙ none_any (λ y. eqb y 4) codes 0 (λ k h. any-build test (length codes) (λ k. k) clear k h)))

n-fits : (codes : List ℕ) → length (n_offsets_of codes) ≤ 31 → (t : Bool) → member 4 codes ≡ t → NListFits t (n_offsets_of codes)
n-fits codes few true e = omega arith
n-fits codes few false e = n-none codes e

n-holds : (codes : List ℕ) → length (n_offsets_of codes) ≤ 31 → member 4 codes ≡ true → NListHolds (length codes) (n_offsets_of codes)
n-holds codes few e = record { some = n-some codes e; most = few; steps = n-steps codes }

-- ---- Packed codes

length-zeros : (n : ℕ) → length (replicate n zero) ≡ n
length-zeros n = length-replicate n zero

zeros-below : (n : ℕ) (bound : ℕ) → 0 < bound → Below bound (replicate n 0)
zeros-below n bound some =
    record {
      each = λ k h. subst (λ (x : ℕ). x < bound) (sym (get_or-replicate n k 0 0 (omega (arith, length-zeros n)))) some;
    }

padded-fits : (base per : ℕ) (codes : List ℕ) → 0 < base → 0 < per → Below base codes → PackedFits base per (length codes) (padded per codes)
unfolding padded
padded-fits base per codes some_base some_per below =
    let n : ℕ = length codes in
    let holds : n ≤ packed_length per n * per = packed_length-holds per n some_per in
    record {
      codes = below;
      padding = zeros-below (packed_length per n * per - n) base some_base;
      counted = refl;
      filled = omega (arith, length-zeros (packed_length per n * per - n));
    }

without-below : (codes : List ℕ) → Below 5 codes → Below 4 (map without_n codes)
unfolding without_n
without-below [] h = below-nil 4
without-below (x ∷ xs) h =
    below-cons (without_n x) (map without_n xs)
    (by_test (eqb x 4) (λ t. rw t (omega arith)) (λ t. rw t (omega (arith, eqb-false x 4 t, h.each 0 (omega arith)))))
    (without-below xs (record { each = λ k l. h.each (suc k) (omega arith) }))

wider : {low high : ℕ} (list : List ℕ) → low ≤ high → Below low list → Below high list
wider list h b = record { each = λ k l. omega (arith, b.each k l) }

-- ---- Records

-- A record meets the rules under what is known before it.
pub record Meets (reference codes : List ℕ) (w : Written) : Type 0 where
  pub fits : RecordFits w.context w.stored
  pub none : NoneFits (record_faults w.context w.stored)
  pub letters : record_letters reference w.context w.stored ≡ map letter_of_code codes
  pub read_length : w.context.read_length ≡ length codes

raw4-meets : (bases : ℕ) (reference : List ℕ) (previous : ℕ) (codes : List ℕ) (candidate : Candidate) → Below 5 codes
    → Meets reference codes (written_as choose_raw4 bases reference previous codes candidate)
unfolding written_as has_n_list is_aligned entries_of raw4_codes padding_of cause_at fields_cause code_of packed_codes padded member any n_positions places_from
raw4-meets bases reference previous codes candidate below =
    let w : Written = written_as choose_raw4 bases reference previous codes candidate in
    record {
      fits = record {
        fields = record { kind = refl; letters_fit = padded-fits 16 2 codes (omega arith) (omega arith) (wider codes (omega arith) below) };
        n_list = refl;
      };
      none =
          (rules_mean w.context w.stored).1
          (record {
            count = tt;
            raw_bits = λ e. (refl, refl);
            clips = tt;
            inside = λ e. absurd_test (sym e);
            entries = tt;
            codes = below;
            padding = zeros-below (packed_length 2 (length codes) * 2 - length codes) 1 (omega arith);
            raw4_bit = refl;
            n_list = λ e. absurd_test (sym e);
          });
      letters = letters-by-code reference codes w.context w.stored refl (λ i h. refl);
      read_length = refl;
    }

raw-meets : (bases : ℕ) (reference : List ℕ) (previous : ℕ) (codes : List ℕ) (candidate : Candidate) → Below 5 codes
    → length (n_offsets_of codes) ≤ 31 → Meets reference codes (written_as choose_raw bases reference previous codes candidate)
unfolding written_as has_n_list is_aligned entries_of raw4_codes padding_of fields_cause code_of packed_codes padded without_n
raw-meets bases reference previous codes candidate below few =
    let w : Written = written_as choose_raw bases reference previous codes candidate in
    let plain : List ℕ = map without_n codes in
    let size : length plain ≡ length codes = length-map codes without_n in
    record {
      fits = record {
        fields = record {
          kind = refl;
          letters_fit =
              subst (λ (n : ℕ). PackedFits 4 4 n (padded 4 plain)) size
              (padded-fits 4 4 plain (omega arith) (omega arith) (without-below codes below));
        };
        n_list = n-fits codes few (member 4 codes) refl;
      };
      none =
          (rules_mean w.context w.stored).1
          (record {
            count = tt;
            raw_bits = λ e. (refl, refl);
            clips = tt;
            inside = λ e. absurd_test (sym e);
            entries = tt;
            codes = below-nil 5;
            padding = zeros-below (packed_length 4 (length plain) * 4 - length plain) 1 (omega arith);
            raw4_bit = tt;
            n_list = λ e. n-holds codes few e;
          });
      letters =
          letters-by-code reference codes w.context w.stored refl
          (with_n-list reference codes w.context w.stored.fields
          (λ i h plain'. get_or-map without_n codes i 0 ∙ without-kept (get_or codes i 0) plain'));
      read_length = refl;
    }

-- ---- A record at a place that is used

-- What it means that the place is used.
pub record Used (bases : ℕ) (reference codes : List ℕ) (candidate : Candidate) : Type 0 where
  pub clips : candidate.left + candidate.right < length codes
  pub inside : candidate.position + aligned_count codes candidate ≤ bases
  pub few : length (candidate_entries reference codes candidate) ≤ 31

pub used : (bases : ℕ) (reference codes : List ℕ) (candidate : Candidate) → place_used bases reference codes candidate ≡ true
    → Used bases reference codes candidate
unfolding place_used
used bases reference codes candidate e =
    let strand = and_both (eqb candidate.strand 1 || eqb candidate.strand 2) _ e in
    let clips = and_both (ltb (candidate.left + candidate.right) (length codes)) _ strand.1 in
    let inside = and_both (leb (candidate.position + aligned_count codes candidate) bases) _ clips.1 in
    record {
      clips = ltb-true (candidate.left + candidate.right) (length codes) clips.0;
      inside = leb-true (candidate.position + aligned_count codes candidate) bases inside.0;
      few = leb-true (length (candidate_entries reference codes candidate)) 31 inside.1;
    }

-- The position that is stored for a stretch inside is an index of the reference.
pub stored-inside : (bases : ℕ) (codes : List ℕ) (candidate : Candidate) → candidate.left + candidate.right < length codes
    → candidate.position + aligned_count codes candidate ≤ bases → stored_position codes candidate < bases
unfolding stored_position aligned_count
stored-inside bases codes candidate clips inside =
    by_test (eqb (candidate.left + candidate.right) 0 || eqb candidate.strand 1)
    (λ t. rw t (omega arith))
    (λ t. rw t (omega arith))

-- What a candidate's buffers of bytes can hold.
pub record CandidateFits (candidate : Candidate) : Type 0 where
  pub left : candidate.left < 256
  pub right : candidate.right < 256

below-part : {bound : ℕ} (list : List ℕ) (from count : ℕ) → 0 < bound → Below bound list → (k : ℕ) → get_or (part list from count) k 0 < bound
below-part {bound} list from count some below k =
    by_order k count
    (λ l.
    subst (λ (x : ℕ). x < bound) (sym (get_or-take count (drop from list) k 0 l ∙ get_or-drop from list k 0)) (below_at list some below (from + k)))
    (λ g.
    subst (λ (x : ℕ). x < bound)
    (sym (get_or-eq_default (part list from count) 0 (omega (arith, length-take count (drop from list))))) some)

module _ (bases : ℕ) (reference : List ℕ) (previous : ℕ) (codes : List ℕ) (candidate : Candidate) (below : Below 5 codes)
    (u : Used bases reference codes candidate) where
  expected_below : (k : ℕ) → expected_at reference codes candidate k < 4
  unfolding expected_at
  expected_below k = strand_base-below reference (eqb candidate.strand 1) _

  -- The entries have the width of a byte, and land in the aligned part.
  candidate_fit : All EntryFits (candidate_entries reference codes candidate)
  unfolding candidate_entries candidate_gaps gaps_of places_where differs_at
  candidate_fit =
      let al : List ℕ = part codes candidate.left (aligned_count codes candidate) in
      let expected : ℕ → ℕ = expected_at reference codes candidate in
      entries_fit expected al 0 0 (places_where (differs_at expected al) (length al)) expected_below
      (all_keep (λ place. get_or al place 0 < 4) (differs_at expected al) (build (length al) (λ k. k))
      (λ k e.
      let plain = and_both (not (eqb (get_or al k 0) 4)) _ e in
      omega (
        arith,
        eqb-false (get_or al k 0) 4 (not-true (eqb (get_or al k 0) 4) plain.0),
        below-part codes candidate.left (aligned_count codes candidate) (omega arith) below k,
      )))

  candidate_steps : Steps (aligned_count codes candidate) 0 0 (map (λ entry. entry.offset) (candidate_entries reference codes candidate))
  unfolding candidate_entries candidate_gaps gaps_of
  candidate_steps =
      let m : ℕ = aligned_count codes candidate in
      let al : List ℕ = part codes candidate.left m in
      let expected : ℕ → ℕ = expected_at reference codes candidate in
      let size : length al ≡ m = length_aligned codes candidate (omega (arith, u.clips)) in
      subst (λ (n : ℕ). Steps n 0 0 (map (λ entry. entry.offset) (candidate_entries reference codes candidate))) size
      (steps-entries (length al) 0 expected al 0 (places_where (differs_at expected al) (length al)) (omega arith)
      (places_rise (differs_at expected al) (length al)))

  length_clipped : length (clipped_codes codes candidate) ≡ candidate.left + candidate.right
  unfolding clipped_codes aligned_count
  length_clipped =
      let m : ℕ = aligned_count codes candidate in
      let front : List ℕ = take candidate.left codes in
      let back : List ℕ = drop (candidate.left + m) codes in
      length-map (front ++ back) without_n
      ∙ length-append front back
      ∙ omega (arith, length-take-le candidate.left codes (omega (arith, u.clips)), length-drop (candidate.left + m) codes, u.clips)

  clipped_below : Below 4 (clipped_codes codes candidate)
  unfolding clipped_codes
  clipped_below =
      let front : List ℕ = take candidate.left codes in
      let back : List ℕ = drop (candidate.left + aligned_count codes candidate) codes in
      without-below (front ++ back) (below-append front back (below-take codes candidate.left below) (below-drop codes (candidate.left + aligned_count codes candidate) below))

  -- The position's field has the width that it is stored in.
  field_fits : bases < 2 ^ 32 → (context : ReadContext)
      → context.incremental ≡ step_fits previous (stored_position codes candidate)
      → field_for previous (stored_position codes candidate) < 256 ^ field_width context
  unfolding field_for step_fits field_width
  field_fits fits context e =
      let stored : ℕ = stored_position codes candidate in
      by_test (step_fits previous stored)
      (λ t.
      let step = and_both (leb previous stored) _ t in
      let small = leb-true (stored - previous) _ step.1 in
      rw (e, t) (omega arith))
      (λ t.
      rw (e, t) (omega (arith, fits, stored-inside bases codes candidate u.clips u.inside)))

  -- What each of the three kinds has to itself.
  record KindHolds (context : ReadContext) (fields : RecordFields) : Type 0 where
    fit : FieldsFit context fields
    count : CountHolds context fields
    clips : ClipsHold context fields
    codes_hold : Below 5 (raw4_codes fields)
    padding : Below 1 (padding_of fields)
    raw4_bit : Raw4BitHolds context fields
    has : has_n_list context fields ≡ context.with_n

  kind_holds : bases < 2 ^ 32 → CandidateFits candidate → (context : ReadContext)
      → context.incremental ≡ step_fits previous (stored_position codes candidate)
      → context.read_length ≡ length codes → context.perfect_bit ≡ is_perfect (aligned_fields reference previous codes candidate)
      → KindHolds context (aligned_fields reference previous codes candidate)
  unfolding aligned_fields is_perfect raw4_codes padding_of has_n_list padded
  kind_holds small fits context step size perfectly =
      let ends : ℕ = candidate.left + candidate.right in
      let entries : List Entry = candidate_entries reference codes candidate in
      let field = field_fits small context step in
      let few : length entries ≤ 31 = omega (arith, u.few) in
      by_test (eqb ends 0)
      (λ t.
      by_test (eqb (length entries) 0)
      (λ v.
      let kind : context.perfect_bit ≡ true = rw (t, v) at perfectly in
      rw (t, v)
      (record {
        fit = record { kind = kind; field_fits = field };
        count = tt;
        clips = tt;
        codes_hold = below-nil 5;
        padding = below-nil 1;
        raw4_bit = tt;
        has = refl;
      }))
      (λ v.
      let kind : context.perfect_bit ≡ false = rw (t, v) at perfectly in
      rw (t, v)
      (record {
        fit = record { kind = kind; field_fits = field; count = few; entries_fit = candidate_fit };
        count = λ k. omega (arith, eqb-false (length entries) 0 v);
        clips = tt;
        codes_hold = below-nil 5;
        padding = below-nil 1;
        raw4_bit = tt;
        has = refl;
      })))
      (λ t.
      let kind : context.perfect_bit ≡ false = rw t at perfectly in
      rw t
      (record {
        fit = record {
          kind = kind;
          field_fits = field;
          count = few;
          entries_fit = candidate_fit;
          left_fits = fits.left;
          right_fits = fits.right;
          clipped_fit =
              subst (λ (n : ℕ). PackedFits 4 4 n (padded 4 (clipped_codes codes candidate))) length_clipped
              (padded-fits 4 4 (clipped_codes codes candidate) (omega arith) (omega arith) clipped_below);
        };
        count = tt;
        clips = (omega (arith, eqb-false ends 0 t), omega (arith, u.clips));
        codes_hold = below-nil 5;
        padding = zeros-below (packed_length 4 (length (clipped_codes codes candidate)) * 4 - length (clipped_codes codes candidate)) 1 (omega arith);
        raw4_bit = tt;
        has = refl;
      }))

  aligned_meets : bases < 2 ^ 32 → CandidateFits candidate → length (n_offsets_of codes) ≤ 31
      → Meets reference codes (written_as choose_aligned bases reference previous codes candidate)
  unfolding written_as
  aligned_meets small fits few =
      let w : Written = written_as choose_aligned bases reference previous codes candidate in
      let fields : RecordFields = aligned_fields reference previous codes candidate in
      let place : AtPlace reference previous codes candidate fields = at_place reference previous codes candidate in
      let before : Before bases previous codes candidate w.context =
      record { read_length = refl; reference_bases = refl; previous_position = refl; forward = refl; incremental = refl } in
      let kind : KindHolds w.context fields = kind_holds small fits w.context refl refl refl in
      let many : aligned_length w.context fields ≡ aligned_count codes candidate =
      aligned_is bases reference previous codes candidate fields w.context place before u.clips in
      record {
        fits = record {
          fields = kind.fit;
          n_list = subst (λ (t : Bool). NListFits t (n_offsets_of codes)) (sym kind.has) (n-fits codes few (member 4 codes) refl);
        };
        none =
            (rules_mean w.context w.stored).1
            (record {
              count = kind.count;
              raw_bits = λ e. absurd_test (sym place.aligned ∙ e);
              clips = kind.clips;
              inside =
                  span_is bases reference previous codes candidate fields w.context place before u.clips u.inside;
              entries =
                  subst (λ (n : ℕ). Steps n 0 0 (map (λ entry. entry.offset) (entries_of fields))) (sym many)
                  (subst (λ (es : List Entry). Steps (aligned_count codes candidate) 0 0 (map (λ entry. entry.offset) es)) (sym place.entries) candidate_steps);
              codes = kind.codes_hold;
              padding = kind.padding;
              raw4_bit = kind.raw4_bit;
              n_list = λ e. n-holds codes few (sym kind.has ∙ e);
            });
        letters =
            letters-by-code reference codes w.context w.stored refl
            (with_n-list reference codes w.context fields
            (fields_letter bases reference previous codes candidate fields w.context place before u.clips));
        read_length = refl;
      }

-- ---- Every record

-- The record of a read, whatever its candidate says.
pub written-meets : (bases : ℕ) (reference : List ℕ) (previous : ℕ) (codes : List ℕ) (candidate : Candidate) → bases < 2 ^ 32
    → Below 5 codes → CandidateFits candidate → Meets reference codes (written bases reference previous codes candidate)
unfolding written choice_for
written-meets bases reference previous codes candidate small below fits =
    by_test (ltb 31 (length (n_offsets_of codes)))
    (λ t. rw t (raw4-meets bases reference previous codes candidate below))
    (λ t.
    let few : length (n_offsets_of codes) ≤ 31 = ltb-false 31 (length (n_offsets_of codes)) t in
    by_test (place_used bases reference codes candidate)
    (λ v.
    rw (t, v)
    (aligned_meets bases reference previous codes candidate below (used bases reference codes candidate v) small fits few))
    (λ v. rw (t, v) (raw-meets bases reference previous codes candidate below few)))

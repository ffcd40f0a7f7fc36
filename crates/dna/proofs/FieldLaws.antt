-- Entries, packed codes and N lists are read back where they stand, and what is read stands there. Assumes nothing.
use mathlib.Core.Path.{◌≡◌, refl, sym, ap, ap₂, ◌∙◌, subst}
use Prim.Native.Nat.{ℕ, zero, suc, ◌+◌, ◌-◌, ◌*◌, ◌^◌, ◌≤◌, ◌<◌}
use native.Mathlib.Nat.{div-add-mod'}
use native.Mathlib.Omega.{arith}
use mathlib.Core.Bool.{false, ◌||◌}
use mathlib.Core.List.{List, [], ◌∷◌, ◌++◌, map, flat_map}
use lib.ListN.{length, get_or, length-append, length-map, get_or-map, get_or-append}
use lib.Seq.{ext_get_or, get_or-append-add}
use lib.Dec.{ltb}
use lib.Arith.{digits_div, digits_mod}
use borrow.Author.Tests.{ltb-false, le-ltb}
use Rattle.base.specs.Lists.{any, Below, AllBytes, All}
use Rattle.base.specs.Packed.{packed_length, pack, symbols_at}
use Rattle.base.specs.Place.{At}
use Rattle.base.specs.Answer.{found}
use Rattle.base.proofs.ListLaws.{length-build, get_or-build, below_at, below-append, all_get_or}
use Rattle.base.proofs.ListLaws.{all_build}
use Rattle.base.proofs.AtLaws.{at_left, at_right, at_both, at_head, at_tail, at-cons, at-nil}
use Rattle.base.proofs.PackedLaws.{length-pack, length-symbols_at, packed_length-holds}
use Rattle.base.proofs.PackedLaws.{packed_length-whole, symbols_at_pack, symbols_at_below}
use Rattle.base.proofs.PackedLaws.{pack_symbols_at, symbols_at_append}
use Rattle.base.proofs.Tests.{or-neither, neither_or}
use Rattle.base.proofs.AnswerLaws.{found-same, checked-none, checked-found, and_then-found}
use Rattle.base.proofs.AnswerLaws.{and_then-parts}
use Rattle.dna.specs.Varint16.{varint16_bytes}
use Rattle.dna.specs.Record.{ReadContext, Entry, EntryFits, PackedCodes, PackedFits}
use Rattle.dna.specs.Record.{entry_byte, packed_bytes, n_list_bytes}
use Rattle.dna.specs.Alignment.{n_positions}
use Rattle.dna.specs.RecordFaults.{later_zero, n_count_invalid, n_list_invalid}
use Rattle.dna.specs.Varint16At.{varint16_at, words_for}
use Rattle.dna.specs.RecordAt.{entry_of, entries_at, packed_at, offsets_at, n_list_at}
use Rattle.dna.specs.Rules.{Steps}
use Rattle.dna.proofs.OffsetLaws.{tests-steps, steps_tests}
use Rattle.dna.proofs.VarintLaws.{varint16-find, Varint, varint16-found}

-- ---- Entries

entry0 : Entry
entry0 = record { offset = 0; code = 0 }

pub length-entries : (entries : List Entry) → length (map entry_byte entries) ≡ length entries
length-entries entries = length-map entries entry_byte

pub length-entries_at : (list : List ℕ) (at n : ℕ) → length (entries_at list at n) ≡ n
unfolding entries_at
length-entries_at list at n = length-build _ _

entry-back : (entry : Entry) → EntryFits entry → entry_of (entry_byte entry) ≡ entry
unfolding entry_of entry_byte
entry-back entry fits =
    ap₂ (λ (o c : ℕ). record { offset = o; code = c }) (digits_div entry.offset fits.code) (digits_mod entry.offset fits.code)

entries_get_or : (entries : List Entry) (k : ℕ) → get_or (map entry_byte entries) k 0 ≡ entry_byte (get_or entries k entry0)
unfolding entry_byte entry0
entries_get_or entries k = get_or-map entry_byte entries k entry0

pub entries_at-entries : (entries : List Entry) {list : List ℕ} {at : ℕ} → All EntryFits entries → At list at (map entry_byte entries)
    → entries_at list at (length entries) ≡ entries
unfolding entries_at
entries_at-entries entries {list} {at} fits a =
    ext_get_or entry0 (entries_at list at (length entries)) entries (length-entries_at list at (length entries))
    (λ k l.
    let m : k < length entries = rw length-build at l in
    get_or-build (length entries) (λ k. entry_of (get_or list (at + k) 0)) k entry0 m
    ∙ ap entry_of (a.same k (rw length-entries m) ∙ entries_get_or entries k)
    ∙ entry-back (get_or entries k entry0) (all_get_or EntryFits entries entry0 fits k m))

pub entries-entries_at : {list : List ℕ} (at n : ℕ) → at + n ≤ length list → At list at (map entry_byte (entries_at list at n))
unfolding entries_at entry_byte entry_of
entries-entries_at {list} at n h =
    record {
      fits = subst (λ (m : ℕ). at + m ≤ length list) (sym (length-entries (entries_at list at n) ∙ length-entries_at list at n)) h;
      same = λ k l.
          let m : k < n = subst (λ (x : ℕ). k < x) (length-entries (entries_at list at n) ∙ length-entries_at list at n) l in
          sym
          (entries_get_or (entries_at list at n) k
          ∙ ap entry_byte (get_or-build n (λ k. entry_of (get_or list (at + k) 0)) k entry0 m)
          ∙ div-add-mod' (get_or list (at + k) 0) 4);
    }

pub entries_at-fit : (list : List ℕ) (at n : ℕ) → AllBytes list → All EntryFits (entries_at list at n)
unfolding entries_at entry_of
entries_at-fit list at n bytes =
    all_build EntryFits n (λ k. entry_of (get_or list (at + k) 0))
    (λ k h.
    let byte : get_or list (at + k) 0 < 256 = below_at list (omega arith) bytes (at + k) in
    record { offset = omega arith; code = omega arith })

-- ---- Packed codes

module _ (base per : ℕ) (some_base : 0 < base) (some_per : 0 < per) where
  pub packed_at_packed : {list : List ℕ} {at : ℕ} (n : ℕ) (packed : PackedCodes) → PackedFits base per n packed
      → At list at (packed_bytes base per packed) → packed_at base per list at n ≡ packed
  unfolding packed_at packed_bytes
  packed_at_packed {list} {at} n packed fits a =
      let codes : List ℕ = packed.codes in
      let padding : List ℕ = packed.padding in
      let below : Below base (codes ++ padding) = below-append codes padding fits.codes fits.padding in
      let count : length codes ≡ n = fits.counted in
      let whole : length codes + length padding ≡ packed_length per n * per = fits.filled in
      let all : length (codes ++ padding) ≡ length codes + length padding = length-append codes padding in
      ap₂ (λ (c p : List ℕ). record { codes = c; padding = p })
      (symbols_at_pack base per some_base some_per (codes ++ padding) 0 n codes below a (omega arith) count
      (λ j h. ap (λ (i : ℕ). get_or (codes ++ padding) i 0) (omega arith) ∙ get_or-append codes padding 0 j (omega arith)))
      (symbols_at_pack base per some_base some_per (codes ++ padding) n (packed_length per n * per - n) padding below a (omega arith) (omega arith)
      (λ j h. ap (λ (i : ℕ). get_or (codes ++ padding) (i + j) 0) (sym count) ∙ get_or-append-add codes padding j 0))

  pub packed_at_fits : (list : List ℕ) (at n : ℕ) → PackedFits base per n (packed_at base per list at n)
  unfolding packed_at
  packed_at_fits list at n =
      let holds : n ≤ packed_length per n * per = packed_length-holds per n some_per in
      record {
        codes = symbols_at_below base per some_base some_per list at 0 n;
        padding = symbols_at_below base per some_base some_per list at n (packed_length per n * per - n);
        counted = length-symbols_at base per list at 0 n;
        filled =
            omega (
              arith,
              length-symbols_at base per list at 0 n,
              length-symbols_at base per list at n (packed_length per n * per - n),
            );
      }

  pub length_packed : (n : ℕ) (packed : PackedCodes) → PackedFits base per n packed
      → length (packed_bytes base per packed) ≡ packed_length per n
  unfolding packed_bytes
  length_packed n packed fits =
      length-pack base per (packed.codes ++ packed.padding)
      ∙ ap (packed_length per) (length-append packed.codes packed.padding ∙ fits.filled)
      ∙ packed_length-whole per (packed_length per n) some_per

  pub packed_packed_at : {list : List ℕ} (at n : ℕ) → at + packed_length per n ≤ length list
      → ((k : ℕ) → get_or list k 0 < base ^ per) → At list at (packed_bytes base per (packed_at base per list at n))
  unfolding packed_bytes packed_at
  packed_packed_at {list} at n room small =
      let holds : n ≤ packed_length per n * per = packed_length-holds per n some_per in
      let e : packed_length per n * per ≡ n + (packed_length per n * per - n) = omega arith in
      subst (λ (symbols : List ℕ). At list at (pack base per symbols))
      (ap (symbols_at base per list at 0) e ∙ symbols_at_append base per some_base some_per list at n (packed_length per n * per - n))
      (pack_symbols_at base per some_base some_per at (packed_length per n) room small)

-- ---- N lists

offsets-find : (offsets : List ℕ) {list : List ℕ} (bound least place : ℕ) {at : ℕ} → Steps bound least place offsets
    → At list at (flat_map varint16_bytes offsets)
    → offsets_at (length offsets) bound least place list at ≡ found offsets (at + length (flat_map varint16_bytes offsets))
unfolding offsets_at flat_map any
offsets-find [] bound least place s a = ap (found []) (omega arith)
offsets-find (offset ∷ offsets) {list} bound least place {at} s a =
    let back : List ℕ = flat_map varint16_bytes offsets in
    and_then-found _ (varint16-find offset bound place s.1 (at_left (varint16_bytes offset) back a))
    (checked-none _ _ _ (neither_or _ _ (le-ltb offset least s.0) refl)
    ∙ and_then-found _ (offsets-find offsets bound 1 (place + offset) s.2 (at_right (varint16_bytes offset) back a))
    (ap (found (offset ∷ offsets)) (omega (arith, length-append (varint16_bytes offset) back))))

pub record Offsets (list : List ℕ) (count bound least place at : ℕ) (offsets : List ℕ) (next : ℕ) : Type 0 where
  pub counted : length offsets ≡ count
  pub steps : Steps bound least place offsets
  pub stands : At list at (flat_map varint16_bytes offsets)
  pub ends : next ≡ at + length (flat_map varint16_bytes offsets)

offsets-found : (count : ℕ) {list : List ℕ} (bound least place at : ℕ) {offsets : List ℕ} {next : ℕ} → AllBytes list → at ≤ length list
    → offsets_at count bound least place list at ≡ found offsets next → Offsets list count bound least place at offsets next
unfolding offsets_at flat_map any
offsets-found zero {list} bound least place at {offsets} {next} bytes h e =
    let same = found-same e in
    subst (λ (os : List ℕ). Offsets list 0 bound least place at os next) same.0
    (record { counted = refl; steps = tt; stands = at-nil h; ends = omega (arith, same.1) })
offsets-found (suc count) {list} bound least place at {offsets} {next} bytes h e =
    let ih : (p m : ℕ) (os : List ℕ) (j : ℕ) → m ≤ length list → offsets_at count bound 1 p list m ≡ found os j → Offsets list count bound 1 p m os j
    = λ p m os j. offsets-found count bound 1 p m bytes in
    and_then-parts (varint16_at (words_for bound) bound place list at) _ e (λ offset k e₁ e₂.
    let v : Varint list bound place at offset k = varint16-found (words_for bound) bound place at bytes e₁ in
    let parts = checked-found (λ n. n) _ _ e₂ in
    let least-ok = or-neither _ _ parts.0 in
    and_then-parts (offsets_at count bound 1 (place + offset) list k) _ parts.1 (λ os j e₃ e₄.
    let more : Offsets list count bound 1 (place + offset) k os j = ih (place + offset) k os j (omega (arith, v.ends, v.stands.fits)) e₃ in
    let same = found-same e₄ in
    subst (λ (all : List ℕ). Offsets list (suc count) bound least place at all next) same.0
    (record {
      counted = ap suc more.counted;
      steps = (ltb-false offset least least-ok.0, v.inside, more.steps);
      stands = at_both (varint16_bytes offset) (flat_map varint16_bytes os) v.stands (rw v.ends at more.stands);
      ends = omega (arith, same.1, more.ends, v.ends, length-append (varint16_bytes offset) (flat_map varint16_bytes os));
    })))

pub n_list-find : (context : ReadContext) (offsets : List ℕ) {list : List ℕ} {at : ℕ} → n_list_invalid context offsets ≡ false
    → At list at (n_list_bytes offsets) → n_list_at context.read_length list at ≡ found offsets (at + length (n_list_bytes offsets))
unfolding n_list_at n_list_bytes n_list_invalid n_positions any
n_list-find context offsets {list} {at} valid a =
    let parts = or-neither (n_count_invalid (length offsets)) _ valid in
    let tests = or-neither (later_zero offsets) _ parts.1 in
    let n : get_or list at 0 ≡ length offsets = at_head a in
    checked-none _ _ _
    (neither_or _ _ (le-ltb (length list) (at + 1) (omega (arith, a.fits)))
    (neither_or _ _ (ap n_count_invalid n ∙ parts.0) refl))
    ∙ ap (λ (c : ℕ). offsets_at c context.read_length 0 0 list (at + 1)) n
    ∙ offsets-find offsets context.read_length 0 0 (tests-steps context.read_length offsets tests.0 tests.1) (at_tail a)
    ∙ ap (found offsets) (omega arith)

pub record NList (context : ReadContext) (list : List ℕ) (at : ℕ) (offsets : List ℕ) (next : ℕ) : Type 0 where
  pub count : length offsets < 256
  pub valid : n_list_invalid context offsets ≡ false
  pub stands : At list at (n_list_bytes offsets)
  pub ends : next ≡ at + length (n_list_bytes offsets)

pub n_list-found : (context : ReadContext) {list : List ℕ} (at : ℕ) {offsets : List ℕ} {next : ℕ} → AllBytes list
    → n_list_at context.read_length list at ≡ found offsets next → NList context list at offsets next
unfolding n_list_at n_list_bytes n_list_invalid n_positions any
n_list-found context {list} at {offsets} {next} bytes e =
    let parts = checked-found (λ n. n) _ _ e in
    let first : (ltb (length list) (at + 1) ≡ false) × (n_count_invalid (get_or list at 0) || false ≡ false) = or-neither _ _ parts.0 in
    let second : (n_count_invalid (get_or list at 0) ≡ false) × (false ≡ false) = or-neither _ _ first.1 in
    let fits : at + 1 ≤ length list = ltb-false (length list) (at + 1) first.0 in
    let f : Offsets list (get_or list at 0) context.read_length 0 0 (at + 1) offsets next
    = offsets-found (get_or list at 0) context.read_length 0 0 (at + 1) bytes (omega arith) parts.1 in
    let tests = steps_tests context.read_length offsets f.steps in
    record {
      count = omega (arith, f.counted, below_at list (omega arith) bytes at);
      valid =
          neither_or _ _ (ap n_count_invalid f.counted ∙ second.0) (neither_or _ _ tests.0 tests.1);
      stands = at-cons (length offsets) (sym f.counted) (omega arith) f.stands;
      ends = omega (arith, f.ends);
    }

-- The answer of a size section is what it stores, and how many lengths that are. Assumes nothing.
use mathlib.Core.Path.{◌≡◌, refl, sym, ap, ap₂, ◌∙◌, subst}
use Prim.Native.Nat.{ℕ, zero, suc, ◌+◌, ◌≤◌}
use native.Mathlib.Omega.{arith}
use mathlib.Core.Bool.{Bool, true, false, ◌||◌}
use mathlib.Core.List.{List, [], ◌∷◌, ◌++◌, map, flat_map, flatten}
use lib.ListN.{length, get_or, length-append}
use lib.Dec.{ltb}
use borrow.Author.Tests.{ltb-false}
use Rattle.base.specs.Lists.{any, total, AllBytes, All}
use Rattle.base.specs.Groups.{in_groups, group_sizes, byte_bit_stray, flag_byte}
use Rattle.base.specs.Packed.{bit}
use Rattle.base.specs.Place.{At}
use Rattle.base.specs.Answer.{found}
use Rattle.base.proofs.AllLaws.{all_flatten}
use Rattle.base.proofs.ListLaws.{below_at}
use Rattle.base.proofs.AtLaws.{at_self, at_same, at_both, at-cons, at-nil, at-to}
use Rattle.base.proofs.GroupLaws.{in_groups_unique, total-group_sizes}
use Rattle.base.proofs.Tests.{absurd_test, or-neither}
use Rattle.base.proofs.FlagByteLaws.{BitsAre, flag-made}
use Rattle.base.proofs.AnswerLaws.{found-same, checked-found, and_then-parts}
use Rattle.dna.specs.Sizes.{max_read_length, StoredSize, is_same, is_in_byte, stored_bytes}
use Rattle.dna.specs.Sizes.{size_group_bytes, size_section_bytes, lengths_from, length_invalid}
use Rattle.dna.specs.Sizes.{StoredFits, first_is_same, SizesStored}
use Rattle.dna.specs.Varint16At.{varint16_at, words_for}
use Rattle.dna.specs.SizesAt.{words_at, stored_at, stored_sizes_at, size_group_at, size_groups_at}
use Rattle.dna.specs.SizesAt.{sizes_answer}
use Rattle.dna.proofs.VarintLaws.{Varint, varint16-found}
use Rattle.dna.proofs.SizesComplete.{length-lengths_from}

record StoredFound (list : List ℕ) (at : ℕ) (same_bit byte_bit : Bool) (stored : StoredSize) (next : ℕ) : Type 0 where
  fits : StoredFits stored
  sames : is_same stored ≡ same_bit
  bytes : is_in_byte stored ≡ byte_bit
  stands : At list at (stored_bytes stored)
  ends : next ≡ at + length (stored_bytes stored)

stored-found : (same_bit byte_bit : Bool) {list : List ℕ} (at : ℕ) {stored : StoredSize} {next : ℕ} → AllBytes list → at ≤ length list
    → stored_at same_bit byte_bit list at ≡ found stored next → StoredFound list at same_bit byte_bit stored next
unfolding stored_at stored_bytes is_same is_in_byte words_at any
stored-found true true at bytes h e = absurd_test (checked-found (λ n. n) _ _ e).0
stored-found true false {list} at {stored} {next} bytes h e =
    let eq = found-same (checked-found (λ n. n) _ _ e).1 in
    subst (λ (s : StoredSize). StoredFound list at true false s next) eq.0
    (record { fits = tt; sames = refl; bytes = refl; stands = at-nil h; ends = omega (arith, eq.1) })
stored-found false true {list} at {stored} {next} bytes h e =
    let parts = checked-found (λ n. n) _ _ (checked-found (λ n. n) _ _ e).1 in
    let inside : at + 1 ≤ length list = ltb-false (length list) (at + 1) (or-neither _ _ parts.0).0 in
    let eq = found-same parts.1 in
    subst (λ (s : StoredSize). StoredFound list at false true s next) eq.0
    (record {
      fits = below_at list (omega arith) bytes at;
      sames = refl;
      bytes = refl;
      stands = at-cons (get_or list at 0) refl (omega arith) (at-nil (omega arith));
      ends = omega (arith, eq.1);
    })
stored-found false false {list} at {stored} {next} bytes h e =
    and_then-parts (varint16_at (words_for (suc max_read_length)) (suc max_read_length) 0 list at) _ (checked-found (λ n. n) _ _ e).1 (λ size m e₁ e₂.
    let v : Varint list (suc max_read_length) 0 at size m = varint16-found (words_for (suc max_read_length)) (suc max_read_length) 0 at bytes e₁ in
    let eq = found-same e₂ in
    subst (λ (s : StoredSize). StoredFound list at false false s next) eq.0
    (record { fits = tt; sames = refl; bytes = refl; stands = v.stands; ends = omega (arith, eq.1, v.ends) }))

record SizesFound (list : List ℕ) (at count same_byte size_byte place : ℕ) (group : List StoredSize) (next : ℕ) : Type 0 where
  counted : length group ≡ count
  fit : All StoredFits group
  sames : BitsAre is_same same_byte place group
  bytes : BitsAre is_in_byte size_byte place group
  stands : At list at (flat_map stored_bytes group)
  ends : next ≡ at + length (flat_map stored_bytes group)

sizes-found : (count same_byte size_byte place : ℕ) {list : List ℕ} (at : ℕ) {group : List StoredSize} {next : ℕ} → AllBytes list → at ≤ length list
    → stored_sizes_at count same_byte size_byte place list at ≡ found group next → SizesFound list at count same_byte size_byte place group next
unfolding stored_sizes_at flat_map
sizes-found zero same_byte size_byte place {list} at {group} {next} bytes h e =
    let eq = found-same e in
    subst (λ (g : List StoredSize). SizesFound list at 0 same_byte size_byte place g next) eq.0
    (record { counted = refl; fit = tt; sames = tt; bytes = tt; stands = at-nil h; ends = omega (arith, eq.1) })
sizes-found (suc count) same_byte size_byte place {list} at {group} {next} bytes h e =
    let ih : (m : ℕ) (g : List StoredSize) (j : ℕ) → m ≤ length list → stored_sizes_at count same_byte size_byte (suc place) list m ≡ found g j
    → SizesFound list m count same_byte size_byte (suc place) g j
    = λ m g j. sizes-found count same_byte size_byte (suc place) m bytes in
    and_then-parts (stored_at (bit same_byte place) (bit size_byte place) list at) _ e (λ stored m e₁ e₂.
    let f : StoredFound list at (bit same_byte place) (bit size_byte place) stored m = stored-found _ _ at bytes h e₁ in
    and_then-parts (stored_sizes_at count same_byte size_byte (suc place) list m) _ e₂ (λ rest j e₃ e₄.
    let more : SizesFound list m count same_byte size_byte (suc place) rest j = ih m rest j (omega (arith, f.ends, f.stands.fits)) e₃ in
    let eq = found-same e₄ in
    subst (λ (g : List StoredSize). SizesFound list at (suc count) same_byte size_byte place g next) eq.0
    (record {
      counted = ap suc more.counted;
      fit = (f.fits, more.fit);
      sames = (sym f.sames, more.sames);
      bytes = (sym f.bytes, more.bytes);
      stands = at_both (stored_bytes stored) (flat_map stored_bytes rest) f.stands (rw f.ends at more.stands);
      ends = omega (arith, eq.1, more.ends, f.ends, length-append (stored_bytes stored) (flat_map stored_bytes rest));
    })))

record GroupFound (list : List ℕ) (at count : ℕ) (group : List StoredSize) (next : ℕ) : Type 0 where
  counted : length group ≡ count
  fit : All StoredFits group
  stands : At list at (size_group_bytes group)
  ends : next ≡ at + length (size_group_bytes group)

group-found : (count : ℕ) {list : List ℕ} (at : ℕ) {group : List StoredSize} {next : ℕ} → AllBytes list → size_group_at count list at ≡ found group next
    → GroupFound list at count group next
unfolding size_group_at size_group_bytes any
group-found count {list} at {group} {next} bytes e =
    let same_byte : ℕ = get_or list at 0 in
    let size_byte : ℕ = get_or list (at + 1) 0 in
    let parts = checked-found (λ n. n) _ _ e in
    let first : (ltb (length list) (at + 2) ≡ false) × (byte_bit_stray count same_byte || (byte_bit_stray count size_byte || false) ≡ false) = or-neither _ _ parts.0 in
    let second : (byte_bit_stray count same_byte ≡ false) × (byte_bit_stray count size_byte || false ≡ false) = or-neither _ _ first.1 in
    let third : (byte_bit_stray count size_byte ≡ false) × (false ≡ false) = or-neither _ _ second.1 in
    let fits : at + 2 ≤ length list = ltb-false (length list) (at + 2) first.0 in
    let f : SizesFound list (at + 2) count same_byte size_byte 0 group next = sizes-found count same_byte size_byte 0 (at + 2) bytes fits parts.1 in
    let one : flag_byte is_same group ≡ same_byte =
    flag-made is_same same_byte group (below_at list (omega arith) bytes at) (subst (λ (n : ℕ). byte_bit_stray n same_byte ≡ false) (sym f.counted) second.0) f.sames in
    let two : flag_byte is_in_byte group ≡ size_byte =
    flag-made is_in_byte size_byte group (below_at list (omega arith) bytes (at + 1)) (subst (λ (n : ℕ). byte_bit_stray n size_byte ≡ false) (sym f.counted) third.0) f.bytes in
    record {
      counted = f.counted;
      fit = f.fit;
      stands = at-cons _ (sym one) (omega arith) (at-cons _ (sym two) (omega arith) (at-to (at + 2) _ (omega arith) f.stands));
      ends = omega (arith, f.ends);
    }

record GroupsFound (list : List ℕ) (at : ℕ) (counts : List ℕ) (stored : List StoredSize) (next : ℕ) : Type 0 where
  groups : List (List StoredSize)
  sizes : map length groups ≡ counts
  fit : All (All StoredFits) groups
  whole : flatten groups ≡ stored
  stands : At list at (flat_map size_group_bytes groups)
  ends : next ≡ at + length (flat_map size_group_bytes groups)

groups-found : (counts : List ℕ) {list : List ℕ} (at : ℕ) {stored : List StoredSize} {next : ℕ} → AllBytes list → at ≤ length list
    → size_groups_at counts list at ≡ found stored next → GroupsFound list at counts stored next
unfolding size_groups_at flat_map flatten
groups-found [] {list} at {stored} {next} bytes h e =
    let eq = found-same e in
    record { groups = []; sizes = refl; fit = tt; whole = eq.0; stands = at-nil h; ends = omega (arith, eq.1) }
groups-found (count ∷ counts) {list} at {stored} {next} bytes h e =
    let ih : (m : ℕ) (s : List StoredSize) (j : ℕ) → m ≤ length list → size_groups_at counts list m ≡ found s j → GroupsFound list m counts s j
    = λ m s j. groups-found counts m bytes in
    and_then-parts (size_group_at count list at) _ e (λ group m e₁ e₂.
    let f : GroupFound list at count group m = group-found count at bytes e₁ in
    and_then-parts (size_groups_at counts list m) _ e₂ (λ rest j e₃ e₄.
    let more : GroupsFound list m counts rest j = ih m rest j (omega (arith, f.ends, f.stands.fits)) e₃ in
    let eq = found-same e₄ in
    record {
      groups = group ∷ more.groups;
      sizes = ap₂ ◌∷◌ f.counted more.sizes;
      fit = (f.fit, more.fit);
      whole = ap (λ (s : List StoredSize). group ++ s) more.whole ∙ eq.0;
      stands = at_both (size_group_bytes group) (flat_map size_group_bytes more.groups) f.stands
          (subst (λ (p : ℕ). At list p (flat_map size_group_bytes more.groups)) f.ends more.stands);
      ends = omega (arith, eq.1, more.ends, f.ends, length-append (size_group_bytes group) (flat_map size_group_bytes more.groups));
    }))

-- What a size section answers is what it stores, for so many reads.
pub record SizesAnswered (n : ℕ) (section lengths : List ℕ) : Type 0 where
  pub stored : SizesStored section lengths
  pub counted : length lengths ≡ n

pub answer-sizes : (n : ℕ) (section lengths : List ℕ) (end : ℕ) → AllBytes section → sizes_answer n section ≡ found lengths end
    → SizesAnswered n section lengths
unfolding sizes_answer size_section_bytes any
answer-sizes n section lengths end bytes e =
    and_then-parts (size_groups_at (group_sizes n) section 0) _ e (λ stored m e₁ e₂.
    let f : GroupsFound section 0 (group_sizes n) stored m = groups-found (group_sizes n) 0 bytes (omega arith) e₁ in
    let parts = checked-found (λ n. n) _ _ e₂ in
    let first : (ltb m (length section) ≡ false) × (first_is_same stored || (any length_invalid (lengths_from 0 stored) || false) ≡ false) = or-neither _ _ parts.0 in
    let second : (first_is_same stored ≡ false) × (any length_invalid (lengths_from 0 stored) || false ≡ false) = or-neither _ _ first.1 in
    let third : (any length_invalid (lengths_from 0 stored) ≡ false) × (false ≡ false) = or-neither _ _ second.1 in
    let left : length section ≤ m = ltb-false m (length section) first.0 in
    let eq = found-same parts.1 in
    let unique = in_groups_unique n f.groups f.sizes in
    let ours : in_groups stored ≡ f.groups = ap in_groups (sym f.whole) ∙ unique.1 in
    record {
      stored = record {
        stored = stored;
        fit = subst (λ (s : List StoredSize). All StoredFits s) f.whole (all_flatten StoredFits f.groups f.fit);
        first = second.0;
        bytes =
            at_same (flat_map size_group_bytes (in_groups stored)) section
            (ap (λ (groups : List (List StoredSize)). length (flat_map size_group_bytes groups)) ours ∙ omega (arith, f.ends, f.stands.fits))
            (subst (λ (groups : List (List StoredSize)). At section 0 (flat_map size_group_bytes groups)) (sym ours) f.stands) (at_self section);
        lengths_are = eq.0;
        in_range = ap (any length_invalid) (sym eq.0) ∙ third.0;
      };
      counted = ap length (sym eq.0) ∙ length-lengths_from 0 stored ∙ ap length (sym f.whole) ∙ unique.0;
    })

-- ---- How many lengths there are, whatever the section holds

stored-count : (count same_byte size_byte place : ℕ) (list : List ℕ) (at : ℕ) (group : List StoredSize) (next : ℕ)
    → stored_sizes_at count same_byte size_byte place list at ≡ found group next → length group ≡ count
unfolding stored_sizes_at
stored-count zero same_byte size_byte place list at group next e = ap length (sym (found-same e).0)
stored-count (suc count) same_byte size_byte place list at group next e =
    let ih : (m : ℕ) (g : List StoredSize) (j : ℕ) → stored_sizes_at count same_byte size_byte (suc place) list m ≡ found g j → length g ≡ count
    = λ m g j. stored-count count same_byte size_byte (suc place) list m g j in
    and_then-parts (stored_at (bit same_byte place) (bit size_byte place) list at) _ e (λ stored m e₁ e₂.
    and_then-parts (stored_sizes_at count same_byte size_byte (suc place) list m) _ e₂ (λ rest j e₃ e₄.
    ap length (sym (found-same e₄).0) ∙ ap suc (ih m rest j e₃)))

groups-count : (counts list : List ℕ) (at : ℕ) (stored : List StoredSize) (next : ℕ) → size_groups_at counts list at ≡ found stored next
    → length stored ≡ total counts
unfolding size_groups_at size_group_at total
groups-count [] list at stored next e = ap length (sym (found-same e).0)
groups-count (count ∷ counts) list at stored next e =
    let ih : (m : ℕ) (s : List StoredSize) (j : ℕ) → size_groups_at counts list m ≡ found s j → length s ≡ total counts
    = λ m s j. groups-count counts list m s j in
    and_then-parts (size_group_at count list at) _ e (λ group m e₁ e₂.
    and_then-parts (size_groups_at counts list m) _ e₂ (λ rest j e₃ e₄.
    let one : length group ≡ count =
    stored-count count (get_or list at 0) (get_or list (at + 1) 0) 0 list (at + 2) group m (checked-found (λ n. n) _ _ e₁).1 in
    ap length (sym (found-same e₄).0) ∙ length-append group rest ∙ ap₂ (λ (a b : ℕ). a + b) one (ih m rest j e₃)))

-- The answer has as many lengths as there are reads.
pub sizes_count : (n : ℕ) (section lengths : List ℕ) (end : ℕ) → sizes_answer n section ≡ found lengths end → length lengths ≡ n
unfolding sizes_answer
sizes_count n section lengths end e =
    and_then-parts (size_groups_at (group_sizes n) section 0) _ e (λ stored m e₁ e₂.
    ap length (sym (found-same (checked-found (λ n. n) _ _ e₂).1).0)
    ∙ length-lengths_from 0 stored
    ∙ groups-count (group_sizes n) section 0 stored m e₁
    ∙ total-group_sizes n)

-- Entries run along the read as printed (01, Records: offsets run along the read as printed): on
-- either strand the letter at an entry's place is that entry's. Assumes nothing.
use mathlib.Core.Path.{◌≡◌, ap₂}
use Prim.Native.Nat.{ℕ, ◌+◌, ◌-◌, ◌<◌}
use native.Mathlib.Omega.{arith}
use mathlib.Core.Bool.{Bool, true, false, cond}
use mathlib.Core.List.{List, map}
use lib.ListN.{length, get_or, length-map}
use borrow.Author.Tests.{lt-ltb, le-ltb}
use Rattle.base.specs.Lists.{member, index_of, places_from}
use Rattle.base.proofs.Tests.{or-neither}
use Rattle.dna.specs.Record.{ReadContext, RecordFields}
use Rattle.dna.specs.Alignment.{is_aligned, entries_of, left_of, aligned_length, reference_index}
use Rattle.dna.specs.Alignment.{entry_places}
use Rattle.dna.specs.RecordFaults.{later_zero, entry_offset_invalid}
use Rattle.dna.specs.Letters.{entry_code, reference_code, aligned_cause, fields_cause}
use Rattle.base.proofs.StepsLaws.{length-places}
use Rattle.dna.specs.Rules.{Steps}
use Rattle.dna.proofs.OffsetLaws.{tests-steps, place_inside, index_of-place, member_get_or}

-- Where 17 does not fit, the letter at the place of entry `number` comes from that entry.
pub entry_as_printed : (context : ReadContext) (fields : RecordFields) (number : ℕ)
    → is_aligned fields ≡ true → entry_offset_invalid context fields ≡ false
    → number < length (entries_of fields)
    → fields_cause context fields (left_of fields + get_or (entry_places fields) number 0)
    ≡ entry_code number (reference_index context fields (get_or (entry_places fields) number 0))
    context.forward
unfolding entry_offset_invalid entry_places fields_cause aligned_cause
entry_as_printed context fields number aligned valid inside =
    let offsets : List ℕ = map (λ entry. entry.offset) (entries_of fields) in
    let tests = or-neither (later_zero offsets) _ valid in
    let steps : Steps (aligned_length context fields) 0 0 offsets =
    tests-steps _ offsets tests.0 tests.1 in
    let many : length offsets ≡ length (entries_of fields) =
    length-map (entries_of fields) (λ entry. entry.offset) in
    let k : ℕ = get_or (places_from 0 offsets) number 0 in
    let within : k < aligned_length context fields =
    place_inside _ 0 0 offsets steps number (omega arith) in
    let back : left_of fields + k - left_of fields ≡ k = omega arith in
    let stands : member k (places_from 0 offsets) ≡ true =
    member_get_or (places_from 0 offsets) number (omega (arith, length-places 0 offsets)) in
    let counted : index_of k (places_from 0 offsets) ≡ number =
    index_of-place _ 0 0 offsets steps number (omega arith) in
    let index : ℕ = reference_index context fields k in
    let here : aligned_cause context fields k ≡ entry_code number index context.forward =
    ap₂ (λ (t : Bool) (n : ℕ). cond t (entry_code n index context.forward)
    (reference_code index context.forward)) stands counted in
    rw (
      aligned,
      le-ltb (left_of fields + k) (left_of fields) (omega arith),
      lt-ltb (left_of fields + k) (left_of fields + aligned_length context fields) (omega arith),
      back,
    ) here

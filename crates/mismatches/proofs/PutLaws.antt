-- What writing entries answers: their number up to 31, and 32 for more. Assumes nothing.
use mathlib.Core.Path.{◌≡◌, refl, sym, ap, ◌∙◌}
use Prim.Native.Nat.{ℕ, ◌+◌, ◌≤◌, ◌<◌}
use native.Mathlib.Omega.{arith}
use mathlib.Core.List.{List, map}
use lib.ListN.{length}
use Rattle.std.specs.Prelude.{Some, None}
use borrow.Author.Tests.{le-leb, lt-leb}
use Rattle.base.specs.Paste.{pasted}
use Rattle.base.proofs.AnswerLaws.{cond_yes, cond_no}
use Rattle.base.proofs.ListLaws.{by_order}
use Rattle.dna.specs.Record.{max_entries, Entry, entry_byte}
use Rattle.mismatches.specs.Entries.{answered_count, EntriesPut}

answered-few : (count : ℕ) → count ≤ max_entries → answered_count count ≡ Some count
unfolding answered_count
answered-few count few = cond_yes _ (le-leb count max_entries few) refl

answered-many : (count : ℕ) → max_entries < count → answered_count count ≡ None
unfolding answered_count
answered-many count many = cond_no _ (lt-leb count max_entries many) refl

module _ {old new : List ℕ} {at : ℕ} {entries : List Entry} where
  -- They fit.
  pub put_few : at + length entries ≤ max_entries → (answer : ℕ) → answer ≡ at + length entries
      → new ≡ pasted old at (map entry_byte entries) → EntriesPut old new at entries (Some answer)
  put_few few answer is e =
      record { counted = ap Some is ∙ sym (answered-few (at + length entries) few); stand = λ h. e }

  -- There are more.
  pub put_many : max_entries < at + length entries → EntriesPut old new at entries None
  put_many many =
      record {
        counted = sym (answered-many (at + length entries) many);
        stand = λ few. absurd (omega arith);
      }

  -- A number is answered: they fit, and it is theirs.
  pub put_within : {answer : ℕ} → EntriesPut old new at entries (Some answer)
      → (answer ≡ at + length entries) × (answer ≤ max_entries)
      × (new ≡ pasted old at (map entry_byte entries))
  put_within {answer} put =
      by_order max_entries (at + length entries)
      (λ many. let e = put.counted ∙ answered-many (at + length entries) many in absurd cc)
      (λ few.
      let same : Some answer ≡ Some (at + length entries) =
      put.counted ∙ answered-few (at + length entries) few in
      let is : answer ≡ at + length entries = cc in
      (is, omega arith, put.stand few))

  -- None is: there are more.
  pub put_over : EntriesPut old new at entries None → max_entries < at + length entries
  put_over put =
      by_order max_entries (at + length entries) (λ many. many)
      (λ few. let e = put.counted ∙ answered-few (at + length entries) few in absurd cc)

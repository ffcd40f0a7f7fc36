-- `record_writer::list_stored` meets its contract. Assumes nothing.
use mathlib.Core.Path.{◌≡◌, refl}
use Prim.Native.Nat.{ℕ}
use lib.Dec.{ltb}
use Rattle.dna.specs.declared.Record.{Record}
use Rattle.dna.specs.declared.Record.TheVariants as kinds
use Rattle.record_writer.specs.Writable.{list_stored}
use Rattle.record_writer.proofs.list_stored.Goals as goal

pub returns-in-Raw4 : goal.returns-in-Raw4
unfolding list_stored
returns-in-Raw4 c =
    simp c.in-Raw4.is

-- A list may follow a record of any other kind.
stored : (r : Record) (count : ℕ) → (r ≡ kinds.Raw4 → ⊥) → ltb 0 count ≡ list_stored r count
unfolding list_stored
stored (kinds.Perfect placement) count other = refl
stored (kinds.Global placement) count other = refl
stored (kinds.Local placement) count other = refl
stored kinds.Raw count other = refl
stored kinds.Raw4 count other = absurd (other refl)

pub returns-in_default : goal.returns-in_default
returns-in_default c =
    stored c.args.«record» c.args.count c.in_default.not-Raw4

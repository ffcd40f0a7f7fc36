-- A record that is decoded lies in the section as its letters and counts need it. Assumes nothing.
use mathlib.Core.Path.{◌≡◌, refl, ap, subst}
use Prim.Native.Nat.{ℕ, ◌+◌, ◌-◌, ◌≤◌}
use native.Mathlib.Nat.{zero-add}
use native.Mathlib.Omega.{arith}
use mathlib.Core.Bool.{Bool, true, false, cond, not}
use mathlib.Core.List.{List, map}
use lib.ListN.{length}
use Rattle.base.specs.Lists.{AllBytes}
use Rattle.base.specs.Answer.{found}
use Rattle.dna.specs.Sizes.{max_read_length}
use Rattle.dna.specs.Reference.{ReferenceFits}
use Rattle.dna.specs.Record.{ReadContext}
use Rattle.dna.specs.Record.{StoredRecord, has_n_list, NListFits}
use Rattle.dna.specs.Alignment.{is_aligned, field_of, entries_of, left_of, right_of, aligned_length}
use Rattle.dna.specs.Alignment.{position, is_local, runs_down, leftmost}
use Rattle.dna.specs.RecordAt.{entries_at, record_at}
use Rattle.dna.specs.Rules.{Steps, RulesHold, NListHolds}
use Rattle.dna.specs.declared.Placement.{Placement}
use Rattle.dna.specs.declared.Record.{Record}
use Rattle.dna.specs.declared.Record.TheVariants as kinds
use Rattle.dna.proofs.OffsetLaws.{steps_tests}
use Rattle.dna.proofs.RecordSound.{RecordFoundAt, record-found}
use Rattle.dna.proofs.RulesMean.{rules_mean}
use Rattle.reference.proofs.Fits.{stretch-fits}
use Rattle.records.specs.declared.Layout.{Layout}
use Rattle.records.specs.Decoded.{record_of, layout_of}
use Rattle.record_letters.specs.Laid.{is_forward, fields_in, forward_in, is_found, local_leftmost}
use Rattle.record_letters.specs.Laid.{packed_in, PlacedIn, Laid}
use Rattle.record_letters.specs.Printed.{Printable}
use Rattle.record_letters.proofs.Ranges.{packed_size, LaidInRange}
use Rattle.record_letters.proofs.LaidLaws.{laid_in_range}

-- The lowest index of a local record, as the definition computes it.
local_same : (placement : Placement) (aligned : ℕ)
    → cond (not (is_forward placement.strand)) (0 + placement.position + 1 - aligned)
    (0 + placement.position)
    ≡ local_leftmost placement aligned
unfolding local_leftmost
local_same placement aligned =
    ap (λ (p : ℕ). cond (not (is_forward placement.strand)) (p + 1 - aligned) p)
    (zero-add placement.position)

-- How a record of each kind is placed.
placed_in : (section reference : List ℕ) (bases read_length : ℕ) (record' : Record) (layout : Layout)
    → LaidInRange section bases read_length record' layout → ReferenceFits bases reference
    → PlacedIn section reference read_length record' layout
unfolding fields_in is_aligned entries_of left_of right_of field_of aligned_length position is_local
    runs_down leftmost forward_in
placed_in section reference bases read_length (kinds.Perfect placement) layout range fits =
    stretch-fits placement.position read_length fits
    (omega (arith, range.span refl))
placed_in section reference bases read_length (kinds.Global placement) layout range fits =
    record {
      stretch =
          stretch-fits placement.position read_length fits
          (omega (arith, range.span refl));
      places =
          let whole : read_length - 0 ≡ read_length = omega arith in
          (steps_tests read_length _
          (subst (λ (n : ℕ). Steps n 0 0 (map (λ entry. entry.offset)
          (entries_at section layout.entries layout.entry_count)))
          whole range.steps)).1;
    }
placed_in section reference bases read_length (kinds.Local placement) layout range fits =
    let aligned : ℕ = read_length - (placement.left + placement.right) in (
      range.clips,
      λ reverse. omega (arith, range.exact (ap not reverse)),
      record {
        stretch =
            stretch-fits (local_leftmost placement aligned) aligned fits
            (omega (arith, range.span refl, local_same placement aligned));
        places = (steps_tests aligned _ range.steps).1;
      },
    )
placed_in section reference bases read_length kinds.Raw layout range fits = tt
placed_in section reference bases read_length kinds.Raw4 layout range fits = tt

packed-same : (section : List ℕ) (size : ℕ) (record' : Record) (layout : Layout)
    → packed_size size (fields_in section size record' layout) ≡ packed_in size record'
unfolding packed_in fields_in packed_size
packed-same section size (kinds.Perfect placement) layout = refl
packed-same section size (kinds.Global placement) layout = refl
packed-same section size (kinds.Local placement) layout = refl
packed-same section size kinds.Raw layout = refl
packed-same section size kinds.Raw4 layout = refl

-- An N list has at most 31 positions.
few-offsets : (has : Bool) (read_length : ℕ) (offsets : List ℕ) → NListFits has offsets
    → (has ≡ true → NListHolds read_length offsets) → length offsets ≤ 31
few-offsets true read_length offsets fits holds = (holds refl).most
few-offsets false read_length offsets fits holds = omega (arith, ap length fits)

-- Decoding a read that is not too long, over its reference, gives a record that is laid.
pub decoded-laid : (context : ReadContext) (reference list : List ℕ) (at : ℕ) → AllBytes list
    → ReferenceFits context.reference_bases reference → context.read_length ≤ max_read_length
    → {stored : StoredRecord} {next : ℕ} → record_at context list at ≡ found stored next
    → Laid list reference context.read_length (record_of context stored.fields)
    (layout_of context at stored next)
unfolding is_found layout_of
decoded-laid context reference list at bytes fits short {stored = stored} {next = next} is =
    let range = laid_in_range context list at bytes is in
    let f : RecordFoundAt context list at stored next = record-found context list at bytes is in
    let rules : RulesHold context stored = (rules_mean context stored).0 f.none in
    let has : Bool = has_n_list context stored.fields in
    record {
      lists = record {
        short = short;
        entry_count = range.few;
        entries_inside =
            omega (arith, range.entries_end, range.packed_end, range.list_end, range.section_end);
        n_count = few-offsets has context.read_length stored.n_offsets f.fits.n_list rules.n_list;
        n_inside = omega (arith, range.list_end, range.section_end);
        n_read = ap is_found range.listed;
      };
      packed =
          omega (
            arith,
            packed-same list context.read_length (record_of context stored.fields)
                (layout_of context at stored next),
            range.packed_end,
            range.list_end,
            range.section_end,
          );
      placed =
          placed_in list reference context.reference_bases context.read_length
          (record_of context stored.fields) (layout_of context at stored next) range fits;
    }

-- It can be printed.
pub decoded-printable : (context : ReadContext) (reference list : List ℕ) (at : ℕ)
    → AllBytes list → ReferenceFits context.reference_bases reference
    → context.read_length ≤ max_read_length
    → {stored : StoredRecord} {next : ℕ} → record_at context list at ≡ found stored next
    → Printable list reference context.read_length (record_of context stored.fields)
    (layout_of context at stored next)
decoded-printable context reference list at bytes fits short is =
    let range = laid_in_range context list at bytes is in
    record {
      laid = decoded-laid context reference list at bytes fits short is;
      counted = range.counted;
      later = (steps_tests _ _ range.steps).0;
      codes = range.codes;
    }

-- `record_writer::put_fields` meets its contract: by the kind. Assumes nothing.
-- The read's codes and the entries that are written.
use mathlib.Core.Path.{◌≡◌, sym, ap, ◌∙◌, subst}
use Prim.Native.Nat.{ℕ, ◌+◌, ◌≤◌}
use native.Mathlib.Omega.{arith}
use mathlib.Core.List.{List}
use lib.ListN.{length}
use Rattle.base.specs.Paste.{pasted}
use Rattle.dna.specs.Record.{Entry}
use Rattle.dna.specs.declared.Placement.{Placement}
use Rattle.dna.specs.declared.Record.{Record}
use Rattle.dna.specs.declared.Record.TheVariants as kinds
use Rattle.letter_packing.specs.Read.{codes_of}
use Rattle.record_writer.specs.Written.{fields_written}
use Rattle.record_writer.specs.Parts.{entries_of, position_bytes, aligned_bytes, local_bytes, raw_bytes}
use Rattle.record_writer.specs.Parts.{raw4_bytes}
use Rattle.record_writer.specs.Writable.{KindFits}
use Rattle.record_writer.proofs.FieldLaws.{perfect-fields, global_fields, local_fields}
use Rattle.record_writer.proofs.FieldLaws.{raw-fields, raw4-fields, length_aligned}
use Rattle.record_writer.proofs.put_fields.Goals as goal
use Rattle.record_writer.proofs.put_fields.Goals.{Start}

abbrev codes : (c : Start) → List ℕ
codes c = codes_of c.args.read.now

abbrev entries : (c : Start) → List Entry
entries c = entries_of c.args.entries.now

-- The bytes of the fields, where the record is `r`.
abbrev fields : (c : Start) (r : Record) → List ℕ
fields c r = fields_written c.args.previous r (entries c) (codes c)

-- Those of each kind.
perfect : (c : Start) (p : Placement) → fields c (kinds.Perfect p)
    ≡ position_bytes c.args.previous p.position
perfect c p = perfect-fields c.args.previous p (entries c) (codes c)

global : (c : Start) (p : Placement) → fields c (kinds.Global p)
    ≡ aligned_bytes 4 c.args.previous p.position c.args.entries.now
global c p =
    global_fields c.args.previous p c.args.entries.now (codes c)

local : (c : Start) (p : Placement) → fields c (kinds.Local p)
    ≡ local_bytes p c.args.previous c.args.entries.now (codes c)
local c p =
    local_fields c.args.previous p c.args.entries.now (codes c)

raw : (c : Start) → fields c kinds.Raw ≡ raw_bytes (codes c)
raw c = raw-fields c.args.previous (entries c) (codes c)

raw4 : (c : Start) → fields c kinds.Raw4 ≡ raw4_bytes (codes c)
raw4 c = raw4-fields c.args.previous (entries c) (codes c)

-- How many bytes a global record takes.
many : (c : Start) (p : Placement)
    → length (aligned_bytes 4 c.args.previous p.position c.args.entries.now)
    ≡ 1 + length (position_bytes c.args.previous p.position) + length c.args.entries.now
many c p =
    length_aligned 4 c.args.previous p.position c.args.entries.now

-- What is known of the record, by its kind.
kind : (c : Start) (r : Record) → c.args.«record» ≡ r
    → KindFits r (length c.args.read.now)
kind c r e =
    subst (λ (r : Record). KindFits r (length c.args.read.now)) e c.requires.writable.kind

-- There is room for the bytes of the kind.
room : (c : Start) (r : Record) (bytes : List ℕ) → c.args.«record» ≡ r → fields c r ≡ bytes
    → c.args.at + length bytes ≤ length c.args.out.now
room c r bytes e is =
    subst (λ (b : List ℕ). c.args.at + length b ≤ length c.args.out.now)
    (ap (fields c) e ∙ is) c.requires.read_in_bounds

-- What the kind's writer wrote.
written : (c : Start) (r : Record) (bytes : List ℕ) → c.args.«record» ≡ r
    → fields c r ≡ bytes
    → (new : List ℕ) (last : ℕ)
    → (new ≡ pasted c.args.out.now c.args.at bytes) × (last ≡ c.args.at + length bytes)
    → (new ≡ pasted c.args.out.now c.args.at (fields c c.args.«record»))
    × (last ≡ c.args.at + length (fields c c.args.«record»))
written c r bytes e is new last put =
    subst
    (λ (b : List ℕ).
    (new ≡ pasted c.args.out.now c.args.at b) × (last ≡ c.args.at + length b))
    (sym (ap (fields c) e ∙ is)) put

pub put_position-requires : goal.put_position-requires
put_position-requires c =
    ((kind (goal.at.put_position-requires c).Start _ c.in-Perfect.is).position, room (goal.at.put_position-requires c).Start _ _ c.in-Perfect.is (perfect (goal.at.put_position-requires c).Start c.in-Perfect.placement))

pub put_aligned-requires-clause-entries_in_bounds : goal.put_aligned-requires-clause-entries_in_bounds
put_aligned-requires-clause-entries_in_bounds c =
    let start = (goal.at.put_aligned-requires-clause-entries_in_bounds c).Start in
    omega (arith, room start _ _ c.in-Global.is (global start c.in-Global.placement), many start c.in-Global.placement)

pub put_local-requires-clause-read_in_bounds : goal.put_local-requires-clause-read_in_bounds
put_local-requires-clause-read_in_bounds c =
    let start = (goal.at.put_local-requires-clause-read_in_bounds c).Start in
    room start _ _ c.in-Local.is (local start c.in-Local.placement)

pub put_raw-requires-clause-read_in_bounds : goal.put_raw-requires-clause-read_in_bounds
put_raw-requires-clause-read_in_bounds c =
    let start = (goal.at.put_raw-requires-clause-read_in_bounds c).Start in
    room start _ _ c.in-Raw.is (raw start)

pub put_raw4-requires-clause-read_in_bounds : goal.put_raw4-requires-clause-read_in_bounds
put_raw4-requires-clause-read_in_bounds c =
    let start = (goal.at.put_raw4-requires-clause-read_in_bounds c).Start in
    room start _ _ c.in-Raw4.is (raw4 start)

pub returns-in-Perfect : goal.returns-in-Perfect
returns-in-Perfect c =
    written (goal.at.returns-in-Perfect c).Start _ _ c.in-Perfect.is (perfect (goal.at.returns-in-Perfect c).Start c.in-Perfect.placement) _ _ c.put_position.ensures

pub returns-in-Global : goal.returns-in-Global
returns-in-Global c =
    written (goal.at.returns-in-Global c).Start _ _ c.in-Global.is (global (goal.at.returns-in-Global c).Start c.in-Global.placement) _ _ (
      c.put_aligned.ensures.0,
      omega (
        arith,
        c.put_aligned.ensures.1,
        many (goal.at.returns-in-Global c).Start
            c.in-Global.placement,
      ),
    )

pub returns-in-Local : goal.returns-in-Local
returns-in-Local c =
    written (goal.at.returns-in-Local c).Start _ _ c.in-Local.is (local (goal.at.returns-in-Local c).Start c.in-Local.placement) _ _ c.put_local.ensures

pub returns-in-Raw : goal.returns-in-Raw
returns-in-Raw c =
    written (goal.at.returns-in-Raw c).Start _ _ c.in-Raw.is (raw (goal.at.returns-in-Raw c).Start) _ _ c.put_raw.ensures

pub returns-in-Raw4 : goal.returns-in-Raw4
returns-in-Raw4 c =
    written (goal.at.returns-in-Raw4 c).Start _ _ c.in-Raw4.is (raw4 (goal.at.returns-in-Raw4 c).Start) _ _ c.put_raw4.ensures

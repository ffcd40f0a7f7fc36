-- What a step gives, way by way, as code finds it; and what it leaves. Assumes nothing.
use mathlib.Core.Path.{◌≡◌, refl, sym, ap, ap₂, ◌∙◌}
use Prim.Native.Nat.{ℕ, ◌+◌, ◌%◌}
use native.Mathlib.Omega.{arith}
use mathlib.Core.List.{List}
use Rattle.lengths.specs.Cursor.{LengthStep}
use Rattle.std.specs.Prelude.{Result, Ok, Err, Some, None}
use Rattle.records.specs.declared.Decoded.{Decoded}
use Rattle.reads.specs.declared.Read.{Read}
use Rattle.reads.specs.declared.ReadStep.{ReadStep}
use Rattle.base.specs.Lists.{AllBytes}
use Rattle.base.specs.Answer.{Scan, checked, found, refused, and_then, refused_as}
use Rattle.dna.specs.Record.{ReadContext, RecordFields, perfect, global, local, raw, raw4}
use Rattle.dna.specs.Record.{StoredRecord}
use Rattle.dna.specs.Alignment.{position_after, is_aligned}
use Rattle.dna.specs.Division.{GroupFlags, context_of}
use Rattle.dna.specs.RecordAt.{record_at}
use Rattle.dna.specs.Walk.{of_read, ReadRefusal, Walk, refused_at}
use Rattle.dna.specs.declared.Record.{Record}
use Rattle.lengths.specs.Cursor.{length_step}
use Rattle.lengths.specs.declared.SizeCursor.{SizeCursor}
use Rattle.records.specs.Decoded.{record_of, layout_of, decoded_from, decoded_at}
use Rattle.records.specs.declared.Layout.{Layout}
use Rattle.reads.specs.declared.ReadCursor.{ReadCursor}
use Rattle.reads.specs.ReadWalk.{Source, FoundRead, begins_group, faults_before, flags_before}
use Rattle.reads.specs.ReadWalk.{record_place, context_at, read_at}
use Rattle.reads.specs.Cursor.{flags_of, group_before, group_step, standing_of, cursor_after}
use Rattle.reads.specs.Cursor.{Taken, step_of_length, read_step, read_in, position_in, step_answer}
use Rattle.reads.proofs.GroupByteLaws.{flags-there}
use Rattle.base.proofs.ListLaws.{by_test}
use Rattle.reads.proofs.GroupStepLaws.{taken_at, refused-through, taken-through}

-- The bytes of the group, by the number that is at hand.
pub flags-before : (source : Source) (cursor : ReadCursor) → AllBytes source.dna
    → flags_before source (standing_of cursor) cursor.at
    ≡ flags_of (group_before source.dna cursor.read cursor.at cursor.group)
unfolding flags_before group_before
flags-before source cursor bytes =
    by_test (begins_group cursor.read)
    (λ t. rw t (sym (flags-there source.dna cursor.at bytes)))
    (λ t. rw t)

-- ---- The record

-- What decoding found in the section.
pub record DecodedFound (context : ReadContext) (dna : List ℕ) (at : ℕ) (record' : Record)
    (layout : Layout) : Type 0 where
  pub stored : StoredRecord
  pub next : ℕ
  pub stands : record_at context dna at ≡ found stored next
  pub record_is : record' ≡ record_of context stored.fields
  pub layout_is : layout ≡ layout_of context at stored next

scan_found : (context : ReadContext) (dna : List ℕ) (at : ℕ) (record' : Record) (layout : Layout)
    (scan : Scan StoredRecord) → record_at context dna at ≡ scan
    → Ok (record { «record» = record'; layout = layout }) ≡ decoded_from context at scan
    → DecodedFound context dna at record' layout
unfolding decoded_from
scan_found context dna at record' layout (found stored next) is e =
    let same : ◌≡◌ {A = Decoded} (record { «record» = record'; layout = layout })
    (record {
      «record» = record_of context stored.fields;
      layout = layout_of context at stored next;
    }) =
    cc in
    record {
      stored = stored;
      next = next;
      stands = is;
      record_is = ap (λ (d : Decoded). d.«record») same;
      layout_is = ap (λ (d : Decoded). d.layout) same;
    }
scan_found context dna at record' layout (refused number) is e =
    let z : ◌≡◌ {A = ℕ} 0 1 = cc in absurd (omega arith)

pub decoded-found : (context : ReadContext) (dna : List ℕ) (at : ℕ) (record' : Record)
    (layout : Layout) → Ok (record { «record» = record'; layout = layout }) ≡ decoded_at context dna at
    → DecodedFound context dna at record' layout
decoded-found context dna at record' layout e =
    scan_found context dna at record' layout (record_at context dna at) refl e

scan-refused : (context : ReadContext) (at number : ℕ) (scan : Scan StoredRecord)
    → Err number ≡ decoded_from context at scan → scan ≡ refused number
unfolding decoded_from
scan-refused context at number (found stored next) e =
    let z : ◌≡◌ {A = ℕ} 0 1 = cc in absurd (omega arith)
scan-refused context at number (refused other) e = let is : other ≡ number = cc in ap refused is

-- A read that was taken, and the cursor after it.
abbrev pub step_taken : (read : Read) (cursor : ReadCursor) → Result ReadStep ReadRefusal
step_taken read cursor = Ok (record { read = read; cursor = cursor })

-- The position after a record, by the record of the code.
pub position_in_lem : (context : ReadContext) (fields : RecordFields)
    → position_in (record_of context fields) context.previous_position
    ≡ position_after context fields
unfolding position_in record_of position_after is_aligned
position_in_lem context (perfect field) = refl
position_in_lem context (global field entries) = refl
position_in_lem context (local field entries left right clipped) = refl
position_in_lem context (raw letters) = refl
position_in_lem context (raw4 letters) = refl

-- ---- A step, as code finds it

module _ (source : Source) (cursor : ReadCursor) where
  -- There is no length.
  pub step_no_length : None ≡ length_step source.sizes cursor.sizes
      → Err (of_read 0 9) ≡ step_answer (read_step source cursor)
  unfolding read_step step_of_length step_answer
  step_no_length e = ap (λ (s : LengthStep). step_answer (step_of_length source cursor s)) e

  module _ (bytes : AllBytes source.dna) (size : ℕ) (sizes : SizeCursor)
      (long : Some (size, sizes) ≡ length_step source.sizes cursor.sizes) where
    abbrev taking : Walk FoundRead → Walk Taken
    taking answer =
        and_then answer (λ read end.
        found (record { read = read; cursor = cursor_after source cursor sizes read }) end)

    abbrev reading : Walk FoundRead
    reading = read_at source (standing_of cursor) size cursor.at

    step_read : read_step source cursor ≡ taking reading
    unfolding read_step step_of_length
    step_read = ap (step_of_length source cursor) (sym long)

    -- The bytes of the group are refused.
    pub step_no_group : (number : ℕ)
        → Err number
        ≡ group_step source.dna source.ns source.reads cursor.read cursor.at
        cursor.group
        → Err (of_read cursor.read number) ≡ step_answer (read_step source cursor)
    unfolding group_step faults_before read_at and_then step_answer
    step_no_group number e =
        sym
        (ap step_answer
        (step_read
        ∙ ap taking
        (refused-through cursor.read number _ _ (faults_before source cursor.read cursor.at)
        _ (sym e))))

    module _ (at group : ℕ)
        (grouped : taken_at at group
        ≡ group_step source.dna source.ns source.reads cursor.read cursor.at
        cursor.group) where
      abbrev context : ReadContext
      context =
          context_of source.bases (flags_of group) (cursor.read % 8) cursor.position size

      through : {A : Type 0} (rest : Walk A)
          → (checked (refused_at cursor.read) (faults_before source cursor.read cursor.at)
          rest
          ≡ rest)
          × ((record_place cursor.read cursor.at ≡ at)
          × (group_before source.dna cursor.read cursor.at cursor.group ≡ group))
      unfolding group_step faults_before
      through rest =
          taken-through cursor.read _ _ _ _ (faults_before source cursor.read cursor.at)
          rest (sym grouped)

      abbrev nothing : Walk FoundRead
      nothing = refused_at 0 0

      context-is : context_at source (standing_of cursor) size cursor.at ≡ context
      unfolding context_at
      context-is =
          ap
          (λ (flags : GroupFlags).
          context_of source.bases flags (cursor.read % 8) cursor.position size)
          (flags-before source cursor bytes ∙ ap flags_of (through nothing).1.1)

      -- The record is read at its place, with the bits of its group.
      reading_is : reading
          ≡ and_then (refused_as (of_read cursor.read) (record_at context source.dna at))
          (λ stored next.
          found (record { context = context; stored = stored; at = at; end = next }) next)
      unfolding read_at
      reading_is =
          (through _).0
          ∙ ap₂
          (λ (c : ReadContext) (p : ℕ).
          and_then (refused_as (of_read cursor.read) (record_at c source.dna p))
          (λ stored next.
          found (record { context = c; stored = stored; at = p; end = next }) next))
          context-is (through nothing).1.0

      -- The record is refused.
      pub step_no_record : (number : ℕ)
          → Err number ≡ decoded_at context source.dna at
          → Err (of_read cursor.read number) ≡ step_answer (read_step source cursor)
      unfolding and_then refused_as step_answer
      step_no_record number e =
          sym
          (ap step_answer
          (step_read
          ∙ ap taking
          (reading_is
          ∙ ap
          (λ (scan : Scan StoredRecord).
          and_then (refused_as (of_read cursor.read) scan)
          (λ stored next.
          found (record { context = context; stored = stored; at = at; end = next }) next))
          (scan-refused context at number (record_at context source.dna at) e))))

      -- A read was found.
      pub step_found : (record' : Record) (layout : Layout) (position' : ℕ)
          → Ok (record { «record» = record'; layout = layout }) ≡ decoded_at context source.dna at
          → position' ≡ position_in record' cursor.position
          → step_taken (record { length = size; «record» = record'; layout = layout })
          (record {
            at = layout.end;
            position = position';
            sizes = sizes;
            read = cursor.read + 1;
            group = group;
          })
          ≡ step_answer (read_step source cursor)
      unfolding and_then refused_as step_answer read_in cursor_after layout_of context_of
      step_found record' layout position' e p =
          let d : DecodedFound context source.dna at record' layout =
          decoded-found context source.dna at record' layout e in
          let end : layout.end ≡ d.next = ap (λ (l : Layout). l.end) d.layout_is in
          let after : position' ≡ position_after context d.stored.fields =
          p
          ∙ ap (λ (r : Record). position_in r cursor.position) d.record_is
          ∙ position_in_lem context d.stored.fields in
          let here : group ≡ group_before source.dna cursor.read cursor.at cursor.group =
          sym (through nothing).1.1 in
          (λ t.
          step_taken
          (record { length = size; «record» = d.record_is t; layout = d.layout_is t })
          (record {
            at = end t;
            position = after t;
            sizes = sizes;
            read = cursor.read + 1;
            group = here t;
          }))
          ∙ sym
          (ap step_answer
          (step_read
          ∙ ap taking
          (reading_is
          ∙ ap
          (λ (scan : Scan StoredRecord).
          and_then (refused_as (of_read cursor.read) scan)
          (λ stored next.
          found (record { context = context; stored = stored; at = at; end = next }) next))
          d.stands)))

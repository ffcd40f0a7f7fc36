-- `reads::next_read` meets its contract: one law for each way through. Assumes nothing.
-- ---- Where the function begins, and what it reads from
use mathlib.Core.Path.{◌≡◌, sym, ap, ◌∙◌}
use Prim.Native.Nat.{ℕ, ◌%◌, ◌≤◌}
use native.Mathlib.Omega.{arith}
use Rattle.std.specs.Prelude.{Some, Err}
use Rattle.dna.specs.Walk.{of_read}
use Rattle.dna.specs.Refused.{refusal_number, numbered, numbered_block}
use Rattle.dna.specs.declared.refusals.BlockRefusal.{BlockRefusal}
use Rattle.base.specs.Lists.{AllBytes}
use Rattle.dna.specs.Record.{ReadContext}
use Rattle.dna.specs.Division.{context_of}
use Rattle.lengths.specs.Cursor.{length_step}
use Rattle.lengths.proofs.StepLaws.{step_ranged}
use Rattle.records.specs.Decoded.{context_from, decoded_at}
use Rattle.records.specs.declared.Bits.{Bits}
use Rattle.reads.specs.ReadWalk.{Source}
use Rattle.reads.specs.Cursor.{source_of, flags_of, bits_at, group_step}
use Rattle.reads.proofs.GroupStepLaws.{taken_at, group-place}
use Rattle.reads.proofs.StepLaws.{step_no_length, step_no_group, step_no_record, step_found}
use Rattle.reads.proofs.next_read.Goals as goal
use Rattle.reads.proofs.next_read.Goals.{After-bits_of-bits, After-decode_record, In-Ok, In-Some}

abbrev source : (c : In-Some) → Source
source c =
    let a = c.args in
    source_of a.dna.now a.sizes.now a.ns.now a.reads a.bases

bytes : (c : In-Some) → AllBytes c.args.dna.now
bytes c =
    record { each = λ k h. omega (arith, c.type_inv.dna k) }

-- The length of the read.
long : (c : In-Some)
    → Some (c.in-Some.length, c.in-Some.sizes_after)
    ≡ length_step c.args.sizes.now c.args.cursor.sizes
long c = sym c.in-Some.is ∙ c.next_length.ensures

-- It is no longer than a read may be.
short : (c : In-Some) → c.in-Some.length ≤ 100_000
short c = (step_ranged _ _ _ _ (sym (long c))).1

-- Where the record stands, and the bytes of its group.
grouped : (c : In-Ok)
    → taken_at c.in-Ok.group.at c.in-Ok.group.group
    ≡ (let a = c.args in
    group_step a.dna.now a.ns.now a.reads a.cursor.read a.cursor.at
    a.cursor.group)
unfolding numbered
grouped c = sym (ap numbered c.in-Ok.is) ∙ c.take_group.ensures

-- What is known of the read.
abbrev context : (c : In-Ok) → ReadContext
context c =
    let a = c.args in
    context_of a.bases (flags_of c.in-Ok.group.group) (a.cursor.read % 8)
    a.cursor.position c.in-Some.length

-- The bits that it was decoded with.
context-is : (c : After-bits_of-bits)
    → (let a = c.args in
    context_from c.bits_of-bits.result c.in-Some.length a.cursor.position
    a.bases)
    ≡ context (goal.at.After-bits_of-bits c).In-Ok
unfolding context_of bits_at
context-is c =
    let a = c.args in
    ap
    (λ (b : Bits).
    context_from b c.in-Some.length a.cursor.position a.bases)
    c.bits_of-bits.ensures

-- What decoding answered.
decoded : (c : After-decode_record)
    → numbered c.decode_record.result
    ≡ decoded_at (context (goal.at.After-decode_record c).In-Ok) c.args.dna.now
    c.in-Ok.group.at
decoded c =
    c.decode_record.ensures
    ∙ ap
    (λ (x : ReadContext).
    decoded_at x c.args.dna.now
    c.in-Ok.group.at)
    (context-is (goal.at.After-decode_record c).After-bits_of-bits)

pub returns-in_default : goal.returns-in_default
unfolding numbered_block refusal_number
returns-in_default c =
    let a = c.args in
    ap (λ (r : BlockRefusal). numbered_block (Err r)) c.into.ensures
    ∙ step_no_length (source_of a.dna.now a.sizes.now a.ns.now a.reads a.bases)
    a.cursor (sym c.in_default.is ∙ c.next_length.ensures)

pub invariant_of-context : goal.invariant_of-context
invariant_of-context c =
    record {
      size_bounded = short (goal.at.invariant_of-context c).In-Some;
      previous_bounded = c.requires.1.near;
      bases_bounded = c.requires.0.small;
    }

pub decode_record-requires : goal.decode_record-requires
decode_record-requires c =
    let a = c.args in
    group-place a.dna.now a.ns.now a.reads a.cursor.read a.cursor.at
    a.cursor.group _ _ c.requires.1.inside (grouped (goal.at.decode_record-requires c).In-Ok)

pub overflow_add-result : goal.overflow_add-result
overflow_add-result c =
    record { fits = omega (arith, c.requires.0.few, c.requires.2) }

pub returns-in-Err : goal.returns-in-Err
unfolding numbered numbered_block
returns-in-Err c =
    let before = (goal.at.returns-in-Err c).In-Some in
    ap (λ (n : ℕ). Err (of_read n (refusal_number c.in-Err.refusal))) c.from-read.ensures
    ∙ step_no_group (source before) c.args.cursor (bytes before) _ _ (long before) _
    (sym (ap numbered c.in-Err.is) ∙ c.take_group.ensures)

pub returns-in-Err-decode_record : goal.returns-in-Err-decode_record
unfolding numbered numbered_block
returns-in-Err-decode_record c =
    let before = (goal.at.returns-in-Err-decode_record c).In-Some in
    ap (λ (n : ℕ). Err (of_read n (refusal_number c.in-Err-decode_record.refusal)))
    c.from-read.ensures
    ∙ step_no_record (source before) c.args.cursor (bytes before) _ _ (long before) _ _
    (grouped (goal.at.returns-in-Err-decode_record c).In-Ok) _
    (sym (ap numbered c.in-Err-decode_record.is)
    ∙ decoded (goal.at.returns-in-Err-decode_record c).After-decode_record)

pub returns : goal.returns
unfolding numbered numbered_block
returns c =
    let before = (goal.at.returns c).In-Some in
    step_found (source before) c.args.cursor (bytes before) _ _ (long before) _ _
    (grouped (goal.at.returns c).In-Ok) _ _ _
    (sym (ap numbered c.in-Ok-decode_record.is) ∙ decoded (goal.at.returns c).After-decode_record)
    c.position_after.ensures

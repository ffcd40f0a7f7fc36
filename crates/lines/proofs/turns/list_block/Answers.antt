-- `lines::turns::list_block` meets its contract: what decoding answers is what the turn's text is made
-- of. Assumes nothing.
use mathlib.Core.Path.{◌≡◌, sym, ap, ap₂, ◌∙◌}
use Prim.Native.Nat.{ℕ, ◌≤◌}
use native.Mathlib.Nat.{zero-add}
use native.Mathlib.Omega.{arith}
use mathlib.Core.List.{List}
use lib.ListN.{length, take}
use lib.Seq.{length-take-le}
use Rattle.base.specs.Lists.{AllBytes}
use Rattle.base.specs.Paste.{pasted}
use Rattle.format.specs.BlockAnswer.{Buffers, buffers_of}
use Rattle.format.specs.Answered.{counted_of, outcome_of_block}
use Rattle.format.specs.Outcome.{refusal}
use Rattle.lines.specs.Lines.{block_text}
use Rattle.lines.proofs.TurnLaws.{LentSizes, Listed, turn_accepted}
use Rattle.lines.proofs.TurnLaws.{turn_refused}
use Rattle.lines.proofs.turns.list_block.Goals as goal
use Rattle.lines.proofs.turns.list_block.Goals.{In-Ok, Start}

abbrev buffers : (c : Start) → Buffers
buffers c =
    buffers_of c.args.letters.now c.args.ends.now c.args.names.now c.args.name_ends.now

sizes : (c : Start) → LentSizes (buffers c)
sizes c =
    record { letters = c.requires.letters_len; ends = c.requires.ends_len; names = c.requires.names_len; name_ends = c.requires.name_ends_len }

listed : (c : In-Ok)
    → Listed c.args.bases c.args.reference.now c.args.window.now
    (buffers (goal.at.In-Ok c).Start) (sizes (goal.at.In-Ok c).Start)
    c.in-Ok.listed.bytes (counted_of c.in-Ok.listed.counts)
    c.decode-outcome.new.letters c.decode-outcome.new.ends
unfolding outcome_of_block
listed c =
    let a = c.args in
    let d = c.decode-outcome in
    let all : AllBytes a.window.now = record { each = λ k h. omega (arith, c.type_inv.window k) } in
    turn_accepted a.bases a.reference.now a.window.now (buffers (goal.at.In-Ok c).Start) (sizes (goal.at.In-Ok c).Start) all _ _ _ _
    c.in-Ok.ensures.0 (ap (λ (b : Buffers). b.letters) d.ensures.1)
    (ap (λ (b : Buffers). b.ends) d.ensures.1)

pub returns-in-Err : goal.returns-in-Err
unfolding outcome_of_block
returns-in-Err c =
    let a = c.args in
    let o = c.in-Err in
    let p = c.put_refused_line-size in
    let all : AllBytes a.window.now = record { each = λ k h. omega (arith, c.type_inv.window k) } in
    let t = turn_refused a.bases a.reference.now a.window.now (buffers (goal.at.returns-in-Err c).Start) (sizes (goal.at.returns-in-Err c).Start) all c.number-number.result o.refused.read a.block
    (ap (λ (n : ℕ). refusal n 0 o.refused.read) c.number-number.ensures ∙ o.ensures.0) in (
      p.ensures.0 ∙ ap (pasted a.text.now 0) (sym t.0),
      p.ensures.1 ∙ zero-add _ ∙ ap length (sym t.0),
      sym t.1,
      omega (arith, c.requires.text_room_in_bounds, p.ensures.2),
      omega arith,
    )

-- There are as many ends as reads.
fits : (c : In-Ok) → c.in-Ok.listed.counts.reads ≤ length c.decode-outcome.new.ends
fits c = omega (arith, (listed c).ends_fit, (listed c).ends_kept)

long : (c : In-Ok)
    → length (take c.in-Ok.listed.counts.reads c.decode-outcome.new.ends)
    ≡ c.in-Ok.listed.counts.reads
long c = length-take-le _ _ (fits c)

pub slice_bounds-put_block-end : goal.slice_bounds-put_block-end
slice_bounds-put_block-end c = fits (goal.at.slice_bounds-put_block-end c).In-Ok

pub slice_bounds-put_block-end-in-Ok : goal.slice_bounds-put_block-end-in-Ok
slice_bounds-put_block-end-in-Ok c =
    sym (long (goal.at.slice_bounds-put_block-end-in-Ok c).In-Ok)

pub put_block-size-requires-clause-ends_in_bounds : goal.put_block-size-requires-clause-ends_in_bounds
put_block-size-requires-clause-ends_in_bounds c =
    let l = listed (goal.at.put_block-size-requires-clause-ends_in_bounds c).In-Ok in
    omega (arith, c.requires.letters_len, c.requires.ends_len, c.requires.text_room_in_bounds, l.letters_kept, l.ends_kept, long (goal.at.put_block-size-requires-clause-ends_in_bounds c).In-Ok, fits (goal.at.put_block-size-requires-clause-ends_in_bounds c).In-Ok)

pub put_block-size-requires-clause-ends_rise : goal.put_block-size-requires-clause-ends_rise
put_block-size-requires-clause-ends_rise c =
    (listed (goal.at.put_block-size-requires-clause-ends_rise c).In-Ok).rises

pub returns-in-Ok : goal.returns-in-Ok
returns-in-Ok c =
    let l = listed (goal.at.returns-in-Ok c).In-Ok in
    let p = c.put_block-size in
    let a = c.args in
    let same = ap₂ (λ (id : ℕ) (rs : List (List ℕ)). block_text id (counted_of c.in-Ok.listed.counts) rs)
    c.block_id-id.ensures l.cuts
    ∙ sym (l.text_is a.block) in (
      p.ensures.0 ∙ ap (pasted a.text.now 0) same,
      p.ensures.1 ∙ ap length same,
      sym l.move_is,
      p.ensures.2,
      omega (arith, l.inside),
    )

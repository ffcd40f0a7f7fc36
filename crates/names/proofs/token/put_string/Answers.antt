use mathlib.Core.Path.{◌≡◌, sym, ap, ◌∙◌}
use mathlib.Core.List.{List}
use Prim.Native.Nat.{ℕ, ◌+◌, ◌<◌}
use native.Mathlib.Omega.{arith}
use lib.ListN.{length, get_or, drop, length-drop}
use Rattle.std.specs.Prelude.{slice_range}
use Rattle.base.proofs.PasteLaws.{pasted_nil}
use Rattle.tokens.specs.ColumnsAt.{string_length}
use Rattle.names.proofs.StringLaws.{range_to_end}
use Rattle.names.proofs.CopyLaws.{string_inside, copy_more, copy_end, copy_turn}
use Rattle.names.proofs.token.put_string.Goals as goal

-- The loop's bytes are those from the place on.
same : (section : List ℕ) (place size : ℕ)
    → get_or (slice_range section place (length section)) size 0 ≡ get_or (drop place section) size 0
same section place size = ap (λ (l : List ℕ). get_or l size 0) (range_to_end section place)

pub slice_bounds-from-items-count : goal.slice_bounds-from-items-count
slice_bounds-from-items-count c =
    omega (arith, string_inside c.args.section.now c.args.place c.requires.0)

pub slice_bounds-from-items-start : goal.slice_bounds-from-items-start
slice_bounds-from-items-start c =
    omega (arith, string_inside c.args.section.now c.args.place c.requires.0)

pub loop-size-init : goal.loop-size-init
loop-size-init c = (omega arith, sym (pasted_nil c.args.out.now c.args.at))

pub returns-then-from-eq-STRING_END : goal.returns-then-from-eq-STRING_END
returns-then-from-eq-STRING_END c =
    let a = c.args in
    let l = c.loop-size in
    let s : List ℕ = a.section.now in
    let all : l.size ≡ string_length s a.place =
    copy_end s a.place c.requires.0 l.size l.invariant.0 (sym (same s a.place l.size) ∙ c.if-from-eq-STRING_END.true) in
    let inside : a.place + string_length s a.place < length s = string_inside s a.place c.requires.0 in
    (all, omega arith, l.invariant.1)

pub bounds-out-at : goal.bounds-out-at
bounds-out-at c =
    let a = c.args in
    let l = c.loop-size in
    let s : List ℕ = a.section.now in
    let more : l.size < string_length s a.place =
    copy_more s a.place c.requires.0 l.size l.invariant.0 (λ e. c.if-from-eq-STRING_END.false (same s a.place l.size ∙ e)) in
    omega arith

pub loop-size-preserved : goal.loop-size-preserved
loop-size-preserved c =
    let a = c.args in
    let l = c.loop-size in
    let s : List ℕ = a.section.now in
    let more : l.size < string_length s a.place =
    copy_more s a.place c.requires.0 l.size l.invariant.0 (λ e. c.if-from-eq-STRING_END.false (same s a.place l.size ∙ e)) in (
      omega arith,
      copy_turn s a.place c.requires.0 a.out.now l.out a.at l.size _ (omega arith) more (same s a.place l.size) l.invariant.1,
    )

pub unreachable-requires : goal.unreachable-requires
unreachable-requires c =
    let a = c.args in
    let s : List ℕ = a.section.now in
    let inside : a.place + string_length s a.place < length s = string_inside s a.place c.requires.0 in
    omega (arith, c.loop-size.invariant.0, ap length (range_to_end s a.place), length-drop a.place s)

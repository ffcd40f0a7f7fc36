use mathlib.Core.Path.{◌≡◌, sym, ap, ◌∙◌}
use mathlib.Core.Bool.{not}
use mathlib.Core.List.{List}
use Prim.Native.Nat.{ℕ, ◌+◌}
use Rattle.std.specs.Prelude.{slice_range}
use Rattle.base.specs.Lists.{any, part}
use Rattle.base.proofs.AnyLaws.{any_found, any_passed, any_past}
use Rattle.tokens.specs.ColumnsAt.{kind_invalid}
use Rattle.names.proofs.TableLaws.{kinds_range}
use Rattle.names.proofs.table.kinds_invalid.Goals as goal

-- The loop's bytes are the types.
kinds : (section : List ℕ) (count : ℕ)
    → any kind_invalid (part section 4 count) ≡ any kind_invalid (slice_range section 4 (4 + count))
kinds section count = ap (any kind_invalid) (sym (kinds_range section count))

pub returns-then-is_none : goal.returns-then-is_none
returns-then-is_none c =
    let l = c.loop-byte in
    sym (kinds c.args.section.now c.args.count ∙ l.invariant
    ∙ any_found kind_invalid _ l.byte-index 0 c.loop-byte-test.true
    (sym c.of.ensures.invalid ∙ ap not c.if-is_none.ensures))

pub loop-byte-preserved : goal.loop-byte-preserved
loop-byte-preserved c =
    let l = c.loop-byte in
    l.invariant ∙ any_passed kind_invalid _ l.byte-index 0 c.loop-byte-test.true
    (sym c.of.ensures.invalid ∙ ap not c.if-is_none.ensures)

pub returns : goal.returns
returns c =
    let l = c.loop-byte in
    sym (kinds c.args.section.now c.args.count ∙ l.invariant
    ∙ any_past kind_invalid _ l.byte-index c.loop-byte-test.false)

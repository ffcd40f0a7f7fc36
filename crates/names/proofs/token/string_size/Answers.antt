use mathlib.Core.Path.{◌≡◌, sym, ap, ◌∙◌}
use mathlib.Core.Bool.{Bool}
use mathlib.Core.List.{List}
use Prim.Native.Nat.{ℕ}
use native.Mathlib.Omega.{arith}
use lib.ListN.{length, drop}
use borrow.Author.Tests.{ne_eqb, eq-eqb}
use Rattle.std.specs.Prelude.{slice_range}
use Rattle.names.specs.Cursors.{string_size}
use Rattle.names.proofs.StringLaws.{scan_found, scan_wrong, scan_turn, scan_cut, range_to_end}
use Rattle.names.proofs.token.string_size.Goals as goal

-- What the loop's list finds is what the bytes from the place on find.
scanned : (digits : Bool) (section items : List ℕ) (place : ℕ)
    → items ≡ slice_range section place (length section)
    → string_size digits 0 items ≡ string_size digits 0 (drop place section)
scanned digits section items place is =
    ap (string_size digits 0) (is ∙ range_to_end section place)

pub returns-in_err-byte-items-clause-size : goal.returns-in_err-byte-items-clause-size
returns-in_err-byte-items-clause-size c =
    c.from_residual.ensures
    ∙ sym (scan_cut c.args.digits c.args.section.now 0 c.args.place (omega (arith, c.in_err-byte-items.ensures.lookup)))

pub returns-then-size-eq0-clause-size : goal.returns-then-size-eq0-clause-size
returns-then-size-eq0-clause-size c =
    let l = c.loop-size in
    let a = c.args in
    let items : List ℕ = c.in_ok-byte-items.byte-items.now in
    sym (sym (scanned a.digits a.section.now items a.place c.in_ok-byte-items.ensures.lookup.0.2)
    ∙ l.invariant
    ∙ scan_found a.digits items l.size l.size (omega arith) c.if-byte-eq-STRING_END.true
    ∙ simp (eq-eqb l.size 0 c.if-size-eq0.true))

pub returns-else-size-eq0-clause-size : goal.returns-else-size-eq0-clause-size
returns-else-size-eq0-clause-size c =
    let l = c.loop-size in
    let a = c.args in
    let items : List ℕ = c.in_ok-byte-items.byte-items.now in
    sym (sym (scanned a.digits a.section.now items a.place c.in_ok-byte-items.ensures.lookup.0.2)
    ∙ l.invariant
    ∙ scan_found a.digits items l.size l.size (omega arith) c.if-byte-eq-STRING_END.true
    ∙ simp (ne_eqb l.size 0 c.if-size-eq0.false))

pub returns-then-byte_wrong-clause-size : goal.returns-then-byte_wrong-clause-size
returns-then-byte_wrong-clause-size c =
    let l = c.loop-size in
    let a = c.args in
    let items : List ℕ = c.in_ok-byte-items.byte-items.now in
    sym (sym (scanned a.digits a.section.now items a.place c.in_ok-byte-items.ensures.lookup.0.2)
    ∙ l.invariant
    ∙ scan_wrong a.digits items l.size l.size (omega arith) c.if-byte-eq-STRING_END.false
    (sym c.byte_wrong.ensures ∙ c.if-byte_wrong.true))

pub loop-size-preserved : goal.loop-size-preserved
loop-size-preserved c =
    let l = c.loop-size in
    let a = c.args in
    l.invariant
    ∙ scan_turn a.digits c.in_ok-byte-items.byte-items.now l.size l.size (omega arith) c.if-byte-eq-STRING_END.false
    (sym c.byte_wrong.ensures ∙ c.if-byte_wrong.false)

pub returns-clause-size : goal.returns-clause-size
returns-clause-size c =
    let l = c.loop-size in
    let a = c.args in
    let items : List ℕ = c.in_ok-byte-items.byte-items.now in
    sym (sym (scanned a.digits a.section.now items a.place c.in_ok-byte-items.ensures.lookup.0.2)
    ∙ l.invariant
    ∙ scan_cut a.digits items l.size l.size c.loop-size-test.false)

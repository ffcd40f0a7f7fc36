-- `mismatches::compare::Aligned::differs_at` meets its contract. Assumes nothing.
use mathlib.Core.Path.{sym, ap}
use native.Mathlib.Nat.{zero-add}
use native.Mathlib.Omega.{arith}
use Prim.Native.Nat.{ℕ}
use lib.ListN.{length, get_or}
use Rattle.reference.proofs.Codes.{code-small}
use Rattle.mismatches.proofs.CodeLaws.{stretch_base-below, differs_n, differs_plain}
use Rattle.mismatches.proofs.compare.Aligned.differs_at.Goals as goal

pub returns-then-letter-eq78 : goal.returns-then-letter-eq78
returns-then-letter-eq78 c =
    let a = c.args.self.now in
    sym
    (differs_n a.letters.now 0 (length a.letters.now) (omega arith) a.reference.now
    a.forward a.leftmost c.args.place _ c.requires
    (ap (λ (k : ℕ). get_or a.letters.now k 0) (sym (zero-add c.args.place))) c.if-letter-eq78.true)

pub letter_of_code-requires : goal.letter_of_code-requires
letter_of_code-requires c =
    code-small _ _ c.expected_code.ensures (stretch_base-below _ _ _ _ _)

pub returns : goal.returns
returns c =
    let a = c.args.self.now in
    differs_plain a.letters.now 0 (length a.letters.now) (omega arith) a.reference.now
    a.forward a.leftmost c.args.place (get_or a.letters.now c.args.place 0) c.requires
    (ap (λ (k : ℕ). get_or a.letters.now k 0) (sym (zero-add c.args.place)))
    c.if-letter-eq78.false c.expected_code.result c.letter_of_code.result
    c.expected_code.ensures c.letter_of_code.ensures

-- One division: the rules determine where every record begins and ends, its kind and its fields (01, The desk's
-- material: two divisions are the same if they agree in every cut, kind and field). Assumes nothing.
use mathlib.Core.Path.{sym, ◌∙◌}
use Prim.Native.Nat.{ℕ}
use mathlib.Core.List.{List}
use Rattle.dna.specs.Division.{Division, SameDivision, Divides}
use Rattle.base.proofs.AnswerLaws.{found-same}
use Rattle.dna.proofs.WalkComplete.{divides-walk}

-- Any two divisions of the same DNA section, for the same lengths and N section, that meet the rules are the
-- same: what a reader finds there is the only thing that anyone could find.
pub one_division : (bases : ℕ) (lengths n_section dna : List ℕ) (one other : Division) → Divides bases lengths n_section dna one
    → Divides bases lengths n_section dna other → SameDivision one other
one_division bases lengths n_section dna one other d e =
    (found-same (sym (divides-walk bases lengths n_section dna one d) ∙ divides-walk bases lengths n_section dna other e)).0

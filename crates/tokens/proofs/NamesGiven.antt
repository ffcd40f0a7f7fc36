-- What reading a names section answers, and the names that it stores: the one exactly where the other. Assumes nothing.
use mathlib.Core.Path.{◌≡◌, refl, sym, ap, ◌∙◌, subst}
use mathlib.Core.Logic.{◌↔◌}
use Prim.Native.Nat.{ℕ, ◌^◌, ◌<◌}
use mathlib.Core.List.{List}
use lib.ListN.{length}
use Rattle.base.specs.Lists.{AllBytes}
use Rattle.base.specs.Answer.{found, refused}
use Rattle.base.proofs.ListLaws.{by_test}
use Rattle.base.proofs.AnswerLaws.{found-same, absurd-found, absurd-refused, cond_yes, cond_no, cond-parts, Refuses, cond-refuses}
use Rattle.tokens.specs.Names.{NamesStored}
use Rattle.tokens.specs.NamesAt.{names_invalid, names_read, names_given}
use Rattle.tokens.proofs.NamesSound.{names_sound}
use Rattle.tokens.proofs.NamesComplete.{names_complete}

-- Two lists of names that one section stores are equal.
pub one-names : (reads : ℕ) (section : List ℕ) (names others : List (List ℕ)) → length section < 2 ^ 64
    → NamesStored reads section names → NamesStored reads section others → names ≡ others
one-names reads section names others small one other =
    sym (names_complete reads section names small one).1 ∙ (names_complete reads section others small other).1

-- Names that are stored are given, and the place after them is the section's end.
pub stored-given : (reads : ℕ) (section : List ℕ) (names : List (List ℕ)) → length section < 2 ^ 64
    → NamesStored reads section names → names_given reads section ≡ found names (length section)
unfolding names_given
stored-given reads section names small stored =
    let both = names_complete reads section names small stored in
    cond_no (refused 40) both.0 (ap (λ (list : List (List ℕ)). found list (length section)) both.1)

-- Names that are given are stored, and the place after them is the section's end.
pub given-stored : (reads : ℕ) (section : List ℕ) (names : List (List ℕ)) (next : ℕ) → AllBytes section
    → names_given reads section ≡ found names next → NamesStored reads section names × (next ≡ length section)
unfolding names_given
given-stored reads section names next bytes e =
    cond-parts (names_invalid reads section) (refused 40) (found (names_read reads section) (length section)) e
    (λ t f. absurd-found f)
    (λ t f.
    let same = found-same f in
    (subst (NamesStored reads section) same.0 (names_sound reads section bytes t), sym same.1))

-- 40 is given exactly if no names are stored.
pub given-refused : (reads : ℕ) (section : List ℕ) → AllBytes section → length section < 2 ^ 64
    → (names_given reads section ≡ refused 40) ↔ ((names : List (List ℕ)) → NamesStored reads section names → ⊥)
unfolding names_given
given-refused reads section bytes small = (
  λ e names stored. absurd-refused (sym (stored-given reads section names small stored) ∙ e),
  λ none.
      by_test (names_invalid reads section)
      (λ t. cond_yes (found (names_read reads section) (length section)) t refl)
      (λ t. absurd (none (names_read reads section) (names_sound reads section bytes t))),
)

-- No other number is given.
pub given-refuses : (reads : ℕ) (section : List ℕ) → Refuses (λ number. number ≡ 40) (names_given reads section)
unfolding names_given
given-refuses reads section =
    cond-refuses (λ number. number ≡ 40) (names_invalid reads section) (refused 40)
    (found (names_read reads section) (length section)) refl tt

-- What reading answers, in one sentence: names exactly if they are stored.
pub names-given : (reads : ℕ) (section : List ℕ) (names : List (List ℕ)) → AllBytes section → length section < 2 ^ 64
    → (names_given reads section ≡ found names (length section)) ↔ NamesStored reads section names
names-given reads section names bytes small =
    (λ e. (given-stored reads section names (length section) bytes e).0, stored-given reads section names small)

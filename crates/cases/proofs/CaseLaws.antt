-- What reading a case answers, from what its tests found; and that a case that is found lies in the
-- bytes. Assumes nothing.
use mathlib.Core.Path.{◌≡◌, refl, sym, subst, ◌∙◌}
use mathlib.Core.Bool.{Bool, true, false, cond}
use mathlib.Core.List.{List}
use Prim.Native.Nat.{ℕ, ◌<◌, ◌≤◌}
use native.Mathlib.Omega.{arith}
use lib.ListN.{length}
use lib.Dec.{ltb, eqb}
use borrow.Author.Tests.{lt-ltb, le-ltb, eq-eqb, ne_eqb, eqb-true, ltb-false}
use Rattle.base.specs.Numbers.{le}
use Rattle.cases.specs.CaseFile.{file_header_length, file_magic, count_answer, case_header_length}
use Rattle.cases.specs.CaseFile.{case_fields, case_size, case_answer}
use Rattle.cases.specs.declared.case_file.CaseHeader.{CaseHeader}
use Rattle.std.specs.Prelude.{Some, None}

module _ (bytes : List ℕ) (header : CaseHeader) where
  -- What is left to judge, once the header is there.
  header_there : header ≡ case_fields bytes → case_header_length ≤ length bytes
      → case_answer bytes
      ≡ cond (eqb (case_size header) header.length)
      (cond (ltb (length bytes) (case_size header)) None (Some header))
      None
  unfolding case_answer
  header_there fields there = rw fields (simp (le-ltb _ _ there))

  pub other_length : header ≡ case_fields bytes → case_header_length ≤ length bytes
      → (case_size header ≡ header.length → ⊥) → None ≡ case_answer bytes
  other_length fields there other =
      sym (header_there fields there ∙ simp (ne_eqb _ _ other))

  module _ (size : ℕ) (fields : header ≡ case_fields bytes) (there : case_header_length ≤ length bytes)
      (sized : size ≡ case_size header) (stated : size ≡ header.length) where
    pub parts_missing : length bytes < size → None ≡ case_answer bytes
    parts_missing short =
        sym (header_there fields there
        ∙ simp (eq-eqb _ _ (sym sized ∙ stated), lt-ltb _ _ (rw sized at short)))

    pub case_found : size ≤ length bytes → Some header ≡ case_answer bytes
    case_found enough =
        sym (header_there fields there
        ∙ simp (eq-eqb _ _ (sym sized ∙ stated), le-ltb _ _ (rw sized at enough)))

-- A case is none that is bad.
not_bad : (header : CaseHeader) → None ≡ Some header → ⊥
not_bad header e = let z : ◌≡◌ {A = ℕ} 0 1 = cc in omega arith

-- Which tests led to a case.
tests-passed : (short same missing : Bool) (fields header : CaseHeader)
    → cond short None (cond same (cond missing None (Some fields)) None)
    ≡ Some header
    → (fields ≡ header) × (same ≡ true) × (missing ≡ false)
tests-passed true same missing fields header e = absurd (not_bad header e)
tests-passed false false missing fields header e = absurd (not_bad header e)
tests-passed false true true fields header e = absurd (not_bad header e)
tests-passed false true false fields header e = (cc, refl, refl)

-- A case that is found lies in the bytes.
pub found-length : (bytes : List ℕ) (header : CaseHeader) → case_answer bytes ≡ Some header
    → header.length ≤ length bytes
unfolding case_answer
found-length bytes header e =
    let size = case_size (case_fields bytes) in
    let passed = tests-passed (ltb (length bytes) case_header_length)
    (eqb size (case_fields bytes).length) (ltb (length bytes) size) (case_fields bytes) header e in
    let stated : size ≡ (case_fields bytes).length = eqb-true _ _ passed.1 in
    let enough : size ≤ length bytes = ltb-false _ _ passed.2 in
    let within : (case_fields bytes).length ≤ length bytes = omega arith in
    subst (λ (fields : CaseHeader). fields.length ≤ length bytes) passed.0 within

-- Which test led to a number of cases.
test-passed : (short magic : Bool) (stated number : ℕ)
    → cond short None (cond magic (Some stated) None) ≡ Some number
    → short ≡ false
test-passed true magic stated number e = let z : ◌≡◌ {A = ℕ} 0 1 = cc in absurd (omega arith)
test-passed false magic stated number e = refl

-- A file that states its number of cases has the header of a case file.
pub counted-length : (file : List ℕ) (number : ℕ) → count_answer file ≡ Some number
    → file_header_length ≤ length file
unfolding count_answer
counted-length file number e =
    ltb-false (length file) file_header_length
    (test-passed (ltb (length file) file_header_length) (eqb (le 8 file 0) file_magic) (le 4 file 8)
    number e)

-- The names of a block as code judges them, and as the answer gives them. Assumes nothing.
use mathlib.Core.Path.{◌≡◌, refl, sym, ap, ◌∙◌}
use Prim.Native.Nat.{ℕ, zero, suc}
use native.Mathlib.Omega.{arith}
use mathlib.Core.Bool.{Bool, true, false, cond}
use mathlib.Core.List.{List, [], flatten, map}
use lib.ListN.{length}
use Rattle.std.specs.Prelude.{Some, None}
use Rattle.base.specs.Lists.{places_from}
use Rattle.base.specs.Answer.{found, refused}
use Rattle.base.specs.Paste.{pasted}
use Rattle.base.proofs.PasteLaws.{pasted_nil}
use Rattle.base.proofs.AnswerLaws.{cond_yes, cond_no}
use Rattle.base.proofs.ListLaws.{by_test}
use Rattle.base.proofs.Tests.{absurd_test}
use Rattle.tokens.specs.ColumnsAt.{Cursor, cursor_after, first_cursors, column_count}
use Rattle.tokens.specs.NamesAt.{names_from, names_invalid, names_read, names_given}
use Rattle.format.specs.Header.{header_of, flag_set, names_flag, read_count}
use Rattle.format.specs.Sections.{names_number, section_of}
use Rattle.format.specs.BlockAnswer.{names_answer}
use Rattle.names.specs.Judged.{judged}
use Rattle.blocks.specs.Named.{names_judged, names_found, name_count}

-- There is a name for each row.
length-names_from : (reads : ℕ) (section : List ℕ) (first : Bool) (cursors : List Cursor)
    → length (names_from reads section first cursors) ≡ reads
unfolding names_from
length-names_from zero section first cursors = refl
length-names_from (suc reads) section first cursors =
    ap suc (length-names_from reads section false (map (cursor_after section first) cursors))

-- What is known of names that are judged, of so many bytes.
pub record NamesKnown (input : List ℕ) (bytes : ℕ) : Type 0 where
  pub end : ℕ
  pub answer : names_answer input ≡ found (names_found input) end
  pub size : bytes ≡ length (flatten (names_found input))
  pub count : length (names_found input) ≡ name_count input
  pub valid : flag_set (header_of input).flags names_flag ≡ true
      → names_invalid (read_count (header_of input)) (section_of input names_number) ≡ false

-- Bytes are answered where the test does not hold.
judged-bytes : (invalid : Bool) (size bytes : ℕ)
    → cond invalid None (Some size) ≡ Some bytes
    → (invalid ≡ false) × (bytes ≡ size)
judged-bytes true size bytes e = let z : ◌≡◌ {A = ℕ} 0 1 = cc in absurd (omega arith)
judged-bytes false size bytes e = (refl, cc)

judged_invalid : (invalid : Bool) (size : ℕ)
    → cond invalid None (Some size) ≡ None → invalid ≡ true
judged_invalid true size e = refl
judged_invalid false size e = let z : ◌≡◌ {A = ℕ} 0 1 = cc in absurd (omega arith)

module _ (input : List ℕ) where
  stored : Bool
  stored = flag_set (header_of input).flags names_flag

  pub names-known : (bytes : ℕ) → names_judged input ≡ Some bytes → NamesKnown input bytes
  unfolding stored names_judged names_found name_count names_answer names_given judged names_read flatten
  names-known bytes e =
      let reads : ℕ = read_count (header_of input) in
      let section : List ℕ = section_of input names_number in
      by_test stored
      (λ t.
      let is = judged-bytes (names_invalid reads section) _ bytes (sym (cond_yes (Some 0) t refl) ∙ e) in
      let found-is : names_found input ≡ names_read reads section = cond_yes [] t refl in
      record {
        end = length section;
        answer =
            cond_yes _ t (cond_no (refused 40) is.0 refl)
            ∙ ap (λ (ns : List (List ℕ)). found ns (length section)) (sym found-is);
        size = is.1 ∙ ap (λ (ns : List (List ℕ)). length (flatten ns)) (sym found-is);
        count =
            ap length found-is
            ∙ length-names_from reads section true (first_cursors section (column_count section))
            ∙ sym (cond_yes 0 t refl);
        valid = λ u. is.0;
      })
      (λ t.
      let none : names_found input ≡ [] = cond_no _ t refl in
      let no_bytes : Some 0 ≡ Some bytes = sym (cond_no _ t refl) ∙ e in
      let no : 0 ≡ bytes = cc in
      record {
        end = 0;
        answer =
            cond_no _ t refl ∙ ap (λ (ns : List (List ℕ)). found ns 0) (sym none);
        size = sym no ∙ ap (λ (ns : List (List ℕ)). length (flatten ns)) (sym none);
        count = ap length none ∙ sym (cond_no _ t refl);
        valid = λ u. absurd_test (sym u ∙ t);
      })

  -- Names that are not judged to be any are refused with 40.
  pub names_none : names_judged input ≡ None → names_answer input ≡ refused 40
  unfolding stored names_judged names_answer names_given judged
  names_none e =
      let reads : ℕ = read_count (header_of input) in
      let section : List ℕ = section_of input names_number in
      by_test stored
      (λ t.
      let is = judged_invalid (names_invalid reads section) _ (sym (cond_yes (Some 0) t refl) ∙ e) in
      cond_yes _ t (cond_yes _ is refl))
      (λ t.
      let no : Some 0 ≡ None = sym (cond_no _ t refl) ∙ e in
      let z : ◌≡◌ {A = ℕ} 0 1 = cc in
      absurd (omega arith))

  -- Stored names are those that are read.
  pub found_stored : flag_set (header_of input).flags names_flag ≡ true
      → names_found input ≡ names_read (read_count (header_of input)) (section_of input names_number)
  unfolding names_found
  found_stored t = cond_yes [] t refl

  -- Unread names leave both buffers as they were.
  pub none_pasted : flag_set (header_of input).flags names_flag ≡ false → (names ends : List ℕ)
      → (names ≡ pasted names 0 (flatten (names_found input)))
      × (ends ≡ pasted ends 0 (places_from 0 (map length (names_found input))))
  unfolding names_found flatten places_from
  none_pasted t names ends =
      let none : names_found input ≡ [] = cond_no _ t refl in (
        sym (ap (λ (ns : List (List ℕ)). pasted names 0 (flatten ns)) none ∙ pasted_nil names 0),
        sym
            (ap (λ (ns : List (List ℕ)). pasted ends 0 (places_from 0 (map length ns))) none
            ∙ pasted_nil ends 0),
      )

-- What the tests of the table and of the columns' ends say. Assumes nothing.
use mathlib.Core.Path.{◌≡◌, sym, ap, ◌∙◌}
use Prim.Native.Nat.{ℕ, ◌+◌, ◌≤◌, ◌<◌}
use native.Mathlib.Omega.{arith}
use mathlib.Core.Bool.{Bool, true, false, not}
use mathlib.Core.List.{List, map}
use lib.ListN.{length, get_or, drop, length-map, length-drop}
use lib.Seq.{get_or-take, get_or-drop, length-take-le}
use lib.Dec.{eqb, ltb}
use borrow.Author.Tests.{eqb-true, eq-eqb, eqb-false, ne_eqb, ltb-false, le-ltb}
use Rattle.base.specs.Lists.{build, any, part, total, ends_before}
use Rattle.base.proofs.ListLaws.{length-build, get_or-build, all_build}
use Rattle.base.proofs.Tests.{or-neither, neither_or, any_none, not-false, true_not}
use Rattle.base.proofs.AllLaws.{get_or-map_any, all_any, get_or-all}
use Rattle.base.proofs.SumLaws.{total-take-suc}
use Rattle.tokens.specs.Split.{max_name}
use Rattle.tokens.specs.ColumnsAt.{table_end, column_sizes, Cursor, first_cursors, column_end, kind_invalid, table_invalid}
use Rattle.tokens.specs.NamesAt.{cursors_after, ends_wrong}
use Rattle.tokens.proofs.ColumnWalk.{cursor_from, cursors_after-each}
use Rattle.tokens.proofs.SectionRead.{cursor_at}

-- ---- The table

-- A table of n columns is there, with types that are not refused and sizes that fill the section.
pub record TableRight (section : List ℕ) (n : ℕ) : Type 0 where
  pub some : 0 < n
  pub few : n ≤ max_name
  pub fits : table_end n ≤ length section
  pub kinds : (k : ℕ) → k < n → kind_invalid (get_or section (4 + k) 0) ≡ false
  pub fills : table_end n + total (column_sizes section n) ≡ length section

-- The types are those from index 4 on.
kind_at : (section : List ℕ) (n k : ℕ) → k < n → get_or (part section 4 n) k 0 ≡ get_or section (4 + k) 0
kind_at section n k h = get_or-take n (drop 4 section) k 0 h ∙ get_or-drop 4 section k 0

length_kinds : (section : List ℕ) (n : ℕ) → table_end n ≤ length section → length (part section 4 n) ≡ n
length_kinds section n h = length-take-le n (drop 4 section) (omega (arith, length-drop 4 section))

-- What the tests of a table say.
pub table-right : (section : List ℕ) (n : ℕ) → table_invalid section n ≡ false → TableRight section n
unfolding table_invalid
table-right section n e =
    let p1 = or-neither (ends_before section 4) _ e in
    let p2 = or-neither (eqb n 0) _ p1.1 in
    let p3 = or-neither (ltb max_name n) _ p2.1 in
    let p4 = or-neither (ends_before section (table_end n)) _ p3.1 in
    let p5 = or-neither (any kind_invalid (part section 4 n)) _ p4.1 in
    let none : n ≡ 0 → ⊥ = eqb-false n 0 p2.0 in
    let room : table_end n ≤ length section = ltb-false (length section) (table_end n) p4.0 in
    record {
      some = omega arith;
      few = ltb-false max_name n p3.0;
      fits = room;
      kinds = λ k h.
          ap kind_invalid (sym (kind_at section n k h))
          ∙ any_none kind_invalid (part section 4 n) p5.0 k 0 (omega (arith, length_kinds section n room));
      fills = eqb-true (table_end n + total (column_sizes section n)) (length section) (not-false _ p5.1);
    }

-- And back.
pub right-table : (section : List ℕ) (n : ℕ) → TableRight section n → table_invalid section n ≡ false
unfolding table_invalid
right-table section n right =
    neither_or (ends_before section 4) _ (le-ltb (length section) 4 (omega (arith, right.fits)))
    (neither_or (eqb n 0) _ (ne_eqb n 0 (λ e. omega (arith, right.some)))
    (neither_or (ltb max_name n) _ (le-ltb max_name n right.few)
    (neither_or (ends_before section (table_end n)) _ (le-ltb (length section) (table_end n) right.fits)
    (neither_or (any kind_invalid (part section 4 n)) _
    (all_any kind_invalid (part section 4 n)
    (get_or-all (λ kind. kind_invalid kind ≡ false) (part section 4 n) 0 (λ k h.
    let low : k < n = omega (arith, length_kinds section n right.fits) in
    ap kind_invalid (kind_at section n k low) ∙ right.kinds k low)))
    (true_not _ (eq-eqb (table_end n + total (column_sizes section n)) (length section) right.fills))))))

-- ---- The ends

-- A column ends its own size after its start.
pub column_end-size : (section : List ℕ) (n k : ℕ)
    → column_end section n k ≡ (cursor_at section n k).place + get_or (column_sizes section n) k 0
unfolding column_end
column_end-size section n k = omega (arith, total-take-suc (column_sizes section n) k)

module _ (reads : ℕ) (section : List ℕ) (n : ℕ) where
  -- Where column k has arrived.
  place_after : (k : ℕ) → k < n
      → get_or (map (λ c. c.place) (cursors_after reads section true (first_cursors section n))) k 0
      ≡ (cursor_from reads section true (cursor_at section n k)).place
  unfolding first_cursors
  place_after k h =
      let first : List Cursor = build n (cursor_at section n) in
      let size : length first ≡ n = length-build n (cursor_at section n) in
      let all : length (map (cursor_from reads section true) first) ≡ length first =
      length-map first (cursor_from reads section true) in
      ap (λ (list : List Cursor). get_or (map (λ c. c.place) list) k 0) (cursors_after-each reads section true first)
      ∙ get_or-map_any (λ c. c.place) (map (cursor_from reads section true) first) k (cursor_at section n 0) 0 (omega arith)
      ∙ ap (λ (c : Cursor). c.place)
      (get_or-map_any (cursor_from reads section true) first k (cursor_at section n 0) (cursor_at section n 0) (omega arith)
      ∙ ap (cursor_from reads section true) (get_or-build n (cursor_at section n) k (cursor_at section n 0) h))

  -- What the tests of the ends say.
  pub ends_right : ends_wrong section n (cursors_after reads section true (first_cursors section n)) ≡ false
      → (k : ℕ) → k < n → (cursor_from reads section true (cursor_at section n k)).place ≡ column_end section n k
  unfolding ends_wrong
  ends_right e k h =
      let ended : ℕ → Bool = λ j.
      not (eqb (get_or (map (λ c. c.place) (cursors_after reads section true (first_cursors section n))) j 0)
      (column_end section n j)) in
      sym (place_after k h)
      ∙ eqb-true _ (column_end section n k)
      (not-false _
      (sym (get_or-build n ended k false h)
      ∙ any_none (λ wrong. wrong) (build n ended) e k false (omega (arith, length-build n ended))))

  -- And back.
  pub right_ends : ((k : ℕ) → k < n → (cursor_from reads section true (cursor_at section n k)).place ≡ column_end section n k)
      → ends_wrong section n (cursors_after reads section true (first_cursors section n)) ≡ false
  unfolding ends_wrong
  right_ends each =
      all_any (λ wrong. wrong) _
      (all_build (λ wrong. wrong ≡ false) n _ (λ k h.
      true_not _ (eq-eqb _ (column_end section n k) (place_after k h ∙ each k h))))

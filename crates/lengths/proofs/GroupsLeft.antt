-- What a cursor gives from the start of a group on is what the groups store. Assumes nothing.
use mathlib.Core.Path.{◌≡◌, refl, sym, ap, ap₂, ◌∙◌}
use Prim.Native.Nat.{ℕ, zero, suc, ◌+◌, ◌-◌, ◌%◌, ◌≤◌, ◌<◌, min}
use native.Mathlib.Omega.{arith}
use mathlib.Core.Bool.{Bool, true, false, cond, not, ◌&&◌, ◌||◌}
use mathlib.Core.List.{List, [], ◌∷◌}
use mathlib.Core.Option.{Option, none, some}
use lib.ListN.{length, get_or}
use lib.Dec.{ltb, eqb}
use borrow.Author.Tests.{eq-eqb, eqb-true}
use Rattle.base.specs.Lists.{build, any, AllBytes}
use Rattle.base.specs.Groups.{group_sizes, byte_bit_stray}
use Rattle.base.specs.Answer.{Scan}
use Rattle.base.proofs.ListLaws.{by_order, by_test, below_at}
use Rattle.base.proofs.ShiftLaws.{shifted, shifted_stray}
use Rattle.base.proofs.GroupSizeLaws.{group_sizes-zero, group_sizes-cons}
use Rattle.base.proofs.Tests.{absurd_test, or-neither}
use Rattle.dna.specs.Sizes.{StoredSize}
use Rattle.dna.specs.SizesAt.{stored_sizes_at, size_group_at, size_groups_at}
use Rattle.lengths.specs.declared.SizeCursor.{SizeCursor}
use Rattle.lengths.specs.Cursor.{flags_taken, step_of_flags, length_step, cursor_ended, on_step}
use Rattle.lengths.specs.Cursor.{lengths_left}
use Rattle.lengths.proofs.Collected.{prefixed, collected, collected-none, collected_cong}
use Rattle.lengths.proofs.Collected.{collected_then, collected-checked}
use Rattle.lengths.proofs.GroupSteps.{group_cursor, step_collected, left_collected}

-- After the last read the section is at its end.
abbrev pub at_end : (section : List ℕ) (last end : ℕ) → Option (List ℕ)
at_end section last end = cond (ltb end (length section)) none (some [])

-- The cursor where a group begins, with no bit left.
abbrev pub between : (place at previous : ℕ) → SizeCursor
between place at previous =
    record { fixed = false; at = at; place = place; previous = previous; same = 0; sizes = 0 }

end-cases : (cut s b : Bool)
    → ◌≡◌ {A = Option (List ℕ)} (cond (not cut && (not s && not b)) (some []) none)
    (cond (s || (b || false)) none (cond cut none (some [])))
end-cases true true b = refl
end-cases true false true = refl
end-cases true false false = refl
end-cases false true b = refl
end-cases false false true = refl
end-cases false false false = refl

-- No read is left: nothing of the section is, and no bit.
end-left : (section : List ℕ) (cursor : SizeCursor) (s b : Bool) → eqb cursor.same 0 ≡ not s
    → eqb cursor.sizes 0 ≡ not b
    → lengths_left 0 section cursor ≡ cond (s || (b || false)) none (at_end section 0 cursor.at)
unfolding lengths_left cursor_ended
end-left section cursor s b e f =
    ap₂ (λ (x y : Bool). cond (not (ltb cursor.at (length section)) && (x && y))
    (some []) none) e f
    ∙ end-cases (ltb cursor.at (length section)) s b

stray-eight : (byte : ℕ) → byte_bit_stray 8 byte ≡ false
unfolding byte_bit_stray build any
stray-eight byte = refl

-- A full group has no bit past its last read.
stray-full : (count byte : ℕ) → count ≡ 8 → byte_bit_stray count byte ≡ false
stray-full count byte e = ap (λ (n : ℕ). byte_bit_stray n byte) e ∙ stray-eight byte

none-collected : (section : List ℕ) (at previous : ℕ)
    → at_end section 0 at ≡ collected previous (size_groups_at (group_sizes 0) section at)
    (at_end section)
unfolding size_groups_at collected prefixed
none-collected section at previous =
    ap (λ (counts : List ℕ). collected previous (size_groups_at counts section at) (at_end section))
    (sym group_sizes-zero)

-- A test that does not look at what was found may come first.
stray_out : (cut stray : Bool) (previous : ℕ) (scan : Scan (List StoredSize))
    (rest : ℕ → ℕ → Option (List ℕ))
    → cond cut none (collected previous scan (λ last end. cond stray none (rest last end)))
    ≡ cond (cut || stray) none (collected previous scan rest)
stray_out true stray previous scan rest = refl
stray_out false true previous scan rest = collected-none previous scan
stray_out false false previous scan rest = refl

-- The first group, then the others.
groups-collected : (section : List ℕ) (count : ℕ) (counts : List ℕ) (at previous : ℕ)
    → collected previous (size_groups_at (count ∷ counts) section at) (at_end section)
    ≡ cond
    (ltb (length section) (at + 2)
    || (byte_bit_stray count (get_or section at 0) ||
    (byte_bit_stray count (get_or section (at + 1) 0) || false))) none
    (collected previous
    (stored_sizes_at count (get_or section at 0) (get_or section (at + 1) 0) 0 section (at + 2))
    (λ last end. collected last (size_groups_at counts section end) (at_end section)))
unfolding size_groups_at size_group_at any
groups-collected section count counts at previous =
    collected_then previous (size_group_at count section at) (size_groups_at counts section)
    (at_end section)
    ∙ collected-checked previous _ _ _

module _ (section : List ℕ) (bytes : AllBytes section) where
  byte_at : (k : ℕ) → get_or section k 0 < 256
  byte_at k = below_at section (omega arith) bytes k

  -- At the start of a group its flag bytes are taken, and its first read is read.
  group-left : (count left place at previous : ℕ) → place % 8 ≡ 0 → count < 8
      → lengths_left (suc (count + left)) section (between place at previous)
      ≡ cond (ltb (length section) (at + 2)) none
      (collected previous
      (stored_sizes_at (suc count) (get_or section at 0) (get_or section (at + 1) 0) 0 section (at + 2))
      (λ last end.
      lengths_left left section
      (group_cursor section (get_or section at 0) (get_or section (at + 1) 0) (byte_at at)
      (byte_at (at + 1)) (suc count) end last)))
  unfolding lengths_left length_step flags_taken step_of_flags on_step shifted
  group-left count left place at previous start small =
      let s : ℕ = get_or section at 0 in
      let b : ℕ = get_or section (at + 1) 0 in
      let e : eqb (place % 8) 0 ≡ true = eq-eqb (place % 8) 0 start in
      let one : 1 + count ≡ suc count = omega arith in
      rw e
      (by_test (ltb (length section) (at + 2)) (λ t. rw t) (λ t.
      rw t
      (step_collected section s b (byte_at at) (byte_at (at + 1)) count 0 (at + 2) previous
      (lengths_left (count + left) section) _
      (omega arith)
      (λ next size.
      left_collected section s b (byte_at at) (byte_at (at + 1)) count left 1 next size
      (omega arith) (omega arith)
      ∙ ap
      (λ (p : ℕ).
      collected size (stored_sizes_at count s b 1 section next)
      (λ last end. lengths_left left section
      (group_cursor section s b (byte_at at) (byte_at (at + 1)) p end last)))
      one))))

  -- The cursor after the reads of a group: no bit is left unless one past them is set.
  after_last : (count left at end last : ℕ) → count ≤ 8 → (0 < left → count ≡ 8)
      → (f : ℕ → ℕ → Option (List ℕ))
      → ((place : ℕ) → (0 < left → place % 8 ≡ 0) → lengths_left left section
      (between place end last) ≡ f last end)
      → lengths_left left section
      (group_cursor section (get_or section at 0) (get_or section (at + 1) 0) (byte_at at)
      (byte_at (at + 1)) count end last)
      ≡ cond (byte_bit_stray count (get_or section at 0) ||
      (byte_bit_stray count (get_or section (at + 1) 0) || false)) none (f last end)
  after_last count left at end last most full f h =
      let s : ℕ = get_or section at 0 in
      let b : ℕ = get_or section (at + 1) 0 in
      let t : Bool = byte_bit_stray count s in
      let u : Bool = byte_bit_stray count b in
      let cursor : SizeCursor = group_cursor section s b (byte_at at)
      (byte_at (at + 1)) count end last in
      let first : eqb (shifted s count) 0 ≡ not t = shifted_stray count s (byte_at at) most in
      let second : eqb (shifted b count) 0 ≡ not u = shifted_stray count b
      (byte_at (at + 1)) most in
      let answer : Option (List ℕ) = f last end in
      by_test (t || (u || false))
      (λ stray.
      by_order 0 left
      (λ more.
      absurd_test
      (sym stray
      ∙ ap₂ (λ (x y : Bool). x || (y || false)) (stray-full count s (full more))
      (stray-full count b (full more))))
      (λ l.
      let z : left ≡ 0 = omega arith in
      ap (λ (n : ℕ). lengths_left n section cursor) z
      ∙ end-left section cursor t u first second
      ∙ ap (λ (x : Bool). cond x none (at_end section 0 end)) stray
      ∙ sym (ap (λ (x : Bool). cond x none answer) stray)))
      (λ clear.
      let both = or-neither t (u || false) clear in
      let other = or-neither u false both.1 in
      ap₂
      (λ (x y : ℕ).
      lengths_left left section
      (record { fixed = false; at = end; place = count; previous = last; same = x; sizes = y }))
      (eqb-true (shifted s count) 0 (first ∙ ap not both.0))
      (eqb-true (shifted b count) 0 (second ∙ ap not other.0))
      ∙ h count (λ more. let is : count ≡ 8 = full more in omega arith)
      ∙ sym (ap (λ (x : Bool). cond x none answer) clear))

  no_group : (n place at previous : ℕ) → n ≡ 0
      → lengths_left n section (between place at previous)
      ≡ collected previous (size_groups_at (group_sizes n) section at) (at_end section)
  no_group n place at previous e =
      ap (λ (m : ℕ). lengths_left m section (between place at previous)) e
      ∙ end-left section (between place at previous) false false refl refl
      ∙ none-collected section at previous
      ∙ ap (λ (m : ℕ). collected previous (size_groups_at (group_sizes m) section at) (at_end section))
      (sym e)

  -- All groups: what is left of the section.
  pub groups-left : (most n place at previous : ℕ) → n ≤ most → (0 < n → place % 8 ≡ 0)
      → lengths_left n section (between place at previous)
      ≡ collected previous (size_groups_at (group_sizes n) section at) (at_end section)
  groups-left zero n place at previous h start = no_group n place at previous (omega arith)
  groups-left (suc most) n place at previous h start =
      by_order 0 n
      (λ more.
      let count : ℕ = min 8 n - 1 in
      let left : ℕ = n - 8 in
      let sum : n ≡ suc (count + left) = omega arith in
      let size : min 8 n ≡ suc count = omega arith in
      let s : ℕ = get_or section at 0 in
      let b : ℕ = get_or section (at + 1) 0 in
      let stored : Scan (List StoredSize) = stored_sizes_at (suc count) s b 0 section (at + 2) in
      let cut : Bool = ltb (length section) (at + 2) in
      let stray : Bool = byte_bit_stray (suc count) s || (byte_bit_stray (suc count) b || false) in
      let rest : ℕ → ℕ → Option (List ℕ) =
      λ last end. collected last (size_groups_at (group_sizes left) section end) (at_end section) in
      ap (λ (m : ℕ). lengths_left m section (between place at previous)) sum
      ∙ group-left count left place at previous (start more) (omega arith)
      ∙ ap (λ (o : Option (List ℕ)). cond cut none o)
      (collected_cong previous stored _ (λ last end. cond stray none (rest last end))
      (λ last end.
      after_last (suc count) left at end last (omega arith) (λ l. omega arith) rest
      (λ next start'. groups-left most left next end last (omega arith) start')))
      ∙ stray_out cut stray previous stored rest
      ∙ sym
      (ap (λ (counts : List ℕ). collected previous (size_groups_at counts section at) (at_end section))
      (group_sizes-cons n more ∙ ap (λ (m : ℕ). m ∷ group_sizes left) size)
      ∙ groups-collected section (suc count) (group_sizes left) at previous))
      (λ l. no_group n place at previous (omega arith))

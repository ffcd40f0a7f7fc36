-- Laws of a buffer with a part written over it, for elements of any type. Assumes nothing.
use mathlib.Core.Path.{◌≡◌, sym, ap, ap₂, ◌∙◌}
use Prim.Native.Nat.{ℕ, ◌+◌, ◌-◌, ◌≤◌, ◌<◌}
use native.Mathlib.Nat.{add-zero, zero-add}
use native.Mathlib.Omega.{arith}
use mathlib.Core.List.{List, [], ◌∷◌, ◌++◌, append_assoc, append-nil}
use lib.ListN.{length, get_or, take, drop, set, length-append, length-drop, get_or-append}
use lib.ListN.{take-append-drop}
use lib.Seq.{length-take-le, take_at, drop_at, drop-length, drop-drop, get_or-append-add, get_or-take}
use lib.Seq.{get_or-drop, paste, sets, sets-eq, ext_get_or}
use Rattle.base.specs.Lists.{build}
use Rattle.base.specs.Paste.{pasted}
use Rattle.base.proofs.ListLaws.{by_order, length-build, build-snoc}

module _ {ℓ} {A : Type ℓ} where
  -- Nothing is written.
  pub pasted_nil : (buffer : List A) (at : ℕ) → pasted buffer at [] ≡ buffer
  unfolding pasted
  pasted_nil buffer at = rw (add-zero, append-nil) (take-append-drop at buffer)

  module _ (buffer : List A) (at : ℕ) (part : List A) (fits : at + length part ≤ length buffer) where
    length_front : length (take at buffer ++ part) ≡ at + length part
    length_front =
        length-append (take at buffer) part
        ∙ ap (λ (k : ℕ). k + length part) (length-take-le at buffer (omega arith))

    pub length_pasted : length (pasted buffer at part) ≡ length buffer
    unfolding pasted
    length_pasted =
        length-append (take at buffer ++ part) (drop (at + length part) buffer)
        ∙ ap₂ (λ (m n : ℕ). m + n) length_front (length-drop (at + length part) buffer)
        ∙ omega arith

    -- Before the part the buffer is as it was.
    pub get_or_pasted_before : (k : ℕ) (d : A) → k < at
        → get_or (pasted buffer at part) k d ≡ get_or buffer k d
    unfolding pasted
    get_or_pasted_before k d h =
        let inside : k < length (take at buffer) = omega (arith, length-take-le at buffer (omega arith)) in
        ap (λ (l : List A). get_or l k d) (append_assoc (take at buffer) part (drop (at + length part) buffer))
        ∙ get_or-append (take at buffer) (part ++ drop (at + length part) buffer) d k inside
        ∙ get_or-take at buffer k d h

    -- Where the part is written stands the part.
    pub get_or_pasted_inside : (k : ℕ) (d : A) → k < length part
        → get_or (pasted buffer at part) (at + k) d ≡ get_or part k d
    unfolding pasted
    get_or_pasted_inside k d h =
        let e : length (take at buffer) ≡ at = length-take-le at buffer (omega arith) in
        ap₂ (λ (l : List A) (m : ℕ). get_or l (m + k) d)
        (append_assoc (take at buffer) part (drop (at + length part) buffer)) (sym e)
        ∙ get_or-append-add (take at buffer) (part ++ drop (at + length part) buffer) k d
        ∙ get_or-append part (drop (at + length part) buffer) d k h

    -- After the part the buffer is as it was.
    pub get_or_pasted_after : (k : ℕ) (d : A) → at + length part ≤ k
        → get_or (pasted buffer at part) k d ≡ get_or buffer k d
    unfolding pasted
    get_or_pasted_after k d h =
        let rest : List A = drop (at + length part) buffer in
        let over : ℕ = k - (at + length part) in
        let there : k ≡ length (take at buffer ++ part) + over = omega (arith, length_front) in
        let back : at + length part + over ≡ k = omega arith in
        ap (λ (m : ℕ). get_or (take at buffer ++ part ++ rest) m d) there
        ∙ get_or-append-add (take at buffer ++ part) rest over d
        ∙ get_or-drop (at + length part) buffer over d
        ∙ ap (λ (m : ℕ). get_or buffer m d) back

    -- What is before the end of the part, and what is after it.
    pub take_pasted : take (at + length part) (pasted buffer at part) ≡ take at buffer ++ part
    unfolding pasted
    take_pasted =
        take_at (take at buffer ++ part) (drop (at + length part) buffer) (at + length part) length_front

    pub drop_pasted : drop (at + length part) (pasted buffer at part) ≡ drop (at + length part) buffer
    unfolding pasted
    drop_pasted =
        drop_at (take at buffer ++ part) (drop (at + length part) buffer) (at + length part) length_front

    -- Two parts side by side are one.
    pub pasted_append : (next : List A)
        → pasted (pasted buffer at part) (at + length part) next ≡ pasted buffer at (part ++ next)
    unfolding pasted
    pasted_append next =
        let place : at + length part + length next ≡ at + length (part ++ next) =
        omega (arith, length-append part next) in
        let rest : drop (at + length part + length next) (pasted buffer at part)
        ≡ drop (at + length (part ++ next)) buffer =
        sym (drop-drop (length next) (at + length part) (pasted buffer at part))
        ∙ ap (drop (length next)) drop_pasted
        ∙ drop-drop (length next) (at + length part) buffer
        ∙ ap (λ (m : ℕ). drop m buffer) place in
        ap₂ (λ (front back : List A). front ++ next ++ back) take_pasted rest
        ∙ ap (λ (front : List A). front ++ drop (at + length (part ++ next)) buffer)
        (append_assoc (take at buffer) part next)

    -- Storing each element of the part in turn writes it.
    pub sets_pasted : sets buffer at part ≡ pasted buffer at part
    unfolding pasted
    sets_pasted = sets-eq part buffer at fits

  -- Storing one element writes a part of one.
  pub set_pasted : (buffer : List A) (at : ℕ) (x : A) → at < length buffer
      → set buffer at x ≡ pasted buffer at (x ∷ [])
  set_pasted buffer at x h = sets_pasted buffer at (x ∷ []) (omega arith)

  -- The kit's copy of the first n elements of a list writes a part of them.
  pub paste_pasted : (buffer : List A) (at : ℕ) (part : List A) (n : ℕ) → n ≤ length part
      → paste buffer at part n ≡ pasted buffer at (take n part)
  unfolding pasted
  paste_pasted buffer at part n h = rw (length-take-le n part h)

  -- A part written over a shorter one, or one as long, from the same index on.
  pub pasted_over : (buffer : List A) (at : ℕ) (old new : List A) → length old ≤ length new
      → at + length new ≤ length buffer → pasted (pasted buffer at old) at new ≡ pasted buffer at new
  unfolding pasted
  pasted_over buffer at old new shorter fits =
      let front : take at (pasted buffer at old) ≡ take at buffer =
      ap (take at) (append_assoc (take at buffer) old (drop (at + length old) buffer))
      ∙ take_at (take at buffer) (old ++ drop (at + length old) buffer) at
      (length-take-le at buffer (omega arith)) in
      let m : ℕ = length new - length old in
      let there : at + length new ≡ at + length old + m = omega arith in
      let back : drop (at + length new) (pasted buffer at old) ≡ drop (at + length new) buffer =
      ap (λ (k : ℕ). drop k (pasted buffer at old)) there
      ∙ sym (drop-drop m (at + length old) (pasted buffer at old))
      ∙ ap (drop m) (drop_pasted buffer at old (omega arith))
      ∙ drop-drop m (at + length old) buffer
      ∙ ap (λ (k : ℕ). drop k buffer) (sym there) in
      ap₂ (λ (u v : List A). u ++ new ++ v) front back

  -- At the start of the buffer the part is followed by the rest.
  pub pasted_start : (buffer part : List A) → pasted buffer 0 part ≡ part ++ drop (length part) buffer
  unfolding pasted
  pasted_start buffer part = ap (λ (m : ℕ). part ++ drop m buffer) (zero-add (length part))

  -- A part as long as the buffer replaces it.
  pub pasted_whole : (buffer part : List A) → length part ≡ length buffer → pasted buffer 0 part ≡ part
  pasted_whole buffer part e =
      pasted_start buffer part
      ∙ ap (λ (rest : List A). part ++ rest) (ap (λ (m : ℕ). drop m buffer) e ∙ drop-length buffer)
      ∙ append-nil part

  -- ---- As code writes: one buffer after the other

  -- Two writers, the second from where the first stopped.
  pub pasted_then : (buffer first second : List A) (at place : ℕ) (part next : List A)
      → at + length part ≤ length buffer → place ≡ at + length part → first ≡ pasted buffer at part → second ≡ pasted first place next
      → second ≡ pasted buffer at (part ++ next)
  pasted_then buffer first second at place part next fits there one two =
      two
      ∙ ap₂ (λ (out : List A) (k : ℕ). pasted out k next) one there
      ∙ pasted_append buffer at part fits next

  -- A writer, then a store of one element from where it stopped.
  pub pasted_snoc : (buffer out : List A) (at place : ℕ) (part : List A) (x : A)
      → at + length part < length buffer → place ≡ at + length part → out ≡ pasted buffer at part
      → set out place x ≡ pasted buffer at (part ++ (x ∷ []))
  pasted_snoc buffer out at place part x room there e =
      let len : length out ≡ length buffer = ap length e ∙ length_pasted buffer at part (omega arith) in
      pasted_then buffer out (set out place x) at place part (x ∷ []) (omega arith) there e
      (set_pasted out place x (omega arith))

  -- A loop that writes the list f 0, f 1, .. one element a turn: the turn that stores element k.
  pub pasted_turn : (buffer : List A) (at : ℕ) (f : ℕ → A) (out : List A) (k : ℕ) (x : A)
      → at + k < length buffer → out ≡ pasted buffer at (build k f) → x ≡ f k
      → set out (at + k) x ≡ pasted buffer at (build (k + 1) f)
  pasted_turn buffer at f out k x room e q =
      let len : length (build k f) ≡ k = length-build k f in
      pasted_snoc buffer out at (at + k) (build k f) x (omega arith) (omega arith) e
      ∙ ap (λ (y : A). pasted buffer at (build k f ++ (y ∷ []))) q
      ∙ ap (pasted buffer at) (sym (build-snoc k f))

-- ---- Lists of numbers

-- Two parts, one somewhere after the other, may be written in either order.
pub pasted-apart : (buffer : List ℕ) (at : ℕ) (part : List ℕ) (place : ℕ) (later : List ℕ)
    → at + length part ≤ place → place + length later ≤ length buffer
    → pasted (pasted buffer place later) at part ≡ pasted (pasted buffer at part) place later
pasted-apart buffer at part place later apart fits =
    let first : List ℕ = pasted buffer at part in
    let second : List ℕ = pasted buffer place later in
    let room : at + length part ≤ length buffer = omega arith in
    let size₁ : length first ≡ length buffer = length_pasted buffer at part room in
    let size₂ : length second ≡ length buffer = length_pasted buffer place later fits in
    let room₁ : place + length later ≤ length first = omega arith in
    let room₂ : at + length part ≤ length second = omega arith in
    ext_get_or 0 _ _
    (length_pasted second at part room₂ ∙ size₂ ∙ sym size₁ ∙ sym (length_pasted first place later room₁))
    (λ k h.
    by_order k at
    (λ low.
    get_or_pasted_before second at part room₂ k 0 low
    ∙ get_or_pasted_before buffer place later fits k 0 (omega arith)
    ∙ sym (get_or_pasted_before buffer at part room k 0 low)
    ∙ sym (get_or_pasted_before first place later room₁ k 0 (omega arith)))
    (λ high.
    by_order k (at + length part)
    (λ inside.
    let e : k ≡ at + (k - at) = omega arith in
    ap (λ (j : ℕ). get_or (pasted second at part) j 0) e
    ∙ get_or_pasted_inside second at part room₂ (k - at) 0 (omega arith)
    ∙ sym (get_or_pasted_inside buffer at part room (k - at) 0 (omega arith))
    ∙ ap (λ (j : ℕ). get_or first j 0) (sym e)
    ∙ sym (get_or_pasted_before first place later room₁ k 0 (omega arith)))
    (λ past.
    get_or_pasted_after second at part room₂ k 0 past
    ∙ by_order k place
    (λ between.
    get_or_pasted_before buffer place later fits k 0 between
    ∙ sym (get_or_pasted_after buffer at part room k 0 past)
    ∙ sym (get_or_pasted_before first place later room₁ k 0 between))
    (λ there.
    by_order k (place + length later)
    (λ inside.
    let e : k ≡ place + (k - place) = omega arith in
    ap (λ (j : ℕ). get_or second j 0) e
    ∙ get_or_pasted_inside buffer place later fits (k - place) 0 (omega arith)
    ∙ sym (get_or_pasted_inside first place later room₁ (k - place) 0 (omega arith))
    ∙ ap (λ (j : ℕ). get_or (pasted first place later) j 0) (sym e))
    (λ after.
    get_or_pasted_after buffer place later fits k 0 after
    ∙ sym (get_or_pasted_after buffer at part room k 0 past)
    ∙ sym (get_or_pasted_after first place later room₁ k 0 after))))))

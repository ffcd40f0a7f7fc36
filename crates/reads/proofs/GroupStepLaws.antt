-- What taking the bytes of a group gives, way by way, as code finds it. Assumes nothing.
use mathlib.Core.Path.{◌≡◌, sym, ap, ◌∙◌, refl, subst}
use Prim.Native.Nat.{ℕ, ◌+◌, ◌-◌, ◌/◌, ◌%◌, ◌≤◌, ◌<◌, min}
use native.Mathlib.Omega.{arith}
use mathlib.Core.Bool.{true, false, Bool, cond, ◌||◌}
use mathlib.Core.List.{List, [], ◌∷◌}
use lib.ListN.{length, get_or}
use borrow.Author.Tests.{lt-ltb, le-ltb, eq-eqb, ne_eqb, ltb-false}
use Rattle.std.specs.Prelude.{Result, Ok, Err}
use Rattle.base.specs.Lists.{AllBytes, any}
use Rattle.base.specs.Numbers.{le}
use Rattle.base.specs.Answer.{checked}
use Rattle.dna.specs.Division.{flags_at, group_bit_stray, with_n_byte_wrong}
use Rattle.dna.specs.Walk.{group_faults, Walk, refused_at}
use Rattle.reads.specs.ReadWalk.{faults_before, record_place, begins_group}
use Rattle.reads.specs.Cursor.{flags_of, group_before, group_step, source_of}
use Rattle.reads.proofs.InsideLaws.{first_read_lem, not_first}
use Rattle.reads.proofs.GroupByteLaws.{flags-there}
use lib.Dec.{ltb}
use Rattle.base.specs.Faults.{Fault, NoneFits}
use Rattle.reads.specs.declared.groups.GroupStep.{GroupStep}
use Rattle.base.proofs.ListLaws.{by_test}
use Rattle.base.proofs.Tests.{or-neither}

-- The bytes of a group taken, with the record at a place.
abbrev pub taken_at : (place group : ℕ) → Result GroupStep ℕ
taken_at place group = Ok (record { at = place; group = group })

module _ (dna ns : List ℕ) (reads read at group : ℕ) where
  -- Inside a group there is nothing to take.
  pub group_inside : (read % 8 ≡ 0 → ⊥)
      → group_step dna ns reads read at group ≡ taken_at at group
  unfolding group_step faults_before record_place group_before checked
  group_inside inside = rw (not_first read (omega (arith, inside)))

  module _ (bytes : ℕ) (begins : read % 8 ≡ 0) (all : AllBytes dna) where
    pub group_cut : length dna - at < 4 → at ≤ length dna
        → group_step dna ns reads read at group ≡ Err 12
    unfolding group_step faults_before group_faults checked
    group_cut cut inside =
        rw (first_read_lem read begins) (simp (lt-ltb (length dna) (at + 4) (omega arith)))

    module _ (there : 4 ≤ length dna - at) (is : bytes ≡ le 4 dna at) where
      flags : flags_at dna at ≡ flags_of bytes
      flags = sym (ap flags_of is ∙ flags-there dna at all)

      -- A bit past the last read.
      pub group_stray : (left : ℕ) → left ≡ reads - read
          → group_bit_stray (min 8 left) (flags_of bytes) ≡ true
          → group_step dna ns reads read at group ≡ Err 13
      unfolding group_step faults_before group_faults checked
      group_stray left e stray =
          rw (first_read_lem read begins, flags, ← e)
          (simp (le-ltb (length dna) (at + 4) (omega arith), stray))

      module _ (left : ℕ) (many : left ≡ reads - read)
          (clear : group_bit_stray (min 8 left) (flags_of bytes) ≡ false) (n_byte : ℕ)
          (same : n_byte ≡ get_or ns (read / 8) 0) where
        -- Another with-N byte than the N section's.
        pub group_other : (n_byte ≡ bytes / 65536 % 256 → ⊥)
            → group_step dna ns reads read at group ≡ Err 11
        unfolding group_step faults_before group_faults checked with_n_byte_wrong flags_of
        group_other other =
            rw (first_read_lem read begins, flags, ← many, ← same)
            (simp (
              le-ltb (length dna) (at + 4) (omega arith),
              clear,
              ne_eqb (bytes / 65536 % 256) n_byte (λ e. other (sym e)),
            ))

        pub group_taken : n_byte ≡ bytes / 65536 % 256
            → group_step dna ns reads read at group ≡ taken_at (at + 4) bytes
        unfolding group_step faults_before group_faults checked with_n_byte_wrong record_place group_before
            flags_of
        group_taken equal =
            rw (first_read_lem read begins, flags, ← many, ← same, ← is)
            (simp (
              le-ltb (length dna) (at + 4) (omega arith),
              clear,
              eq-eqb (bytes / 65536 % 256) n_byte (sym equal),
            ))

-- ---- What goes on from it

-- What was refused of the group is refused of the read.
pub refused-through : {A : Type 0} (read number place group : ℕ) (faults : List Fault)
    (rest : Walk A)
    → checked Err faults (taken_at place group) ≡ Err number
    → checked (refused_at read) faults rest ≡ refused_at read number
unfolding checked
refused-through read number place group [] rest e =
    let z : ◌≡◌ {A = ℕ} 0 1 = cc in absurd (omega arith)
refused-through {A} read number place group (f ∷ faults) rest e =
    let go : (t : Bool)
    → cond {A = Result GroupStep ℕ} t (Err f.number)
    (checked Err faults (taken_at place group))
    ≡ Err number
    → cond {A = Walk A} t (refused_at read f.number) (checked (refused_at read) faults rest)
    ≡ refused_at read number
    = elim [
      | true ↦ λ h. let is : f.number ≡ number = cc in ap (refused_at read) is
      | false ↦ λ h. refused-through read number place group faults rest h
    ] in
    go f.fits e

-- What was taken of the group goes on.
pub taken-through : {A : Type 0} (read place place' group group' : ℕ) (faults : List Fault)
    (rest : Walk A)
    → checked Err faults (taken_at place group) ≡ taken_at place' group'
    → (checked (refused_at read) faults rest ≡ rest) × ((place ≡ place') × (group ≡ group'))
unfolding checked
taken-through read place place' group group' [] rest e =
    let same : ◌≡◌ {A = GroupStep} (record { at = place; group = group })
    (record { at = place'; group = group' }) =
    cc in
    (refl, (ap (λ (s : GroupStep). s.at) same, ap (λ (s : GroupStep). s.group) same))
taken-through {A} read place place' group group' (f ∷ faults) rest e =
    let go : (t : Bool)
    → cond {A = Result GroupStep ℕ} t (Err f.number)
    (checked Err faults (taken_at place group))
    ≡ taken_at place' group'
    → (cond {A = Walk A} t (refused_at read f.number) (checked (refused_at read) faults rest)
    ≡ rest) × ((place ≡ place') × (group ≡ group'))
    = elim [
      | true ↦ λ h. let z : ◌≡◌ {A = ℕ} 0 1 = cc in absurd (omega arith)
      | false ↦ λ h. taken-through read place place' group group' faults rest h
    ] in
    go f.fits e

-- A record's place is in the section.
fits-through : (place place' group group' : ℕ) (faults : List Fault)
    → checked Err faults (taken_at place group) ≡ taken_at place' group'
    → NoneFits faults
unfolding checked any
fits-through place place' group group' [] e = refl
fits-through place place' group group' (f ∷ faults) e =
    let go : (t : Bool)
    → cond {A = Result GroupStep ℕ} t (Err f.number)
    (checked Err faults (taken_at place group))
    ≡ taken_at place' group'
    → t || any (λ g. g.fits) faults ≡ false
    = elim [
      | true ↦ λ h. let z : ◌≡◌ {A = ℕ} 0 1 = cc in absurd (omega arith)
      | false ↦ λ h. fits-through place place' group group' faults h
    ] in
    go f.fits e

place_inside : (dna ns : List ℕ) (reads read at : ℕ) → at ≤ length dna
    → NoneFits (faults_before (source_of dna [] ns reads 0) read at)
    → record_place read at ≤ length dna
unfolding faults_before record_place group_faults any
place_inside dna ns reads read at inside none =
    by_test (begins_group read)
    (λ t.
    rw t
    (ltb-false (length dna) (at + 4) (or-neither (ltb (length dna) (at + 4)) _ (rw t at none)).0))
    (λ t. rw t inside)

pub group-place : (dna ns : List ℕ) (reads read at group place bytes : ℕ) → at ≤ length dna
    → taken_at place bytes ≡ group_step dna ns reads read at group → place ≤ length dna
unfolding group_step
group-place dna ns reads read at group place bytes inside e =
    subst (λ (p : ℕ). p ≤ length dna)
    (taken-through {A = ℕ} read _ _ _ _ _ (refused_at 0 0) (sym e)).1.0
    (place_inside dna ns reads read at inside
    (fits-through _ _ _ _ (faults_before (source_of dna [] ns reads 0) read at) (sym e)))

-- Laws of the reference and of the letters of a stretch, over both strands. Assumes nothing.
use mathlib.Core.Path.{◌≡◌, sym, ap, ◌∙◌}
use Prim.Native.Nat.{ℕ, zero, suc, ◌+◌, ◌-◌, ◌/◌, ◌%◌, ◌≤◌, ◌<◌}
use native.Mathlib.Nat.{zero-lt-suc}
use native.Mathlib.Omega.{arith}
use mathlib.Core.Bool.{Bool, true, false, cond, not}
use mathlib.Core.List.{List}
use lib.ListN.{length, get_or}
use lib.Dec.{ltb, eqb}
use borrow.Author.Tests.{ltb-false, eqb-true}
use Rattle.base.specs.Lists.{AllBytes}
use Rattle.base.specs.Packed.{symbol_at}
use Rattle.base.proofs.ListLaws.{length-build, get_or-build, build_cong, below-build}
use Rattle.base.proofs.Tests.{or-neither, not-false}
use Rattle.base.proofs.PackedLaws.{digit-below}
use Rattle.dna.specs.Reference.{max_reference_bases, reference_size_wrong, ReferenceFits}
use Rattle.dna.specs.Reference.{reference_base, complement, strand_base, stretch_index}
use Rattle.dna.specs.Reference.{letter_of_code, stretch_letters}

-- ---- The size

-- The bytes of a reference that fits.
pub reference-length : {bases : ℕ} {reference : List ℕ} → ReferenceFits bases reference
    → (bases ≤ max_reference_bases) × (length reference ≡ (bases + 3) / 4)
unfolding reference_size_wrong
reference-length {bases} {reference} size =
    let both = or-neither (ltb max_reference_bases bases) (not (eqb (length reference) ((bases + 3) / 4))) size.fits in (
      ltb-false max_reference_bases bases both.0,
      eqb-true (length reference) ((bases + 3) / 4) (not-false _ both.1),
    )

-- ---- One base

pub reference_base-below : (reference : List ℕ) (index : ℕ) → reference_base reference index < 4
unfolding reference_base symbol_at
reference_base-below reference index = digit-below 4 4 (get_or reference (index / 4) 0) (index % 4) (zero-lt-suc 3)

pub strand_base-below : (reference : List ℕ) (forward : Bool) (index : ℕ) → strand_base reference forward index < 4
unfolding strand_base complement
strand_base-below reference true index = reference_base-below reference index
strand_base-below reference false index = omega arith

-- A letter is a byte.
pub letter_of_code-byte : (code : ℕ) → letter_of_code code < 256
unfolding letter_of_code
letter_of_code-byte zero = omega arith
letter_of_code-byte (suc zero) = omega arith
letter_of_code-byte (suc (suc zero)) = omega arith
letter_of_code-byte (suc (suc (suc zero))) = omega arith
letter_of_code-byte (suc (suc (suc (suc zero)))) = omega arith
letter_of_code-byte (suc (suc (suc (suc (suc code))))) = omega arith

-- ---- A stretch

pub length-stretch_letters : (reference : List ℕ) (forward : Bool) (leftmost bases : ℕ)
    → length (stretch_letters reference forward leftmost bases) ≡ bases
unfolding stretch_letters
length-stretch_letters reference forward leftmost bases = length-build bases _

pub get_or-stretch_letters : (reference : List ℕ) (forward : Bool) (leftmost bases k : ℕ) → k < bases
    → get_or (stretch_letters reference forward leftmost bases) k 0
    ≡ letter_of_code (strand_base reference forward (stretch_index forward leftmost bases k))
unfolding stretch_letters
get_or-stretch_letters reference forward leftmost bases k h =
    get_or-build bases (λ k. letter_of_code (strand_base reference forward (stretch_index forward leftmost bases k))) k 0 h

pub stretch_letters-bytes : (reference : List ℕ) (forward : Bool) (leftmost bases : ℕ)
    → AllBytes (stretch_letters reference forward leftmost bases)
unfolding stretch_letters
stretch_letters-bytes reference forward leftmost bases = below-build bases _ (λ k. letter_of_code-byte _)

-- The index of a letter is inside its stretch.
pub stretch_index-inside : (forward : Bool) (leftmost bases k : ℕ) → k < bases
    → stretch_index forward leftmost bases k < leftmost + bases
unfolding stretch_index
stretch_index-inside true leftmost bases k h = omega arith
stretch_index-inside false leftmost bases k h = omega arith

-- Two stretches over the same bases have the same letters.
pub stretch_letters-same : (one other : List ℕ) (forward : Bool) (i j bases : ℕ)
    → ((k : ℕ) → k < bases → reference_base one (i + k) ≡ reference_base other (j + k))
    → stretch_letters one forward i bases ≡ stretch_letters other forward j bases
unfolding stretch_letters strand_base stretch_index
stretch_letters-same one other true i j bases same = build_cong bases _ _ (λ k h. ap letter_of_code (same k h))
stretch_letters-same one other false i j bases same =
    build_cong bases _ _
    (λ k h. ap (λ (b : ℕ). letter_of_code (complement b)) (same (bases - suc k) (omega arith)))

-- Where `count` letters of a stretch, from letter k on, have their own leftmost base.
abbrev pub piece_leftmost : (forward : Bool) (leftmost bases k count : ℕ) → ℕ
piece_leftmost forward leftmost bases k count = leftmost + cond forward k (bases - (k + count))

-- A piece of a stretch is a stretch.
pub stretch-piece : (reference : List ℕ) (forward : Bool) (leftmost bases k count g : ℕ) → k + count ≤ bases
    → g ≡ piece_leftmost forward leftmost bases k count → (j : ℕ) → j < count
    → get_or (stretch_letters reference forward g count) j 0 ≡ get_or (stretch_letters reference forward leftmost bases) (k + j) 0
unfolding stretch_index
stretch-piece reference forward leftmost bases k count g inside at j h =
    let same : (forward : Bool) → g ≡ piece_leftmost forward leftmost bases k count
    → stretch_index forward g count j ≡ stretch_index forward leftmost bases (k + j) =
    elim [ true ↦ λ e. omega arith | false ↦ λ e. omega arith ] in
    get_or-stretch_letters reference forward g count j h
    ∙ ap (λ (i : ℕ). letter_of_code (strand_base reference forward i)) (same forward at)
    ∙ sym (get_or-stretch_letters reference forward leftmost bases (k + j) (omega arith))

-- The reference (01, The desk's material): bases in order, four a byte, the first highest; and the
-- letters of base codes. A, C, G, T are 0, 1, 2, 3.
use Rattle.std.specs.Prelude.{ℕ, suc, ◌+◌, ◌-◌, ◌/◌, ◌≡◌, Bool, false, cond, not, ◌||◌, List, [], ◌∷◌, length, get_or, ltb, eqb}
use Rattle.base.specs.Lists.{build}
use Rattle.base.specs.Packed.{symbol_at}

-- The most bases that a reference may have.
abbrev pub max_reference_bases : ℕ
max_reference_bases = 4_294_967_295

-- Refusal 1: a reference of the wrong byte count, or too many bases.
unfoldable pub reference_size_wrong : (bases : ℕ) (reference : List ℕ) → Bool
reference_size_wrong bases reference =
    ltb max_reference_bases bases || not (eqb (length reference) ((bases + 3) / 4))

-- 01: the reference; `bases` is its G. The bytes are those of so many bases; bits past the last are
-- ignored.
pub record ReferenceFits (bases : ℕ) (reference : List ℕ) : Type 0 where
  pub fits : reference_size_wrong bases reference ≡ false

-- The base with an index of the reference.
unfoldable pub reference_base : (reference : List ℕ) (index : ℕ) → ℕ
reference_base reference index = symbol_at 4 4 reference index

-- The complement of a base: A and T, C and G change places.
unfoldable pub complement : (base : ℕ) → ℕ
complement base = 3 - base

-- The base that a strand shows at an index of the reference: itself, or its complement on the
-- reverse.
unfoldable pub strand_base : (reference : List ℕ) (forward : Bool) (index : ℕ) → ℕ
strand_base reference forward index =
    cond forward (reference_base reference index) (complement (reference_base reference index))

-- The reference index under letter k of a stretch of so many bases, as a strand prints it: a
-- reverse read takes the stretch reversed (and complemented, by strand_base).
unfoldable pub stretch_index : (forward : Bool) (leftmost bases k : ℕ) → ℕ
stretch_index forward leftmost bases k = leftmost + cond forward k (bases - suc k)

-- The code of N, where a letter can be one.
abbrev pub code_n : ℕ
code_n = 4

-- The letters in ASCII capitals: A, C, G, T, N.
abbrev pub alphabet : List ℕ
alphabet = 65 ∷ 67 ∷ 71 ∷ 84 ∷ 78 ∷ []

-- The letter of a code 0 to 4.
unfoldable pub letter_of_code : (code : ℕ) → ℕ
letter_of_code code = get_or alphabet code 0

-- The letters of a stretch of so many bases from `leftmost` on, as a strand prints them.
unfoldable pub stretch_letters : (reference : List ℕ) (forward : Bool) (leftmost bases : ℕ) → List ℕ
stretch_letters reference forward leftmost bases =
    build bases
    (λ k. letter_of_code (strand_base reference forward (stretch_index forward leftmost bases k)))

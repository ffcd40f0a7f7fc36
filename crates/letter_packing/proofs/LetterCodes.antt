-- The code of a letter, by the bits of its byte: of one letter, and of the letters of a word at
-- once. Assumes nothing.
use mathlib.Core.Path.{◌≡◌, refl, sym, ap, ap₂, ◌∙◌, subst}
use Prim.Native.Nat.{ℕ, zero, suc, ◌+◌, ◌*◌, ◌/◌, ◌%◌, ◌^◌, ◌<◌}
use native.Mathlib.Omega.{arith}
use mathlib.Core.Bool.{Bool, true, false, ◌||◌}
use mathlib.Core.List.{List, map}
use lib.ListN.{get_or, get_or-map}
use lib.Bits.{bit_and, bit_xor, and_block, xor_block, and_mask, xor_mod, xor_lt}
use lib.Dec.{eqb}
use borrow.Author.Tests.{eqb-true}
use Rattle.base.specs.Lists.{any, member, index_of, AllBytes}
use Rattle.base.specs.Numbers.{le}
use Rattle.base.proofs.ListLaws.{by_test, below_at}
use Rattle.base.proofs.Tests.{absurd_test}
use Rattle.dna.specs.Reference.{alphabet}
use Rattle.format.specs.RuleRecord.{without_n}
use Rattle.format.specs.RuleBlock.{code_of_letter}

-- ---- One letter

or-other : (s t : Bool) → s || t ≡ true → s ≡ false → t ≡ true
or-other true t e no' = absurd_test no'
or-other false t e no' = e

-- What holds of A, C, G, T and N holds of a letter that is one of them.
known-cases : (claim : ℕ → Type 0) → claim 65 → claim 67 → claim 71 → claim 84 → claim 78
    → (letter : ℕ) → member letter alphabet ≡ true → claim letter
unfolding member any
known-cases claim a c g t n letter known =
    let is : (x : ℕ) → claim x → eqb x letter ≡ true → claim letter =
    λ x holds e. subst claim (eqb-true x letter e) holds in
    by_test (eqb 65 letter) (is 65 a) (λ no₁.
    let rest₁ = or-other (eqb 65 letter) _ known no₁ in
    by_test (eqb 67 letter) (is 67 c) (λ no₂.
    let rest₂ = or-other (eqb 67 letter) _ rest₁ no₂ in
    by_test (eqb 71 letter) (is 71 g) (λ no₃.
    let rest₃ = or-other (eqb 71 letter) _ rest₂ no₃ in
    by_test (eqb 84 letter) (is 84 t) (λ no₄.
    let rest₄ = or-other (eqb 84 letter) _ rest₃ no₄ in
    by_test (eqb 78 letter) (is 78 n) (λ no₅.
    absurd_test (sym (or-other (eqb 78 letter) _ rest₄ no₅)))))))

-- The code that the bits of a byte give, in four bits, and in two with N as A.
abbrev pub bits_code : (byte : ℕ) → ℕ
bits_code byte = bit_xor (byte / 2) (byte / 4 % 4) % 8

abbrev pub bits_base : (byte : ℕ) → ℕ
bits_base byte = bit_xor (byte / 2) (byte / 4) % 4

pub code-bits : (letter : ℕ) → member letter alphabet ≡ true → bits_code letter ≡ code_of_letter letter
unfolding code_of_letter index_of
code-bits = known-cases (λ letter. bits_code letter ≡ code_of_letter letter) refl refl refl refl refl

pub base-bits : (letter : ℕ) → member letter alphabet ≡ true
    → bits_base letter ≡ without_n (code_of_letter letter)
unfolding code_of_letter index_of without_n
base-bits =
    known-cases (λ letter. bits_base letter ≡ without_n (code_of_letter letter)) refl refl refl refl
    refl

pub code-small : (letter : ℕ) → member letter alphabet ≡ true → code_of_letter letter < 5
unfolding code_of_letter index_of
code-small =
    known-cases (λ letter. code_of_letter letter < 5) (omega arith) (omega arith) (omega arith)
    (omega arith) (omega arith)

-- ---- A word of letters

-- A word of so many bytes that are all the same.
abbrev pub every_byte : (byte width : ℕ) → ℕ
every_byte byte zero = 0
every_byte byte (suc width) = byte + 256 * every_byte byte width

-- The lowest byte of a word shifted down by one bit or two, and the rest of it.
half : (a rest : ℕ) → (a + 256 * rest) / 2 ≡ rest / 2 * 2 ^ 8 + (a / 2 + 128 * (rest % 2))
half a rest = omega arith

quarter : (a rest : ℕ) → (a + 256 * rest) / 4 ≡ rest / 4 * 2 ^ 8 + (a / 4 + 64 * (rest % 4))
quarter a rest = omega arith

base_step : (a rest mask : ℕ) → a < 256
    → bit_and (bit_xor ((a + 256 * rest) / 2) ((a + 256 * rest) / 4)) (3 + 256 * mask)
    ≡ bits_base a + 256 * bit_and (bit_xor (rest / 2) (rest / 4)) mask
base_step a rest mask small =
    let r : ℕ = a / 2 + 128 * (rest % 2) in
    let s : ℕ = a / 4 + 64 * (rest % 4) in
    let low : r < 2 ^ 8 = omega arith in
    let low' : s < 2 ^ 8 = omega arith in
    let over : 3 + 256 * mask ≡ mask * 2 ^ 8 + 3 = omega arith in
    let one : r % 4 ≡ a / 2 % 4 = omega arith in
    let two : s % 4 ≡ a / 4 % 4 = omega arith in
    let byte : bit_and (bit_xor r s) 3 ≡ bits_base a =
    and_mask (bit_xor r s) 2 ∙ xor_mod r s 2 ∙ ap₂ bit_xor one two ∙ sym
    (xor_mod (a / 2) (a / 4) 2) in
    ap₂ (λ (x y : ℕ). bit_and x y) (ap₂ bit_xor (half a rest) (quarter a rest) ∙ xor_block 8
    (rest / 2) (rest / 4) r s low low') over
    ∙ and_block 8 (bit_xor (rest / 2) (rest / 4)) mask (bit_xor r s) 3 (xor_lt 8 r s low low')
    (omega arith)
    ∙ ap (λ (x : ℕ). bit_and (bit_xor (rest / 2) (rest / 4)) mask * 2 ^ 8 + x) byte
    ∙ omega arith

code_step : (a rest three seven : ℕ) → a < 256
    → bit_and (bit_xor ((a + 256 * rest) / 2) (bit_and ((a + 256 * rest) / 4) (3 + 256 * three)))
    (7 + 256 * seven)
    ≡ bits_code a + 256 * bit_and (bit_xor (rest / 2) (bit_and (rest / 4) three)) seven
code_step a rest three seven small =
    let r : ℕ = a / 2 + 128 * (rest % 2) in
    let s : ℕ = a / 4 + 64 * (rest % 4) in
    let t : ℕ = a / 4 % 4 in
    let low : r < 2 ^ 8 = omega arith in
    let low' : s < 2 ^ 8 = omega arith in
    let low'' : t < 2 ^ 8 = omega arith in
    let over : 3 + 256 * three ≡ three * 2 ^ 8 + 3 = omega arith in
    let over' : 7 + 256 * seven ≡ seven * 2 ^ 8 + 7 = omega arith in
    let one : r % 8 ≡ a / 2 % 8 = omega arith in
    let two : s % 4 ≡ t = omega arith in
    let kept : bit_and ((a + 256 * rest) / 4) (3 + 256 * three) ≡ bit_and (rest / 4) three * 2 ^ 8 + t
    =
    ap₂ bit_and (quarter a rest) over
    ∙ and_block 8 (rest / 4) three s 3 low' (omega arith)
    ∙ ap (λ (x : ℕ). bit_and (rest / 4) three * 2 ^ 8 + x) (and_mask s 2 ∙ two) in
    let byte : bit_and (bit_xor r t) 7 ≡ bits_code a =
    and_mask (bit_xor r t) 3 ∙ xor_mod r t 3 ∙ ap (λ (x : ℕ). bit_xor x (t % 8)) one
    ∙ sym (xor_mod (a / 2) t 3) in
    let front : ℕ = bit_xor (rest / 2) (bit_and (rest / 4) three) in
    ap₂ bit_and (ap₂ bit_xor (half a rest) kept ∙ xor_block 8 (rest / 2) (bit_and (rest / 4) three) r t
    low low'') over'
    ∙ and_block 8 front seven (bit_xor r t) 7 (xor_lt 8 r t low low'') (omega arith)
    ∙ ap (λ (x : ℕ). bit_and front seven * 2 ^ 8 + x) byte
    ∙ omega arith

-- The codes of all letters of a word, in two bits and in four.
pub word-bases : (width : ℕ) (list : List ℕ) (i : ℕ) → AllBytes list
    → bit_and (bit_xor (le width list i / 2) (le width list i / 4)) (every_byte 3 width)
    ≡ le width (map bits_base list) i
unfolding le
word-bases zero list i bytes = refl
word-bases (suc width) list i bytes =
    base_step (get_or list i 0) (le width list (i + 1)) (every_byte 3 width)
    (below_at list (omega arith) bytes i)
    ∙ ap₂ (λ (x y : ℕ). x + 256 * y) (sym (get_or-map bits_base list i 0))
    (word-bases width list (i + 1) bytes)

pub word-codes : (width : ℕ) (list : List ℕ) (i : ℕ) → AllBytes list
    → bit_and (bit_xor (le width list i / 2) (bit_and (le width list i / 4) (every_byte 3 width)))
    (every_byte 7 width)
    ≡ le width (map bits_code list) i
unfolding le
word-codes zero list i bytes = refl
word-codes (suc width) list i bytes =
    code_step (get_or list i 0) (le width list (i + 1)) (every_byte 3 width) (every_byte 7 width)
    (below_at list (omega arith) bytes i)
    ∙ ap₂ (λ (x y : ℕ). x + 256 * y) (sym (get_or-map bits_code list i 0))
    (word-codes width list (i + 1) bytes)

-- ---- The byte of a word of codes

low_byte : (byte over : ℕ) → byte < 256 → (byte + 256 * over) % 256 ≡ byte
low_byte byte over small = omega arith

four-small : (a b c d : ℕ) → a < 4 → b < 4 → c < 4 → d < 4 → a * 64 + b * 16 + c * 4 + d < 256
four-small a b c d la lb lc ld = omega arith

pub gather-bases : (a b c d word : ℕ) → a < 4 → b < 4 → c < 4 → d < 4
    → word ≡ a + 256 * (b + 256 * (c + 256 * (d + 256 * 0)))
    → (word * 64 + word / 16 + word / 16384 + word / 16777216) % 256 ≡ a * 64 + b * 16 + c * 4 + d
gather-bases a b c d word la lb lc ld is =
    let one : word / 16 ≡ 16 * b + 4096 * c + 1048576 * d = omega arith in
    let two : word / 16384 ≡ 4 * c + 1024 * d = omega arith in
    let three : word / 16777216 ≡ d = omega arith in
    let over : ℕ = 64 * b + 16400 * c + 4198404 * d in
    let sum : word * 64 + word / 16 + word / 16384 + word / 16777216
    ≡ a * 64 + b * 16 + c * 4 + d + 256 * over = omega arith in
    ap (λ (x : ℕ). x % 256) sum ∙ low_byte (a * 64 + b * 16 + c * 4 + d) over
    (four-small a b c d la lb lc ld)

pub gather-codes : (a b word : ℕ) → a < 8 → b < 8 → word ≡ a + 256 * (b + 256 * 0)
    → (word * 16 + word / 256) % 256 ≡ a * 16 + b
gather-codes a b word la lb is =
    let one : word / 256 ≡ b = omega arith in
    let sum : word * 16 + word / 256 ≡ a * 16 + b + 256 * (16 * b) = omega arith in
    ap (λ (x : ℕ). x % 256) sum ∙ low_byte (a * 16 + b) (16 * b) (omega arith)

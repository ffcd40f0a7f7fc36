-- The table's word of the byte of four bases holds their letters. Assumes nothing.
use mathlib.Core.Path.{◌≡◌, sym, ap, ◌∙◌, subst}
use Prim.Native.Nat.{ℕ, ◌+◌, ◌*◌, ◌/◌, ◌%◌, ◌<◌, ◌^◌}
use native.Mathlib.Nat.{zero-lt-suc}
use native.Mathlib.Omega.{arith}
use mathlib.Core.Bool.{Bool}
use mathlib.Core.List.{List, [], ◌∷◌}
use lib.ListN.{length, get_or}
use Rattle.base.specs.Lists.{Below, AllBytes}
use Rattle.base.specs.Numbers.{le, le_bytes}
use Rattle.base.specs.Packed.{digit, symbol_at}
use Rattle.base.specs.Paste.{pasted}
use Rattle.base.proofs.ListLaws.{length-build, get_or-build}
use Rattle.base.proofs.NumberLaws.{length-le_bytes, le_bytes-le, le_below}
use Rattle.base.proofs.AtLaws.{at_self, at_same}
use Rattle.base.proofs.PackedLaws.{byte_of-below, byte_of_cong, digit-byte_of, byte_of-digit}
use Rattle.base.proofs.PasteLaws.{pasted_whole}
use Rattle.dna.specs.Reference.{reference_base, stretch_letters}
use Rattle.dna.proofs.ReferenceLaws.{reference_base-below, length-stretch_letters}
use Rattle.dna.proofs.ReferenceLaws.{stretch_letters-bytes, stretch_letters-same}
use Rattle.reference.specs.Stretch.{bases_byte}
use Rattle.reference.specs.Tables.{byte_word, word_table}

-- ---- A word and its bytes

-- Four bytes are those of their number.
pub le_bytes_of-le : (bytes : List ℕ) → length bytes ≡ 4 → AllBytes bytes → le_bytes 4 (le 4 bytes 0) ≡ bytes
le_bytes_of-le bytes size small =
    at_same (le_bytes 4 (le 4 bytes 0)) bytes (length-le_bytes 4 (le 4 bytes 0) ∙ sym size)
    (le_bytes-le 4 0 small (omega arith)) (at_self bytes)

-- ---- The byte of four bases

pub bases_byte-below : (reference : List ℕ) (index : ℕ) → bases_byte reference index < 256
unfolding bases_byte
bases_byte-below reference index =
    byte_of-below 4 4 (λ k. reference_base reference (index + k)) (λ k h. reference_base-below reference (index + k))

-- A byte that has the four bases as its digits.
bases_byte-is : (reference : List ℕ) (index byte : ℕ) → byte < 256
    → ((k : ℕ) → k < 4 → digit 4 4 byte k ≡ reference_base reference (index + k)) → byte ≡ bases_byte reference index
unfolding bases_byte
bases_byte-is reference index byte small same =
    sym (byte_of-digit 4 4 byte (zero-lt-suc 3) small)
    ∙ byte_of_cong 4 4 (λ k. digit 4 4 byte k) (λ k. reference_base reference (index + k)) same

-- A byte of the reference, by its index.
pub bases_byte-whole : (reference : List ℕ) (index i byte : ℕ) → index ≡ 4 * i → byte ≡ get_or reference i 0 → byte < 256
    → byte ≡ bases_byte reference index
unfolding reference_base symbol_at
bases_byte-whole reference index i byte e at small =
    bases_byte-is reference index byte small
    (λ k h.
    let d : (index + k) / 4 ≡ i = omega arith in
    let r : (index + k) % 4 ≡ k = omega arith in
    rw (d, r, at))

-- ---- A table

pub length-word_table : (forward : Bool) → length (word_table forward) ≡ 256
unfolding word_table
length-word_table forward = length-build 256 (byte_word forward)

pub get_or-word_table : (forward : Bool) (byte : ℕ) → byte < 256 → get_or (word_table forward) byte 0 ≡ byte_word forward byte
unfolding word_table
get_or-word_table forward byte small = get_or-build 256 (byte_word forward) byte 0 small

-- The word of a byte, from the letters of a reference of that byte alone.
pub byte_word-is : (forward : Bool) (byte word : ℕ) (buffer letters : List ℕ) → length buffer ≡ 4
    → letters ≡ pasted buffer 0 (stretch_letters (byte ∷ []) forward 0 4) → word ≡ le 4 letters 0
    → word ≡ byte_word forward byte
unfolding byte_word
byte_word-is forward byte word buffer letters size e is =
    let part : List ℕ = stretch_letters (byte ∷ []) forward 0 4 in
    is
    ∙ ap (λ (l : List ℕ). le 4 l 0)
    (e ∙ pasted_whole buffer part (length-stretch_letters (byte ∷ []) forward 0 4 ∙ sym size))

-- A word is below 2 ^ 32.
byte_word-below : (forward : Bool) (byte : ℕ) → byte_word forward byte < 2 ^ 32
unfolding byte_word
byte_word-below forward byte = le_below 4 _ 0 (stretch_letters-bytes (byte ∷ []) forward 0 4)

-- So is each of a table.
pub table_fits : (table : List ℕ) (forward : Bool) → table ≡ word_table forward → Below (2 ^ 32) table
table_fits table forward lent =
    rw lent
    (record {
      each = λ byte h.
          let size = length-word_table forward in
          subst (λ (w : ℕ). w < 2 ^ 32) (sym (get_or-word_table forward byte (omega arith))) (byte_word-below forward byte);
    })

-- ---- The letters of a word

pub word-letters : (reference : List ℕ) (forward : Bool) (index byte : ℕ) → byte ≡ bases_byte reference index
    → le_bytes 4 (byte_word forward byte) ≡ stretch_letters reference forward index 4
unfolding byte_word bases_byte reference_base symbol_at
word-letters reference forward index byte e =
    le_bytes_of-le _ (length-stretch_letters (byte ∷ []) forward 0 4) (stretch_letters-bytes (byte ∷ []) forward 0 4)
    ∙ stretch_letters-same (byte ∷ []) reference forward 0 index 4
    (λ k h.
    let d : (0 + k) / 4 ≡ 0 = omega arith in
    let r : (0 + k) % 4 ≡ k = omega arith in
    rw (d, r, e)
    (digit-byte_of 4 4 (λ j. reference_base reference (index + j)) (λ j l. reference_base-below reference (index + j)) k h))

-- The same, out of a table that is lent.
pub table-letters : (table reference : List ℕ) (forward : Bool) (index byte : ℕ) → table ≡ word_table forward
    → byte ≡ bases_byte reference index → le_bytes 4 (get_or table byte 0) ≡ stretch_letters reference forward index 4
table-letters table reference forward index byte lent e =
    let small : byte < 256 = subst (λ (b : ℕ). b < 256) (sym e) (bases_byte-below reference index) in
    rw lent (ap (le_bytes 4) (get_or-word_table forward byte small) ∙ word-letters reference forward index byte e)

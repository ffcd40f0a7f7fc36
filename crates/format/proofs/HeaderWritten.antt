-- A header that is written is read back, field by field (01: the table of offsets, both ways). Assumes nothing.
use mathlib.Core.Path.{◌≡◌, refl, ap, ◌∙◌}
use Prim.Native.Nat.{ℕ, suc, ◌+◌, ◌-◌, ◌^◌, ◌<◌}
use native.Mathlib.Omega.{arith}
use mathlib.Core.List.{List, ◌∷◌, ◌++◌, flatten}
use lib.ListN.{length}
use lib.IntN.{ℤ, pos, negsuc}
use borrow.Author.Tests.{lt-ltb, le-ltb}
use Rattle.base.specs.Numbers.{le, signed, int32}
use Rattle.base.specs.Place.{At}
use Rattle.base.proofs.NumberLaws.{length-le_bytes, le-le_bytes}
use Rattle.base.proofs.AtLaws.{at_self, at_left, at_right, at-to}
use Rattle.base.proofs.AnswerLaws.{cond_yes, cond_no}
use Rattle.format.specs.Header.{Header, header_of}
use Rattle.format.specs.Header.{int32_bytes, header_bytes}

-- A signed number has 32 bits.
abbrev pub SignedFits : (number : ℤ) → Type 0
SignedFits (pos n) = n < 2 ^ 31
SignedFits (negsuc n) = n < 2 ^ 31

-- Every field is as narrow as it is stored.
pub record HeaderFits (header : Header) : Type 0 where
  pub magic : header.magic < 256 ^ 2
  pub l_header : SignedFits header.l_header
  pub l_dna : header.l_dna < 256 ^ 4
  pub l_names : header.l_names < 256 ^ 4
  pub l_qual_n : header.l_qual_n < 256 ^ 4
  pub l_qual : header.l_qual < 256 ^ 4
  pub l_size : header.l_size < 256 ^ 4
  pub l_n : header.l_n < 256 ^ 4
  pub l_m1 : header.l_m1 < 256 ^ 4
  pub l_m2 : header.l_m2 < 256 ^ 4
  pub l_m3 : header.l_m3 < 256 ^ 4
  pub flags : header.flags < 256 ^ 4
  pub l_read : SignedFits header.l_read
  pub n_reads : SignedFits header.n_reads
  pub version : header.version < 256 ^ 2
  pub b_id : header.b_id < 256 ^ 8
  pub q_type : header.q_type < 256 ^ 1
  pub q4_1 : header.q4_1 < 256 ^ 1
  pub q4_2 : header.q4_2 < 256 ^ 1
  pub q4_3 : header.q4_3 < 256 ^ 1
  pub q4_4 : header.q4_4 < 256 ^ 1
  pub l_names_raw : header.l_names_raw < 256 ^ 4
  pub l_dna_raw : header.l_dna_raw < 256 ^ 4
  pub l_qual_raw : header.l_qual_raw < 256 ^ 4
  pub l_qual_n_raw : header.l_qual_n_raw < 256 ^ 4
  pub l_qual_total_raw : header.l_qual_total_raw < 256 ^ 4
  pub c_time : header.c_time < 256 ^ 8
  pub checksum_raw : header.checksum_raw < 256 ^ 8
  pub checksum_ref : header.checksum_ref < 256 ^ 8
  pub checksum_comp : header.checksum_comp < 256 ^ 8

-- A signed number of 32 bits is read back.
int32-back : (number : ℤ) {list : List ℕ} {at : ℕ} → SignedFits number → At list at (int32_bytes number) → int32 (le 4 list at) ≡ number
unfolding int32_bytes signed
int32-back (pos n) {list} {at} fits a =
    let is : le 4 list at ≡ n = le-le_bytes 4 n (omega arith) a in
    ap int32 is ∙ cond_yes (negsuc (2 ^ 32 - 1 - n)) (lt-ltb n (2 ^ 31) fits) refl
int32-back (negsuc n) {list} {at} fits a =
    let x : ℕ = 2 ^ 32 - suc n in
    let is : le 4 list at ≡ x = le-le_bytes 4 x (omega arith) a in
    let back : 2 ^ 32 - 1 - x ≡ n = omega arith in
    ap int32 is ∙ cond_no (pos x) (le-ltb x (2 ^ 31) (omega arith)) (ap negsuc back)

length-int32_bytes : (number : ℤ) → length (int32_bytes number) ≡ 4
unfolding int32_bytes
length-int32_bytes (pos n) = length-le_bytes 4 n
length-int32_bytes (negsuc n) = length-le_bytes 4 (2 ^ 32 - suc n)

-- The first of some parts that stand one after the other, and the rest of them.
part-here : {list : List ℕ} {at : ℕ} (part : List ℕ) (parts : List (List ℕ)) → At list at (flatten (part ∷ parts)) → At list at part
unfolding flatten
part-here part parts a = at_left part (flatten parts) a

parts-on : {list : List ℕ} {at : ℕ} (part : List ℕ) (parts : List (List ℕ)) (size next : ℕ) → length part ≡ size → at + size ≡ next
    → At list at (flatten (part ∷ parts)) → At list next (flatten parts)
unfolding flatten
parts-on {list} {at} part parts size next e n a =
    at-to _ next (ap (λ (k : ℕ). at + k) e ∙ n) (at_right part (flatten parts) a)

-- What a header's bytes are read as.
pub header_of-header_bytes : (header : Header) (rest : List ℕ) → HeaderFits header → header_of (header_bytes header ++ rest) ≡ header
unfolding header_of header_bytes
header_of-header_bytes header rest fits =
    let list : List ℕ = header_bytes header ++ rest in
    let a₀ = at_left (header_bytes header) rest (at_self list) in
    let a₁ = parts-on _ _ 2 2 (length-le_bytes 2 header.magic) refl a₀ in
    let a₂ = parts-on _ _ 4 6 (length-int32_bytes header.l_header) refl a₁ in
    let a₃ = parts-on _ _ 4 10 (length-le_bytes 4 header.l_dna) refl a₂ in
    let a₄ = parts-on _ _ 4 14 (length-le_bytes 4 header.l_names) refl a₃ in
    let a₅ = parts-on _ _ 4 18 (length-le_bytes 4 header.l_qual_n) refl a₄ in
    let a₆ = parts-on _ _ 4 22 (length-le_bytes 4 header.l_qual) refl a₅ in
    let a₇ = parts-on _ _ 4 26 (length-le_bytes 4 header.l_size) refl a₆ in
    let a₈ = parts-on _ _ 4 30 (length-le_bytes 4 header.l_n) refl a₇ in
    let a₉ = parts-on _ _ 4 34 (length-le_bytes 4 header.l_m1) refl a₈ in
    let a₁₀ = parts-on _ _ 4 38 (length-le_bytes 4 header.l_m2) refl a₉ in
    let a₁₁ = parts-on _ _ 4 42 (length-le_bytes 4 header.l_m3) refl a₁₀ in
    let a₁₂ = parts-on _ _ 4 46 (length-le_bytes 4 header.flags) refl a₁₁ in
    let a₁₃ = parts-on _ _ 4 50 (length-int32_bytes header.l_read) refl a₁₂ in
    let a₁₄ = parts-on _ _ 4 54 (length-int32_bytes header.n_reads) refl a₁₃ in
    let a₁₅ = parts-on _ _ 2 56 (length-le_bytes 2 header.version) refl a₁₄ in
    let a₁₆ = parts-on _ _ 8 64 (length-le_bytes 8 header.b_id) refl a₁₅ in
    let a₁₇ = parts-on _ _ 1 65 (length-le_bytes 1 header.q_type) refl a₁₆ in
    let a₁₈ = parts-on _ _ 1 66 (length-le_bytes 1 header.q4_1) refl a₁₇ in
    let a₁₉ = parts-on _ _ 1 67 (length-le_bytes 1 header.q4_2) refl a₁₈ in
    let a₂₀ = parts-on _ _ 1 68 (length-le_bytes 1 header.q4_3) refl a₁₉ in
    let a₂₁ = parts-on _ _ 1 69 (length-le_bytes 1 header.q4_4) refl a₂₀ in
    let a₂₂ = parts-on _ _ 4 73 (length-le_bytes 4 header.l_names_raw) refl a₂₁ in
    let a₂₃ = parts-on _ _ 4 77 (length-le_bytes 4 header.l_dna_raw) refl a₂₂ in
    let a₂₄ = parts-on _ _ 4 81 (length-le_bytes 4 header.l_qual_raw) refl a₂₃ in
    let a₂₅ = parts-on _ _ 4 85 (length-le_bytes 4 header.l_qual_n_raw) refl a₂₄ in
    let a₂₆ = parts-on _ _ 4 89 (length-le_bytes 4 header.l_qual_total_raw) refl a₂₅ in
    let a₂₇ = parts-on _ _ 8 97 (length-le_bytes 8 header.c_time) refl a₂₆ in
    let a₂₈ = parts-on _ _ 8 105 (length-le_bytes 8 header.checksum_raw) refl a₂₇ in
    let a₂₉ = parts-on _ _ 8 113 (length-le_bytes 8 header.checksum_ref) refl a₂₈ in
    λ t.
    record {
      magic = le-le_bytes 2 header.magic fits.magic (part-here _ _ a₀) t;
      l_header = int32-back header.l_header fits.l_header (part-here _ _ a₁) t;
      l_dna = le-le_bytes 4 header.l_dna fits.l_dna (part-here _ _ a₂) t;
      l_names = le-le_bytes 4 header.l_names fits.l_names (part-here _ _ a₃) t;
      l_qual_n = le-le_bytes 4 header.l_qual_n fits.l_qual_n (part-here _ _ a₄) t;
      l_qual = le-le_bytes 4 header.l_qual fits.l_qual (part-here _ _ a₅) t;
      l_size = le-le_bytes 4 header.l_size fits.l_size (part-here _ _ a₆) t;
      l_n = le-le_bytes 4 header.l_n fits.l_n (part-here _ _ a₇) t;
      l_m1 = le-le_bytes 4 header.l_m1 fits.l_m1 (part-here _ _ a₈) t;
      l_m2 = le-le_bytes 4 header.l_m2 fits.l_m2 (part-here _ _ a₉) t;
      l_m3 = le-le_bytes 4 header.l_m3 fits.l_m3 (part-here _ _ a₁₀) t;
      flags = le-le_bytes 4 header.flags fits.flags (part-here _ _ a₁₁) t;
      l_read = int32-back header.l_read fits.l_read (part-here _ _ a₁₂) t;
      n_reads = int32-back header.n_reads fits.n_reads (part-here _ _ a₁₃) t;
      version = le-le_bytes 2 header.version fits.version (part-here _ _ a₁₄) t;
      b_id = le-le_bytes 8 header.b_id fits.b_id (part-here _ _ a₁₅) t;
      q_type = le-le_bytes 1 header.q_type fits.q_type (part-here _ _ a₁₆) t;
      q4_1 = le-le_bytes 1 header.q4_1 fits.q4_1 (part-here _ _ a₁₇) t;
      q4_2 = le-le_bytes 1 header.q4_2 fits.q4_2 (part-here _ _ a₁₈) t;
      q4_3 = le-le_bytes 1 header.q4_3 fits.q4_3 (part-here _ _ a₁₉) t;
      q4_4 = le-le_bytes 1 header.q4_4 fits.q4_4 (part-here _ _ a₂₀) t;
      l_names_raw = le-le_bytes 4 header.l_names_raw fits.l_names_raw (part-here _ _ a₂₁) t;
      l_dna_raw = le-le_bytes 4 header.l_dna_raw fits.l_dna_raw (part-here _ _ a₂₂) t;
      l_qual_raw = le-le_bytes 4 header.l_qual_raw fits.l_qual_raw (part-here _ _ a₂₃) t;
      l_qual_n_raw = le-le_bytes 4 header.l_qual_n_raw fits.l_qual_n_raw (part-here _ _ a₂₄) t;
      l_qual_total_raw = le-le_bytes 4 header.l_qual_total_raw fits.l_qual_total_raw (part-here _ _ a₂₅) t;
      c_time = le-le_bytes 8 header.c_time fits.c_time (part-here _ _ a₂₆) t;
      checksum_raw = le-le_bytes 8 header.checksum_raw fits.checksum_raw (part-here _ _ a₂₇) t;
      checksum_ref = le-le_bytes 8 header.checksum_ref fits.checksum_ref (part-here _ _ a₂₈) t;
      checksum_comp = le-le_bytes 8 header.checksum_comp fits.checksum_comp (part-here _ _ a₂₉) t;
    }

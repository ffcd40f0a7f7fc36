-- The bytes of a record: its fields, then its N list where it has one. Assumes nothing.
use mathlib.Core.Path.{◌≡◌, refl, sym, ap, ◌∙◌}
use Prim.Native.Nat.{ℕ, ◌+◌, ◌≤◌}
use native.Mathlib.Omega.{arith}
use mathlib.Core.Bool.{Bool, true, false, cond}
use mathlib.Core.List.{List, [], ◌++◌, append-nil}
use lib.ListN.{length, length-append}
use lib.Dec.{ltb}
use borrow.Author.Tests.{lt-ltb, le-ltb}
use Rattle.base.specs.Lists.{member}
use Rattle.base.specs.Paste.{pasted}
use Rattle.base.proofs.ListLaws.{by_test}
use Rattle.base.proofs.PasteLaws.{pasted_then}
use Rattle.dna.specs.Reference.{code_n}
use Rattle.dna.specs.Record.{Entry, fields_bytes, field_width, has_n_list, n_list_bytes, record_bytes}
use Rattle.dna.specs.declared.Record.{Record}
use Rattle.dna.specs.declared.Record.TheVariants as kinds
use Rattle.format.specs.RuleRecord.{n_offsets_of}
use Rattle.format.proofs.WrittenRecord.{n-none, n-some}
use Rattle.record_writer.specs.Written.{fields_for, offsets_for, record_written}
use Rattle.record_writer.specs.Written.{fields_written, written_bytes}
use Rattle.record_writer.specs.Writable.{list_stored, Writable}
use Rattle.n_lists.specs.NPlaces.{NCounted}

-- The with-N bit: there is an N exactly if one is counted.
pub n-counted : (codes : List ℕ) (count : ℕ) → count ≡ length (n_offsets_of codes)
    → member code_n codes ≡ ltb 0 count
n-counted codes count is =
    by_test (member code_n codes)
    (λ t. t ∙ sym (lt-ltb 0 count (omega (arith, n-some codes t))))
    (λ t. t ∙ sym (le-ltb 0 count (omega (arith, ap length (n-none codes t)))))

module _ (previous : ℕ) (entries : List Entry) (codes : List ℕ) (count : ℕ)
    (is : count ≡ length (n_offsets_of codes)) where
  abbrev tail : (record' : Record) → List ℕ
  tail record' = cond (list_stored record' count) (n_list_bytes (n_offsets_of codes)) []

  tail_of : (t : Bool) → t ≡ ltb 0 count → (front : List ℕ)
      → front ++ cond t (n_list_bytes (n_offsets_of codes)) []
      ≡ front ++ cond (ltb 0 count) (n_list_bytes (n_offsets_of codes)) []
  tail_of t e front = ap (λ (b : Bool). front ++ cond b (n_list_bytes (n_offsets_of codes)) []) e

  -- The fields, then the list.
  bytes_split : (record' : Record)
      → written_bytes previous record' entries codes
      ≡ fields_written previous record' entries codes ++ tail record'
  unfolding written_bytes fields_written record_written record_bytes has_n_list fields_for offsets_for
      list_stored
  bytes_split (kinds.Perfect placement) =
      tail_of _ (n-counted codes count is)
      (fields_written previous (kinds.Perfect placement) entries codes)
  bytes_split (kinds.Global placement) =
      tail_of _ (n-counted codes count is)
      (fields_written previous (kinds.Global placement) entries codes)
  bytes_split (kinds.Local placement) =
      tail_of _ (n-counted codes count is)
      (fields_written previous (kinds.Local placement) entries codes)
  bytes_split kinds.Raw =
      tail_of _ (n-counted codes count is)
      (fields_written previous kinds.Raw entries codes)
  bytes_split kinds.Raw4 = refl

  module _ (record' : Record) where
    abbrev all : List ℕ
    all = written_bytes previous record' entries codes

    abbrev fields : List ℕ
    fields = fields_written previous record' entries codes

    abbrev offsets : List ℕ
    offsets = n_list_bytes (n_offsets_of codes)

    with-list : list_stored record' count ≡ true → all ≡ fields ++ offsets
    with-list t = bytes_split record' ∙ ap (λ (b : Bool). fields ++ cond b offsets []) t

    without_list : list_stored record' count ≡ false → all ≡ fields
    without_list t =
        bytes_split record' ∙ ap (λ (b : Bool). fields ++ cond b offsets []) t ∙ append-nil fields

    pub length_with : list_stored record' count ≡ true → length all ≡ length fields + length offsets
    length_with t = ap length (with-list t) ∙ length-append fields offsets

    pub length_without : list_stored record' count ≡ false → length all ≡ length fields
    length_without t = ap length (without_list t)

    -- The fields are no longer than all.
    pub fields_short : length fields ≤ length all
    fields_short =
        omega (
          arith,
          ap length (bytes_split record'),
          length-append fields (tail record'),
        )

    -- Written one after the other.
    pub with_written : (out one new : List ℕ) (at next last : ℕ) → at + length all ≤ length out
        → list_stored record' count ≡ true
        → (one ≡ pasted out at fields) × (next ≡ at + length fields)
        → (new ≡ pasted one next offsets) × (last ≡ next + length offsets)
        → (new ≡ pasted out at all) × (last ≡ at + length all)
    with_written out one new at next last room t first second = (
      pasted_then out one new at next fields offsets (omega (arith, fields_short)) first.1
          first.0 second.0
          ∙ ap (pasted out at) (sym (with-list t)),
      omega (arith, first.1, second.1, length_with t),
    )

    pub without_written : (out one : List ℕ) (at next : ℕ) → list_stored record' count ≡ false
        → (one ≡ pasted out at fields) × (next ≡ at + length fields)
        → (one ≡ pasted out at all) × (next ≡ at + length all)
    without_written out one at next t first = (
      first.0 ∙ ap (pasted out at) (sym (without_list t)),
      omega (arith, first.1, length_without t),
    )

-- An N list that is stored is one that can be.
pub stored-fits : {record' : Record} {entries : ℕ} {read : List ℕ} {count : ℕ}
    → Writable record' entries read count → list_stored record' count ≡ true
    → NCounted read count
stored-fits can stored =
    record { fits = can.fits; counted = can.counted; few = can.listed stored }

-- The bytes are the same for every size of the reference.
pub bytes-any : (bases previous : ℕ) (record' : Record) (entries : List Entry) (codes : List ℕ)
    → record_bytes (record_written bases previous record' entries codes).context
    (record_written bases previous record' entries codes).stored
    ≡ written_bytes previous record' entries codes
unfolding written_bytes record_written record_bytes fields_bytes field_width has_n_list fields_for
bytes-any bases previous (kinds.Perfect placement) entries codes = refl
bytes-any bases previous (kinds.Global placement) entries codes = refl
bytes-any bases previous (kinds.Local placement) entries codes = refl
bytes-any bases previous kinds.Raw entries codes = refl
bytes-any bases previous kinds.Raw4 entries codes = refl

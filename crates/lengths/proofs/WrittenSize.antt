-- Writing one length, in each of the three ways. Assumes nothing.
use mathlib.Core.Path.{◌≡◌, refl, sym, ap, ◌∙◌}
use Prim.Native.Nat.{ℕ, ◌+◌, ◌*◌, ◌≤◌, ◌<◌}
use native.Mathlib.Omega.{arith}
use mathlib.Core.List.{List}
use lib.ListN.{length, set}
use Rattle.base.specs.Paste.{pasted}
use Rattle.base.proofs.PasteLaws.{pasted_nil, set_pasted}
use Rattle.dna.specs.Varint16.{varint16_bytes}
use Rattle.dna.specs.Sizes.{StoredSize, same, in_byte, in_words, is_same, is_in_byte, stored_bytes}
use Rattle.std.specs.Prelude.{Option, Some}
use Rattle.lengths.specs.declared.write.GroupWriter.{GroupWriter}
use Rattle.lengths.specs.Form.{stored_after, flag_bits, writer_after}
use Rattle.lengths.proofs.FormLaws.{after_same, after_byte, after_words}

module _ (previous : Option ℕ) (size : ℕ) (writer : GroupWriter) (buffer : List ℕ) where
  -- What is known of the stored size is known of what is written.
  written_as_lem : (stored : StoredSize) (out : List ℕ) (place flags : ℕ)
      → stored_after previous size ≡ stored
      → out ≡ pasted buffer writer.place (stored_bytes stored)
      → place ≡ writer.place + length (stored_bytes stored)
      → flags ≡ writer.flags * 2 + flag_bits stored
      → (out ≡ pasted buffer writer.place (stored_bytes (stored_after previous size)))
      × (record { place = place; flags = flags } ≡ writer_after writer (stored_after previous size))
  unfolding writer_after
  written_as_lem stored out place flags is written there bits = (
    written ∙ ap (λ (s : StoredSize). pasted buffer writer.place (stored_bytes s)) (sym is),
    (λ i. record { place = there i; flags = bits i })
        ∙ ap (writer_after writer) (sym is),
  )

  pub write_same : previous ≡ Some size
      → (buffer ≡ pasted buffer writer.place (stored_bytes (stored_after previous size)))
      × (record { place = writer.place; flags = writer.flags * 2 + 1 }
      ≡ writer_after writer (stored_after previous size))
  unfolding stored_bytes flag_bits is_same is_in_byte
  write_same e =
      written_as_lem same buffer writer.place (writer.flags * 2 + 1) (after_same previous size e)
      (sym (pasted_nil buffer writer.place)) (omega arith) refl

  module _ (other : previous ≡ Some size → ⊥) where
    pub write_byte : size < 256 → writer.place < length buffer
        → (set buffer writer.place size
        ≡ pasted buffer writer.place (stored_bytes (stored_after previous size)))
        × (record { place = writer.place + 1; flags = writer.flags * 2 + 256 }
        ≡ writer_after writer (stored_after previous size))
    unfolding stored_bytes flag_bits is_same is_in_byte
    write_byte small room =
        written_as_lem (in_byte size) (set buffer writer.place size) (writer.place + 1)
        (writer.flags * 2 + 256) (after_byte previous size other small)
        (set_pasted buffer writer.place size room) refl refl

    pub words-bytes : 256 ≤ size
        → varint16_bytes size ≡ stored_bytes (stored_after previous size)
    unfolding stored_bytes
    words-bytes large = sym (ap stored_bytes (after_words previous size other large))

    pub write_words : 256 ≤ size → (out : List ℕ) (place : ℕ)
        → out ≡ pasted buffer writer.place (varint16_bytes size)
        → place ≡ writer.place + length (varint16_bytes size)
        → (out ≡ pasted buffer writer.place (stored_bytes (stored_after previous size)))
        × (record { place = place; flags = writer.flags * 2 }
        ≡ writer_after writer (stored_after previous size))
    unfolding stored_bytes flag_bits is_same is_in_byte
    write_words large out place written there =
        written_as_lem (in_words size) out place (writer.flags * 2)
        (after_words previous size other large) written there (omega arith)

-- The two numbers of a writer after a size.
pub place_after : (writer next : GroupWriter) (stored : StoredSize)
    → next ≡ writer_after writer stored → next.place ≡ writer.place + length (stored_bytes stored)
unfolding writer_after
place_after writer next stored is = ap (λ (w : GroupWriter). w.place) is

pub flags-after : (writer next : GroupWriter) (stored : StoredSize)
    → next ≡ writer_after writer stored → next.flags ≡ writer.flags * 2 + flag_bits stored
unfolding writer_after
flags-after writer next stored is = ap (λ (w : GroupWriter). w.flags) is

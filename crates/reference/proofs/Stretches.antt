-- A stretch is written in pieces, each at its place; one law serves both strands. Assumes nothing.
use mathlib.Core.Path.{◌≡◌, refl, sym, ap, ◌∙◌}
use Prim.Native.Nat.{ℕ, ◌+◌, ◌-◌, ◌*◌, ◌/◌, ◌%◌, ◌≤◌, ◌<◌}
use native.Mathlib.Omega.{arith}
use mathlib.Core.Bool.{Bool, true, false, cond}
use mathlib.Core.List.{List}
use lib.ListN.{length, get_or, set}
use Rattle.base.specs.Numbers.{le_bytes}
use Rattle.base.specs.Paste.{pasted}
use Rattle.base.proofs.ListLaws.{below_at}
use Rattle.base.proofs.NumberLaws.{pasted-le_bytes}
use Rattle.base.proofs.FilledLaws.{Filled, filled_none, filled_more, filled_next, filled-all}
use Rattle.dna.specs.Reference.{strand_base, stretch_index, letter_of_code, stretch_letters}
use Rattle.dna.proofs.ReferenceLaws.{length-stretch_letters, get_or-stretch_letters, piece_leftmost}
use Rattle.dna.proofs.ReferenceLaws.{stretch-piece}
use Rattle.reference.specs.Stretch.{StretchFits}
use Rattle.reference.specs.Tables.{word_table}
use Rattle.reference.proofs.Words.{bases_byte-whole, table-letters, table_fits}

module _ (reference : List ℕ) (forward : Bool) (leftmost bases : ℕ) where
  -- The first `done` letters of the stretch stand in the buffer.
  abbrev pub Written : (old new : List ℕ) (at done : ℕ) → Type 0
  Written old new at done = Filled old new at (stretch_letters reference forward leftmost bases) done

  pub written_none : (buffer : List ℕ) (at : ℕ) → Written buffer buffer at 0
  written_none buffer at = filled_none buffer at (stretch_letters reference forward leftmost bases)

  pub written_all : {old new : List ℕ} {at done : ℕ} → Written old new at done → at + bases ≤ length old → bases ≤ done
      → new ≡ pasted old at (stretch_letters reference forward leftmost bases)
  written_all written room all =
      let size = length-stretch_letters reference forward leftmost bases in
      filled-all written (omega arith) (omega arith)

  -- The next letter.
  pub letter_written : {old now : List ℕ} {at k : ℕ} (letter : ℕ) → Written old now at k → at + bases ≤ length old → k < bases
      → letter ≡ letter_of_code (strand_base reference forward (stretch_index forward leftmost bases k))
      → Written old (set now (at + k) letter) at (k + 1)
  letter_written {old} {now} {at} {k} letter written room h e =
      let size = length-stretch_letters reference forward leftmost bases in
      filled_next (at + k) letter written (omega arith) (omega arith) refl
      (e ∙ sym (get_or-stretch_letters reference forward leftmost bases k h))

  -- A piece that is itself a stretch: it may overlap the letters that stand, and leaves no gap.
  pub piece_written : {old now : List ℕ} {at done : ℕ} (new : List ℕ) (place k count index more : ℕ) → Written old now at done
      → at + bases ≤ length old → new ≡ pasted now place (stretch_letters reference forward index count) → place ≡ at + k
      → index ≡ piece_leftmost forward leftmost bases k count → k ≤ done → k + count ≤ bases → more ≤ k + count
      → Written old new at more
  piece_written {old} {now} {at} {done} new place k count index more written room e there start near inside least =
      let size = length-stretch_letters reference forward leftmost bases in
      let part = length-stretch_letters reference forward index count in
      filled_more new (stretch_letters reference forward index count) place k more written (omega arith) e there near
      (omega arith) (omega arith)
      (λ j h. stretch-piece reference forward leftmost bases k count index inside start j (omega arith))

  -- The next four letters, from a whole byte, by the table.
  pub byte_written : {old now : List ℕ} {at : ℕ} (table new : List ℕ) (place k i byte more : ℕ) → table ≡ word_table forward
      → Written old now at k → at + bases ≤ length old → k + 4 ≤ bases
      → new ≡ pasted now place (le_bytes 4 (get_or table byte 0)) → place ≡ at + k → byte ≡ get_or reference i 0 → byte < 256
      → 4 * i ≡ piece_leftmost forward leftmost bases k 4 → more ≡ k + 4 → Written old new at more
  byte_written {old} {now} {at} table new place k i byte more lent written room inside e there here small start next =
      piece_written new place k 4 (4 * i) more written room
      (e
      ∙ ap (pasted now place)
      (table-letters table reference forward (4 * i) byte lent (bases_byte-whole reference (4 * i) i byte refl here small)))
      there start (omega arith) inside (omega arith)

  -- The next eight letters, from two bytes, as one number.
  pub pair_written : {old now : List ℕ} {at : ℕ} (table new : List ℕ) (place k i j one other words : ℕ)
      → table ≡ word_table forward → Written old now at (8 * k) → at + bases ≤ length old → 8 * k + 8 ≤ bases
      → words ≡ get_or table one 0 + 4294967296 * get_or table other 0 → new ≡ pasted now place (le_bytes 8 words)
      → place ≡ at + 8 * k → one ≡ get_or reference i 0 → one < 256 → other ≡ get_or reference j 0 → other < 256
      → 4 * i ≡ piece_leftmost forward leftmost bases (8 * k) 4 → 4 * j ≡ piece_leftmost forward leftmost bases (8 * k + 4) 4
      → Written old new at (8 * (k + 1))
  pair_written {old} {now} table new place k i j one other words lent written room inside both e there here small
      here' small' start start' =
      let low : ℕ = get_or table one 0 in
      let fits = below_at table (omega arith) (table_fits table forward lent) in
      let half : List ℕ = pasted now place (le_bytes 4 low) in
      let joined =
      pasted-le_bytes 4 4 now half (pasted half (place + 4) (le_bytes 4 (get_or table other 0))) place (place + 4) words low
      (get_or table other 0) (omega (arith, written.sized)) refl
      (omega (arith, fits one, fits other)) (omega (arith, fits one, fits other)) refl refl in
      byte_written table new (place + 4) (8 * k + 4) j other (8 * (k + 1)) lent
      (byte_written table half place (8 * k) i one (8 * k + 4) lent written room (omega arith) refl there here small start
      refl)
      room (omega arith) (e ∙ sym joined) (omega arith) here' small' start' (omega arith)

  -- The first four letters, whole bytes after them, and twice four at the end, where none leaves a gap.
  pub ends_and_bytes : (old first middle almost new : List ℕ)
      (at head count place₂ place₃ place₄ index₁ index₂ index₃ index₄ : ℕ) → at + bases ≤ length old → 8 ≤ bases
      → first ≡ pasted old at (stretch_letters reference forward index₁ 4)
      → middle ≡ pasted first place₂ (stretch_letters reference forward index₂ count)
      → almost ≡ pasted middle place₃ (stretch_letters reference forward index₃ 4)
      → new ≡ pasted almost place₄ (stretch_letters reference forward index₄ 4)
      → head ≤ 4 → head + count ≤ bases → bases ≤ head + count + 8
      → place₂ ≡ at + head → place₃ ≡ at + (bases - 8) → place₄ ≡ at + (bases - 4)
      → index₁ ≡ piece_leftmost forward leftmost bases 0 4
      → index₂ ≡ piece_leftmost forward leftmost bases head count
      → index₃ ≡ piece_leftmost forward leftmost bases (bases - 8) 4
      → index₄ ≡ piece_leftmost forward leftmost bases (bases - 4) 4
      → new ≡ pasted old at (stretch_letters reference forward leftmost bases)
  ends_and_bytes old first middle almost new at head count place₂ place₃ place₄ index₁ index₂ index₃ index₄ room some
      e₁ e₂ e₃ e₄ few most least p₂ p₃ p₄ s₁ s₂ s₃ s₄ =
      let w₁ =
      piece_written first at 0 4 index₁ 4 (written_none old at) room e₁ (omega arith) s₁ (omega arith) (omega arith)
      (omega arith) in
      let w₂ =
      piece_written middle place₂ head count index₂ (head + count) w₁ room e₂ p₂ s₂ few most (omega arith) in
      let w₃ =
      piece_written almost place₃ (bases - 8) 4 index₃ (bases - 4) w₂ room e₃ p₃ s₃ (omega arith) (omega arith)
      (omega arith) in
      let w₄ =
      piece_written new place₄ (bases - 4) 4 index₄ bases w₃ room e₄ p₄ s₄ (omega arith) (omega arith) (omega arith) in
      written_all w₄ room (omega arith)

-- The letters of a byte of whole bytes of the reference lie where the strand has them.
pub byte_piece : (forward : Bool) (first bytes j bases k : ℕ) → j < bytes → bases ≡ 4 * bytes → k ≡ 4 * j
    → 4 * stretch_index forward first bytes j ≡ piece_leftmost forward (4 * first) bases k 4
unfolding stretch_index
byte_piece true first bytes j bases k inside whole place = omega arith
byte_piece false first bytes j bases k inside whole place = omega arith

-- A piece of whole bytes begins at a byte.
pub whole_piece : (forward : Bool) (leftmost bases head count whole : ℕ)
    → (leftmost + cond forward head (bases - head)) % 4 ≡ 0 → count % 4 ≡ 0 → head + count ≤ bases
    → whole ≡ piece_leftmost forward leftmost bases head count
    → 4 * (whole / 4) ≡ piece_leftmost forward leftmost bases head count
whole_piece true leftmost bases head count whole here four room e = omega arith
whole_piece false leftmost bases head count whole here four room e = omega arith

-- A piece of a stretch lies on the reference.
pub piece_fits : {reference : List ℕ} {leftmost bases : ℕ} (forward : Bool) (k count piece : ℕ)
    → StretchFits reference leftmost bases → k + count ≤ bases
    → piece ≡ piece_leftmost forward leftmost bases k count → StretchFits reference piece count
piece_fits true k count piece fits room e =
    record { inside = omega (arith, fits.inside); small = omega (arith, fits.small) }
piece_fits false k count piece fits room e =
    record { inside = omega (arith, fits.inside); small = omega (arith, fits.small) }

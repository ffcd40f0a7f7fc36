-- Pieces written into several regions of one buffer, one a region: what stands where afterwards.
-- Assumes nothing.
use mathlib.Core.Path.{◌≡◌, refl, sym, subst, ◌∙◌}
use Prim.Native.Nat.{ℕ, zero, suc, ◌+◌, ◌≤◌, ◌<◌}
use native.Mathlib.Nat.{not-suc-le-zero}
use native.Mathlib.Omega.{arith}
use mathlib.Core.List.{List, ◌++◌}
use lib.ListN.{length, length-append}
use Rattle.base.specs.Paste.{pasted}
use Rattle.base.specs.Place.{At}
use Rattle.base.proofs.AtLaws.{at_both, at-to}
use Rattle.base.proofs.AtPasteLaws.{at_pasted, at_pasted_before, at_pasted_after}
use Rattle.base.proofs.ListLaws.{by_order}
use Rattle.base.proofs.PasteLaws.{length_pasted}
use Rattle.names_writer.specs.Pieces.{written}

-- Regions one after the other, each with a part at its start and room for a piece after it.
pub record Regions (count : ℕ) (start size : ℕ → ℕ) (end : ℕ) (place : ℕ → ℕ)
    (part piece : ℕ → List ℕ) : Type 0 where
  pub apart : (j k : ℕ) → j < k → k < count → start j + size j ≤ start k
  pub inside : (k : ℕ) → k < count → start k + size k ≤ end
  pub fits : (k : ℕ) → k < count → length (part k) + length (piece k) ≤ size k
  pub there : (k : ℕ) → k < count → place k ≡ start k + length (part k)

module _ (count : ℕ) (start size : ℕ → ℕ) (end : ℕ) (place : ℕ → ℕ) (part piece : ℕ → List ℕ)
    (regions : Regions count start size end place part piece) (buffer : List ℕ)
    (room : end ≤ length buffer) where
  -- A piece ends in its region.
  piece_end : (k : ℕ) → k < count → place k + length (piece k) ≤ start k + size k
  piece_end k h = omega (arith, regions.fits k h, regions.there k h)

  pub length_written : (m : ℕ) → m ≤ count → length (written buffer place piece m) ≡ length buffer
  unfolding written
  length_written zero h = refl
  length_written (suc m) h =
      let before : length (written buffer place piece m) ≡ length buffer =
      length_written m (omega arith) in
      length_pasted (written buffer place piece m) (place m) (piece m)
      (omega (arith, piece_end m h, regions.inside m h))
      ∙ before

  piece_room : (m : ℕ) → m < count
      → place m + length (piece m) ≤ length (written buffer place piece m)
  piece_room m h =
      omega (arith, piece_end m h, regions.inside m h, length_written m (omega arith))

  -- What stands before all regions stays.
  pub front_stays : (at : ℕ) (standing : List ℕ)
      → ((k : ℕ) → k < count → at + length standing ≤ start k) → At buffer at standing → (m : ℕ)
      → m ≤ count → At (written buffer place piece m) at standing
  unfolding written
  front_stays at standing low stands zero h = stands
  front_stays at standing low stands (suc m) h =
      at_pasted_before (written buffer place piece m) (place m) (piece m) (piece_room m h) at
      standing (front_stays at standing low stands m (omega arith))
      (omega (arith, low m h, regions.there m h))

  -- What stands after all regions stays.
  pub back_stays : (at : ℕ) (standing : List ℕ) → end ≤ at → At buffer at standing → (m : ℕ)
      → m ≤ count → At (written buffer place piece m) at standing
  unfolding written
  back_stays at standing high stands zero h = stands
  back_stays at standing high stands (suc m) h =
      at_pasted_after (written buffer place piece m) (place m) (piece m) (piece_room m h) at
      standing (back_stays at standing high stands m (omega arith))
      (omega (arith, piece_end m h, regions.inside m h))

  -- A part stays while pieces are written before it.
  part_waits : (k : ℕ) → k < count → At buffer (start k) (part k) → (m : ℕ) → m ≤ k
      → At (written buffer place piece m) (start k) (part k)
  unfolding written
  part_waits k inside stands zero h = stands
  part_waits k inside stands (suc m) h =
      at_pasted_after (written buffer place piece m) (place m) (piece m)
      (piece_room m (omega arith)) (start k) (part k) (part_waits k inside stands m (omega arith))
      (omega (arith, piece_end m (omega arith), regions.apart m k h inside))

  -- Then its own piece follows it, and both stay.
  pub part_grows : (k : ℕ) → k < count → At buffer (start k) (part k) → (m : ℕ) → k < m → m ≤ count
      → At (written buffer place piece m) (start k) (part k ++ piece k)
  unfolding written
  part_grows k inside stands zero low h = absurd (not-suc-le-zero low)
  part_grows k inside stands (suc m) low h =
      let now : List ℕ = written buffer place piece m in
      let fits : place m + length (piece m) ≤ length now = piece_room m h in
      let earlier : (k < m) → At now (start k) (part k ++ piece k) =
      λ l. part_grows k inside stands m l (omega arith) in
      by_order k m
      (λ later.
      at_pasted_before now (place m) (piece m) fits (start k) (part k ++ piece k) (earlier later)
      (omega (
        arith,
        length-append (part k) (piece k),
        regions.fits k inside,
        regions.apart k m later h,
        regions.there m h,
      )))
      (λ same.
      let is : m ≡ k = omega arith in
      subst (λ (j : ℕ). At (pasted now (place j) (piece j)) (start k) (part k ++ piece k)) (sym is)
      (let fits-k : place k + length (piece k) ≤ length now =
      subst (λ (j : ℕ). place j + length (piece j) ≤ length now) is fits in
      at_both (part k) (piece k)
      (at_pasted_before now (place k) (piece k) fits-k (start k) (part k)
      (part_waits k inside stands m (omega arith)) (omega (arith, regions.there k inside)))
      (at-to (place k) (start k + length (part k)) (regions.there k inside)
      (at_pasted now (place k) (piece k) fits-k))))

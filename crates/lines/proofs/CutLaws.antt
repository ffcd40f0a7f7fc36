-- Reads cut out of letters by their ends, and their lines. Assumes nothing.
use mathlib.Core.Path.{◌≡◌, refl, sym, ap, ap₂, ◌∙◌, subst}
use Prim.Native.Nat.{ℕ, suc, ◌+◌, ◌-◌, ◌≤◌, ◌<◌}
use native.Mathlib.Omega.{arith}
use mathlib.Core.List.{List, [], ◌∷◌, ◌++◌, map, flatten, append_assoc, append-nil}
use lib.ListN.{length, get_or, take, drop, length-append, length-drop}
use lib.Seq.{take_at, drop_at, drop-cons, length-take-le}
use Rattle.base.specs.Lists.{part, places_from}
use Rattle.base.proofs.PasteLaws.{pasted_nil}
use Rattle.base.proofs.ListLaws.{no_length_lem}
use Rattle.lines.specs.Text.{text}
use Rattle.lines.specs.Lines.{read_line, read_lines}
use Rattle.lines.specs.Cuts.{reads_cut, EndsRise}
use Rattle.lines.proofs.PutLaws.{Put, put_next}

-- ---- The ends of some reads

-- The ends of reads cut those reads out of their letters.
pub cut-back : (front : List ℕ) (reads : List (List ℕ)) (rest : List ℕ) (start : ℕ)
    → start ≡ length front
    → reads_cut start (front ++ (flatten reads ++ rest)) (places_from start (map length reads))
    ≡ reads
unfolding reads_cut places_from flatten
cut-back front [] rest start at = refl
cut-back front (read ∷ reads) rest start at =
    let more : List ℕ = flatten reads ++ rest in
    let whole : List ℕ = front ++ ((read ++ flatten reads) ++ rest) in
    let split : whole ≡ front ++ (read ++ more) =
    ap (λ (l : List ℕ). front ++ l) (append_assoc read (flatten reads) rest) in
    let size : start + length read - start ≡ length read = omega arith in
    let dropped : drop start whole ≡ read ++ more =
    ap (drop start) split ∙ drop_at front (read ++ more) start (sym at) in
    let first : part whole start (start + length read - start) ≡ read =
    ap₂ (λ (l : List ℕ) (n : ℕ). take n l) dropped size ∙ take_at read more (length read) refl in
    let next : reads_cut (start + length read) ((front ++ read) ++ more)
    (places_from (start + length read) (map length reads))
    ≡ reads =
    cut-back (front ++ read) reads rest (start + length read)
    (omega (arith, length-append front read)) in
    ap₂ ◌∷◌ first
    (ap (λ (l : List ℕ). reads_cut (start + length read) l
    (places_from (start + length read) (map length reads)))
    (split ∙ sym (append_assoc front read more)) ∙ next)

-- There is one for each.
pub length-places_from : (start : ℕ) (steps : List ℕ)
    → length (places_from start steps) ≡ length steps
unfolding places_from
length-places_from start [] = refl
length-places_from start (step ∷ steps) = ap suc (length-places_from (start + step) steps)

-- They rise, and lie in the letters.
pub ends_rise : (reads : List (List ℕ)) (start most : ℕ)
    → start + length (flatten reads) ≤ most
    → EndsRise start most (places_from start (map length reads))
unfolding places_from flatten
ends_rise [] start most room = tt
ends_rise (read ∷ reads) start most room =
    let size : length (read ++ flatten reads) ≡ length read + length (flatten reads) =
    length-append read (flatten reads) in (
      omega arith,
      omega arith,
      ends_rise reads (start + length read) most (omega arith),
    )

-- ---- Writing them, one a turn

-- So many of the reads are written: some text, and the lines of the others make the whole.
pub record Printed (letters ends buffer : List ℕ) (at : ℕ) (out : List ℕ) (place start k : ℕ)
    : Type 0 where
  pub written : List ℕ
  pub put : Put buffer at written out place
  pub whole : written ++ read_lines (reads_cut start letters (drop k ends))
      ≡ read_lines (reads_cut 0 letters ends)
  pub rises : EndsRise start (length letters) (drop k ends)
  pub inside : start ≤ length letters
  pub behind : k ≤ length ends
  pub room : place + (length letters - start) + (length ends - k) ≤ length buffer
  pub same : length out ≡ length buffer

length-read_line : (letters : List ℕ) → length (read_line letters) ≡ length letters + 1
unfolding read_line text
length-read_line letters = length-append letters (text "\n")

pub printed-start : (letters ends buffer : List ℕ) (at : ℕ) → EndsRise 0 (length letters) ends
    → at + length letters + length ends ≤ length buffer
    → Printed letters ends buffer at buffer at 0 0
printed-start letters ends buffer at rises room =
    record {
      written = [];
      put = (sym (pasted_nil buffer at), omega arith);
      whole = refl;
      rises = rises;
      inside = omega arith;
      behind = omega arith;
      room = omega arith;
      same = refl;
    }

module _ {letters ends buffer : List ℕ} {at : ℕ} {out : List ℕ} {place start k : ℕ}
    (printed : Printed letters ends buffer at out place start k) where
  -- The next read lies in the letters, and its line in the buffer.
  module _ (left : k < length ends) (end : ℕ) (is : end ≡ get_or ends k 0) where
    head : drop k ends ≡ end ∷ drop (k + 1) ends
    head =
        let e : suc k ≡ k + 1 = omega arith in
        drop-cons ends k 0 left
        ∙ ap₂ (λ (x j : ℕ). x ∷ drop j ends) (sym is) e

    rest_rises : EndsRise start (length letters) (end ∷ drop (k + 1) ends)
    rest_rises = subst (λ (l : List ℕ). EndsRise start (length letters) l) head printed.rises

    pub next_inside : (start ≤ end) × (end ≤ length letters)
        × (place + (end - start) + 1 ≤ length out)
    next_inside = (
      rest_rises.0,
      rest_rises.1,
      omega (arith, rest_rises.0, rest_rises.1, printed.room, printed.same),
    )

    pub printed_turn : (line : List ℕ) (out' : List ℕ) (place' : ℕ)
        → line ≡ part letters start (end - start) → length out' ≡ length out
        → Put out place (read_line line) out' place'
        → Printed letters ends buffer at out' place' end (k + 1)
    unfolding reads_cut read_lines
    printed_turn line out' place' line-is kept put =
        let size : length line ≡ end - start =
        ap length line-is
        ∙ length-take-le (end - start) (drop start letters)
        (omega (arith, rest_rises.0, rest_rises.1, length-drop start letters)) in
        let long : length (read_line line) ≡ length line + 1 = length-read_line line in
        let others : List ℕ = read_lines (reads_cut end letters (drop (k + 1) ends)) in
        record {
          written = printed.written ++ read_line line;
          put =
              put_next buffer at printed.written (read_line line) out out' place place'
              printed.put (omega (arith, printed.room)) put;
          whole =
              append_assoc printed.written (read_line line) others
              ∙ ap (λ (l : List ℕ). printed.written ++ (read_line l ++ others)) line-is
              ∙ ap (λ (l : List ℕ). printed.written ++ read_lines (reads_cut start letters l))
              (sym head)
              ∙ printed.whole;
          rises = rest_rises.2;
          inside = rest_rises.1;
          behind = omega arith;
          room = omega (arith, rest_rises.0, rest_rises.1, printed.room, put.1);
          same = kept ∙ printed.same;
        }

  -- None is left.
  pub printed_end : length ends ≤ k
      → Put buffer at (read_lines (reads_cut 0 letters ends)) out place
  unfolding reads_cut read_lines
  printed_end none =
      let over : drop k ends ≡ [] = no_length_lem (drop k ends) (omega (arith, length-drop k ends)) in
      let all : printed.written ≡ read_lines (reads_cut 0 letters ends) =
      sym (append-nil printed.written)
      ∙ ap (λ (l : List ℕ). printed.written ++ read_lines (reads_cut start letters l)) (sym over)
      ∙ printed.whole in
      subst (λ (l : List ℕ). Put buffer at l out place) all printed.put

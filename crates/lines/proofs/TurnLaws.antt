-- What decoding the block of a window says of the turn's text. Assumes nothing.
use mathlib.Core.Path.{◌≡◌, refl, sym, ap, ap₂, ◌∙◌, subst}
use Prim.Native.Nat.{ℕ, ◌≤◌}
use native.Mathlib.Omega.{arith}
use mathlib.Core.Bool.{◌||◌}
use mathlib.Core.List.{List, [], ◌∷◌, ◌++◌, map, flatten}
use lib.ListN.{length, take, drop, replicate, length-append, length-map, length-replicate}
use lib.Seq.{take_at}
use lib.Dec.{ltb}
use borrow.Author.Tests.{ltb-false}
use Rattle.base.specs.Lists.{any, places_from, AllBytes}
use Rattle.base.specs.Faults.{fault}
use Rattle.base.specs.Paste.{pasted}
use Rattle.base.specs.Answer.{found, refused, and_then, checked}
use Rattle.base.proofs.Tests.{or-neither}
use Rattle.base.proofs.ListLaws.{length-build}
use Rattle.base.proofs.PasteLaws.{pasted_start, length_pasted}
use Rattle.base.proofs.AnswerLaws.{Refuses, and_then-parts, checked-found, found-same}
use Rattle.dna.specs.Letters.{record_letters}
use Rattle.dna.specs.Counts.{Counted, plus, sum_counts, record_counts}
use Rattle.dna.specs.Division.{Read, reads_of, division_letters, division_counts, read_ends}
use Rattle.dna.specs.Walk.{Walk, of_read, refused_at}
use Rattle.dna.proofs.ReadLengths.{reads-lengths}
use Rattle.format.specs.Header.{header_of, read_count}
use Rattle.format.specs.Sections.{n_number, section_of}
use Rattle.format.specs.WellFormed.{BlockDivision, DividesBlock}
use Rattle.format.specs.Joined.{block_reads, block_counts}
use Rattle.format.specs.Outcome.{Outcome, refusal, accepted_block}
use Rattle.format.specs.BlockAnswer.{block_answer, block_outcome, Buffers, capacity_too_small}
use Rattle.format.specs.BlockAnswer.{decode_answer, id_answer, decoded, buffers_after, decoded_buffers}
use Rattle.format.proofs.AnswerNumbers.{OwnRefusal, least-own, decode-own}
use Rattle.format.proofs.BlockLaws.{Accepted, block-found}
use Rattle.format.proofs.HeaderLaws.{HeaderRight, faults-right}
use Rattle.lines.specs.Lines.{block_text, refused_line}
use Rattle.lines.specs.Cuts.{reads_cut, EndsRise}
use Rattle.lines.specs.Listing.{letters_lent, ends_lent, name_bytes_lent, name_ends_lent}
use Rattle.lines.specs.Listing.{listed_answer, answer_text, answer_move, turn_text, turn_move}
use Rattle.lines.proofs.CutLaws.{cut-back, ends_rise, length-places_from}

-- ---- The reads of a division

letters-lengths : (reference : List ℕ) (reads : List Read)
    → map length
    (map (λ read. record_letters reference read.context read.piece.stored) reads)
    ≡ map (λ read. read.context.read_length) reads
unfolding record_letters
letters-lengths reference [] = refl
letters-lengths reference (read ∷ reads) =
    ap₂ ◌∷◌ (length-build read.context.read_length _) (letters-lengths reference reads)

-- Each has as many letters as its length says.
reads-long : (bases : ℕ) (reference block : List ℕ) (divided : BlockDivision)
    → DividesBlock bases block divided
    → map length (block_reads reference bases divided) ≡ divided.lengths
unfolding block_reads division_letters
reads-long bases reference block divided d =
    letters-lengths reference (reads_of bases divided.lengths divided.division)
    ∙ reads-lengths bases divided.lengths (section_of block n_number) divided.division
    d.divides.groups

one_each : (reference : List ℕ) (reads : List Read)
    → (sum_counts (map (λ read. record_counts reference read.context read.piece.stored) reads)
    ).reads
    ≡ length reads
unfolding sum_counts plus record_counts
one_each reference [] = refl
one_each reference (read ∷ reads) =
    let more = one_each reference reads in
    omega arith

-- They are counted one by one.
reads-counted : (bases : ℕ) (reference : List ℕ) (divided : BlockDivision)
    → (block_counts reference bases divided).reads ≡ length (block_reads reference bases divided)
unfolding block_counts division_counts block_reads division_letters
reads-counted bases reference divided =
    one_each reference (reads_of bases divided.lengths divided.division)
    ∙ sym (length-map (reads_of bases divided.lengths divided.division) _)

-- ---- What is lent

-- The lent buffers have the lengths that the program lends.
pub record LentSizes (buffers : Buffers) : Type 0 where
  pub letters : length buffers.letters ≡ letters_lent
  pub ends : length buffers.ends ≡ ends_lent
  pub names : length buffers.names ≡ name_bytes_lent
  pub name_ends : length buffers.name_ends ≡ name_ends_lent

module _ (bases : ℕ) (reference window : List ℕ) (buffers : Buffers) (sizes : LentSizes buffers) where
  -- The buffers of letters and ends.
  abbrev letters : List ℕ
  letters = buffers.letters

  abbrev ends : List ℕ
  ends = buffers.ends

  -- Of what is lent only the lengths matter.
  listed : decode_answer bases reference window buffers ≡ listed_answer bases reference window
  unfolding decode_answer listed_answer capacity_too_small
  listed =
      let room : (a b c d : ℕ) → Walk BlockDivision = λ a b c d.
      and_then (block_answer bases reference window) (λ divided next.
      checked (refused_at 0)
      (fault 22
      (ltb a (length (flatten (block_reads reference bases divided)))
      || (ltb b (length divided.lengths)
      || (ltb c (length (flatten divided.names)) || ltb d (length divided.names)))) ∷ [])
      (found divided next)) in
      ap₂ (λ (a b : ℕ). room a b (length buffers.names) (length buffers.name_ends))
      (sizes.letters ∙ sym (length-replicate {A = ℕ} letters_lent 0))
      (sizes.ends ∙ sym (length-replicate {A = ℕ} ends_lent 0))
      ∙ ap₂ (λ (c d : ℕ). room (length (replicate {A = ℕ} letters_lent 0)) (length (replicate {A = ℕ} ends_lent 0)) c d)
      (sizes.names ∙ sym (length-replicate {A = ℕ} name_bytes_lent 0))
      (sizes.name_ends ∙ sym (length-replicate {A = ℕ} name_ends_lent 0))

  -- A decoded block was judged, and there was room.
  pub record Found (divided : BlockDivision) (next : ℕ) : Type 0 where
    pub judged : block_answer bases reference window ≡ found divided next
    pub letters_fit : length (flatten (block_reads reference bases divided)) ≤ length letters
    pub ends_fit : length divided.lengths ≤ length ends

  found_parts : (divided : BlockDivision) (next : ℕ)
      → decode_answer bases reference window buffers ≡ found divided next
      → Found divided next
  unfolding decode_answer capacity_too_small any
  found_parts divided next e =
      and_then-parts (block_answer bases reference window) _ e (λ divided₁ next₁ e₁ e₂.
      let parts = checked-found (of_read 0) _ _ e₂ in
      let full = or-neither (capacity_too_small reference bases buffers divided₁) _ parts.0 in
      let over = or-neither (ltb (length letters) (length (flatten (block_reads reference bases divided₁)))) _ full.0 in
      let long = or-neither (ltb (length ends) (length divided₁.lengths)) _ over.1 in
      let same = found-same parts.1 in
      subst (λ (d : BlockDivision). Found d next) same.0
      (record {
        judged = e₁ ∙ ap (found divided₁) same.1;
        letters_fit = ltb-false (length letters) _ over.0;
        ends_fit = ltb-false (length ends) _ long.0;
      }))

  -- What a turn has where its block was decoded: the reads, which the ends cut out of the letters.
  pub record Listed (bytes : ℕ) (counts : Counted) (letters' ends' : List ℕ) : Type 0 where
    pub reads : List (List ℕ)
    pub text_is : (block : ℕ)
        → turn_text bases reference window block ≡ block_text (id_answer window) counts reads
    pub move_is : turn_move bases reference window ≡ bytes
    pub inside : bytes ≤ length window
    pub letters_kept : length letters' ≡ length letters
    pub ends_kept : length ends' ≡ length ends
    pub ends_fit : counts.reads ≤ length ends
    pub rises : EndsRise 0 (length letters') (take counts.reads ends')
    pub cuts : reads_cut 0 letters' (take counts.reads ends') ≡ reads

  module _ (all : AllBytes window) where
    accepted_by : (bytes : ℕ) (counts : Counted) (letters' ends' : List ℕ)
        (answer : Walk BlockDivision)
        → decode_answer bases reference window buffers ≡ answer
        → Refuses (OwnRefusal 1 22 (read_count (header_of window))) answer
        → accepted_block bytes counts ≡ block_outcome reference bases answer
        → letters' ≡ (buffers_after reference bases answer buffers).letters
        → ends' ≡ (buffers_after reference bases answer buffers).ends
        → Listed bytes counts letters' ends'
    unfolding block_outcome buffers_after read_ends turn_text turn_move answer_text answer_move
    accepted_by bytes counts letters' ends' (found divided next) is own same letters_are ends_are =
        let moved : bytes ≡ next = ap (λ (o : Outcome). o.bytes) same in
        let counts_are : counts ≡ block_counts reference bases divided =
        ap (λ (o : Outcome). o.counts) same in
        let parts : Found divided next = found_parts divided next is in
        let accepted : Accepted bases window divided next =
        block-found bases reference window divided next all parts.judged in
        let right : HeaderRight window = faults-right window accepted.header in
        let reads : List (List ℕ) = block_reads reference bases divided in
        let long : map length reads ≡ divided.lengths =
        reads-long bases reference window divided accepted.divides in
        let size : length reads ≡ length divided.lengths =
        sym (length-map reads length) ∙ ap length long in
        let counted : counts.reads ≡ length reads =
        ap (λ (c : Counted). c.reads) counts_are ∙ reads-counted bases reference divided in
        let front : letters' ≡ flatten reads ++ drop (length (flatten reads)) letters =
        letters_are ∙ pasted_start letters (flatten reads) in
        let places : List ℕ = places_from 0 (map length reads) in
        let places_count : length places ≡ counts.reads =
        length-places_from 0 (map length reads) ∙ length-map reads length ∙ sym counted in
        let cut : take counts.reads ends' ≡ places =
        ap (take counts.reads)
        (ends_are ∙ ap (λ (l : List ℕ). pasted ends 0 (places_from 0 l)) (sym long)
        ∙ pasted_start ends places)
        ∙ take_at places (drop (length places) ends) counts.reads places_count in
        record {
          reads = reads;
          text_is = λ block.
              ap (answer_text bases reference window block) (sym listed ∙ is)
              ∙ ap (λ (c : Counted). block_text (id_answer window) c reads) (sym counts_are);
          move_is = ap answer_move (sym listed ∙ is) ∙ sym moved;
          inside = omega (arith, moved, accepted.size, right.inside);
          letters_kept =
              ap length letters_are
              ∙ length_pasted letters 0 (flatten reads) (omega (arith, parts.letters_fit));
          ends_kept =
              ap length ends_are
              ∙ length_pasted ends 0 (places_from 0 divided.lengths)
              (omega (arith, parts.ends_fit, length-places_from 0 divided.lengths));
          ends_fit = omega (arith, counted, size, parts.ends_fit);
          rises =
              subst (λ (l : List ℕ). EndsRise 0 (length letters') l) (sym cut)
              (ends_rise reads 0 (length letters')
              (omega (arith, ap length front, length-append (flatten reads) (drop (length (flatten reads)) letters))));
          cuts =
              ap₂ (λ (l e : List ℕ). reads_cut 0 l e) front cut
              ∙ cut-back [] reads (drop (length (flatten reads)) letters) 0 refl;
        }
    accepted_by bytes counts letters' ends' (refused why) is own same letters_are ends_are =
        let none : 0 ≡ why.number = ap (λ (o : Outcome). o.number) same in
        absurd (omega (arith, least-own 1 (omega arith) own.number_own))

    pub turn_accepted : (bytes : ℕ) (counts : Counted) (letters' ends' : List ℕ)
        → accepted_block bytes counts ≡ decoded bases reference window buffers
        → letters' ≡ (decoded_buffers bases reference window buffers).letters
        → ends' ≡ (decoded_buffers bases reference window buffers).ends
        → Listed bytes counts letters' ends'
    unfolding decoded decoded_buffers
    turn_accepted bytes counts letters' ends' =
        accepted_by bytes counts letters' ends'
        (decode_answer bases reference window buffers) refl
        (decode-own bases reference window buffers)

    refused_by : (number read block : ℕ) (answer : Walk BlockDivision)
        → decode_answer bases reference window buffers ≡ answer
        → refusal number 0 read ≡ block_outcome reference bases answer
        → (turn_text bases reference window block ≡ refused_line number block read)
        × (turn_move bases reference window ≡ 0)
    unfolding block_outcome turn_text turn_move answer_text answer_move
    refused_by number read block (found divided next) is same =
        let none : 0 ≡ next = ap (λ (o : Outcome). o.bytes) same in
        let parts : Found divided next = found_parts divided next is in
        let accepted : Accepted bases window divided next =
        block-found bases reference window divided next all parts.judged in
        let right : HeaderRight window = faults-right window accepted.header in
        absurd (omega (arith, accepted.size, right.header))
    refused_by number read block (refused why) is same = (
      ap (answer_text bases reference window block) (sym listed ∙ is)
          ∙ ap₂ (λ (n r : ℕ). refused_line n block r) (ap (λ (o : Outcome). o.number) (sym same))
          (ap (λ (o : Outcome). o.read) (sym same)),
      ap answer_move (sym listed ∙ is),
    )

    pub turn_refused : (number read block : ℕ)
        → refusal number 0 read ≡ decoded bases reference window buffers
        → (turn_text bases reference window block ≡ refused_line number block read)
        × (turn_move bases reference window ≡ 0)
    unfolding decoded
    turn_refused number read block =
        refused_by number read block (decode_answer bases reference window buffers) refl

-- Judging a block, decoding it and judging a file depend on the bases of the reference alone. Assumes nothing.
use mathlib.Core.Path.{◌≡◌, refl, sym, ap, ◌∙◌, subst}
use Prim.Native.Nat.{ℕ, zero, suc, ◌+◌}
use mathlib.Core.Bool.{◌||◌}
use mathlib.Core.List.{List, [], ◌∷◌, map, flatten}
use lib.ListN.{length, drop}
use lib.Dec.{ltb}
use Rattle.base.specs.Lists.{places_from, All}
use Rattle.base.specs.Faults.{fault}
use Rattle.base.specs.Answer.{checked, Answer, found, refused, and_then, refused_as}
use Rattle.base.specs.Paste.{pasted}
use Rattle.base.proofs.AnswerLaws.{found-same, checked-found, and_then-parts, found-refused_as}
use Rattle.base.proofs.AnswerLaws.{absurd-found, cond-parts, and_then-same}
use Rattle.base.proofs.ListLaws.{map_same}
use Rattle.dna.specs.Reference.{reference_size_wrong}
use Rattle.dna.specs.Counts.{Counted, sum_counts}
use Rattle.dna.specs.Division.{Read, reads_of, division_letters, division_counts, read_ends}
use Rattle.dna.specs.Walk.{of_read, Walk, refused_at, section_walk}
use Rattle.format.specs.Sections.{dna_number, n_number, section_of}
use Rattle.format.specs.Lengths.{length_faults}
use Rattle.format.specs.WellFormed.{BlockDivision}
use Rattle.format.specs.Joined.{block_reads, block_counts, file_counts}
use Rattle.format.specs.Outcome.{accepted_block, accepted_file, modulo64}
use Rattle.format.specs.BlockAnswer.{lengths_answer, dna_answer, names_answer, block_answer}
use Rattle.format.specs.BlockAnswer.{block_outcome, validated_block, Buffers, buffers_of}
use Rattle.format.specs.BlockAnswer.{capacity_too_small, decode_answer, decoded, buffers_after}
use Rattle.format.specs.BlockAnswer.{decoded_buffers}
use Rattle.format.specs.FileAnswer.{BlockRefusal, in_first, in_later, blocks_answer, file_answer}
use Rattle.format.specs.FileAnswer.{file_outcome, validated}
use Rattle.format.specs.SpareBits.{SameBases}
use Rattle.format.proofs.SpareBitsIgnored.Records.{ReadInside, walk_inside, size_wrong-same}
use Rattle.format.proofs.SpareBitsIgnored.Records.{record_letters-same, record_counts-same}

-- ---- Divisions

-- Every read of a block's division is inside the reference.
record DividedInside (bases : ℕ) (divided : BlockDivision) : Type 0 where
  reads : All (ReadInside bases) (reads_of bases divided.lengths divided.division)

module _ (bases : ℕ) (one other : List ℕ) (same : SameBases bases one other) where
  read_same : (read : Read) → ReadInside bases read → SameBases read.context.reference_bases one other
  read_same read inside = subst (λ (n : ℕ). SameBases n one other) (sym inside.reference_bases) same

  block_reads_same : (divided : BlockDivision) → DividedInside bases divided
      → block_reads one bases divided ≡ block_reads other bases divided
  unfolding block_reads division_letters
  block_reads_same divided inside =
      map_same (ReadInside bases) _ _
      (λ read h. record_letters-same one other read.context read.piece.stored (read_same read h) h.inside)
      (reads_of bases divided.lengths divided.division) inside.reads

  block_counts_same : (divided : BlockDivision) → DividedInside bases divided
      → block_counts one bases divided ≡ block_counts other bases divided
  unfolding block_counts division_counts
  block_counts_same divided inside =
      ap sum_counts
      (map_same (ReadInside bases) _ _
      (λ read h. record_counts-same one other read.context read.piece.stored (read_same read h) h.inside)
      (reads_of bases divided.lengths divided.division) inside.reads)

-- ---- A block

dna_answer-inside : (bases : ℕ) (reference input : List ℕ) {divided : BlockDivision} {next : ℕ}
    → dna_answer bases reference input ≡ found divided next → DividedInside bases divided
unfolding dna_answer
dna_answer-inside bases reference input e =
    let n_section : List ℕ = section_of input n_number in
    let dna : List ℕ = section_of input dna_number in
    and_then-parts (refused_as (λ n. of_read 0 9) (lengths_answer input)) _ (checked-found (of_read 0) _ _ e).1 (λ lengths end e₁ e₂.
    and_then-parts (section_walk bases lengths n_section dna) _ (checked-found (of_read 0) (length_faults input lengths) _ e₂).1
    (λ division last e₃ e₄.
    subst (λ (d : BlockDivision). DividedInside bases d) (found-same (checked-found (of_read 0) _ _ e₄).1).0
    (record { reads = walk_inside bases lengths n_section dna e₃ })))

block_answer-inside : (bases : ℕ) (reference input : List ℕ) {divided : BlockDivision} {next : ℕ}
    → block_answer bases reference input ≡ found divided next → DividedInside bases divided
unfolding block_answer
block_answer-inside bases reference input e =
    and_then-parts (dna_answer bases reference input) _ e (λ divided next e₁ e₂.
    and_then-parts (refused_as (λ n. of_read 0 40) (names_answer input)) _ e₂ (λ names end e₃ e₄.
    subst (λ (d : BlockDivision). DividedInside bases d) (found-same e₄).0
    (record { reads = (dna_answer-inside bases reference input e₁).reads })))

module _ (bases : ℕ) (one other : List ℕ) (sizes : length one ≡ length other)
    (same : SameBases bases one other) where
  block_answer_same : (input : List ℕ) → block_answer bases one input ≡ block_answer bases other input
  unfolding block_answer dna_answer
  block_answer_same input = rw (size_wrong-same bases one other sizes) refl

  block_outcome_same : (answer : Walk BlockDivision)
      → ((divided : BlockDivision) (next : ℕ) → answer ≡ found divided next → DividedInside bases divided)
      → block_outcome one bases answer ≡ block_outcome other bases answer
  unfolding block_outcome
  block_outcome_same (found divided next) inside =
      ap (accepted_block next) (block_counts_same bases one other same divided (inside divided next refl))
  block_outcome_same (refused why) inside = refl

  pub validated_block_same : (input : List ℕ) → validated_block bases one input ≡ validated_block bases other input
  unfolding validated_block
  validated_block_same input =
      ap (block_outcome one bases) (block_answer_same input)
      ∙ block_outcome_same (block_answer bases other input) (λ divided next e. block_answer-inside bases other input e)

  -- ---- Decoding

  decode_answer_inside : (input : List ℕ) (buffers : Buffers) {divided : BlockDivision} {next : ℕ}
      → decode_answer bases other input buffers ≡ found divided next → DividedInside bases divided
  unfolding decode_answer
  decode_answer_inside input buffers e =
      and_then-parts (block_answer bases other input) _ e (λ divided next e₁ e₂.
      subst (λ (d : BlockDivision). DividedInside bases d) (found-same (checked-found (of_read 0) _ _ e₂).1).0
      (block_answer-inside bases other input e₁))

  decode_answer_same : (input : List ℕ) (buffers : Buffers)
      → decode_answer bases one input buffers ≡ decode_answer bases other input buffers
  unfolding decode_answer capacity_too_small
  decode_answer_same input buffers =
      let room : (reads : List (List ℕ)) (divided : BlockDivision) (next : ℕ) → Walk BlockDivision =
      λ reads divided next.
      checked (refused_at 0)
      (fault 22
      (ltb (length buffers.letters) (length (flatten reads))
      || (ltb (length buffers.ends) (length divided.lengths)
      || (ltb (length buffers.names) (length (flatten divided.names))
      || ltb (length buffers.name_ends) (length divided.names)))) ∷ [])
      (found divided next) in
      ap (λ (answer : Walk BlockDivision). and_then answer (λ divided next. room (block_reads one bases divided) divided next))
      (block_answer_same input)
      ∙ and_then-same (block_answer bases other input) _ _ (λ divided next e.
      ap (λ (reads : List (List ℕ)). room reads divided next)
      (block_reads_same bases one other same divided (block_answer-inside bases other input e)))

  pub decoded_same : (input : List ℕ) (buffers : Buffers)
      → decoded bases one input buffers ≡ decoded bases other input buffers
  unfolding decoded
  decoded_same input buffers =
      ap (block_outcome one bases) (decode_answer_same input buffers)
      ∙ block_outcome_same (decode_answer bases other input buffers) (λ divided next e. decode_answer_inside input buffers e)

  buffers_after_same : (buffers : Buffers) (answer : Walk BlockDivision)
      → ((divided : BlockDivision) (next : ℕ) → answer ≡ found divided next → DividedInside bases divided)
      → buffers_after one bases answer buffers ≡ buffers_after other bases answer buffers
  unfolding buffers_after
  buffers_after_same buffers (found divided next) inside =
      ap (λ (reads : List (List ℕ)).
      buffers_of (pasted buffers.letters 0 (flatten reads)) (pasted buffers.ends 0 (read_ends divided.lengths))
      (pasted buffers.names 0 (flatten divided.names))
      (pasted buffers.name_ends 0 (places_from 0 (map length divided.names))))
      (block_reads_same bases one other same divided (inside divided next refl))
  buffers_after_same buffers (refused why) inside = refl

  pub decoded_buffers_same : (input : List ℕ) (buffers : Buffers)
      → decoded_buffers bases one input buffers ≡ decoded_buffers bases other input buffers
  unfolding decoded_buffers
  decoded_buffers_same input buffers =
      ap (λ (answer : Walk BlockDivision). buffers_after one bases answer buffers) (decode_answer_same input buffers)
      ∙ buffers_after_same buffers (decode_answer bases other input buffers)
      (λ divided next e. decode_answer_inside input buffers e)

  -- ---- A file

  blocks_answer_same : (most : ℕ) (file : List ℕ) → blocks_answer most bases one file ≡ blocks_answer most bases other file
  unfolding blocks_answer
  blocks_answer_same zero [] = refl
  blocks_answer_same (suc most) [] = refl
  blocks_answer_same zero (byte ∷ bytes) = refl
  blocks_answer_same (suc most) (byte ∷ bytes) =
      let file : List ℕ = byte ∷ bytes in
      let ih : (rest : List ℕ) → blocks_answer most bases one rest ≡ blocks_answer most bases other rest
      = λ rest. blocks_answer_same most rest in
      let on : (answer : Answer BlockRefusal (List BlockDivision)) (divided : BlockDivision) (next : ℕ)
      → Answer BlockRefusal (List BlockDivision)
      = λ answer divided next. and_then (refused_as in_later answer) (λ more end. found (divided ∷ more) (next + end)) in
      ap (λ (answer : Walk BlockDivision).
      and_then (refused_as in_first answer) (λ divided next. on (blocks_answer most bases one (drop next file)) divided next))
      (block_answer_same file)
      ∙ and_then-same (refused_as in_first (block_answer bases other file)) _ _ (λ divided next e.
      ap (λ (answer : Answer BlockRefusal (List BlockDivision)). on answer divided next) (ih (drop next file)))

  blocks_answer_inside : (most : ℕ) (file : List ℕ) {ds : List BlockDivision} {end : ℕ}
      → blocks_answer most bases other file ≡ found ds end → All (DividedInside bases) ds
  unfolding blocks_answer
  blocks_answer_inside zero [] {ds} e = subst (λ (x : List BlockDivision). All (DividedInside bases) x) (found-same e).0 tt
  blocks_answer_inside (suc most) [] {ds} e = subst (λ (x : List BlockDivision). All (DividedInside bases) x) (found-same e).0 tt
  blocks_answer_inside zero (byte ∷ bytes) e = absurd-found e
  blocks_answer_inside (suc most) (byte ∷ bytes) e =
      let file : List ℕ = byte ∷ bytes in
      let ih : (rest : List ℕ) (ds : List BlockDivision) (end : ℕ) → blocks_answer most bases other rest ≡ found ds end
      → All (DividedInside bases) ds
      = λ rest ds end. blocks_answer_inside most rest in
      and_then-parts (refused_as in_first (block_answer bases other file)) _ e (λ divided next e₁ e₂.
      and_then-parts (refused_as in_later (blocks_answer most bases other (drop next file))) _ e₂ (λ more end e₃ e₄.
      subst (λ (x : List BlockDivision). All (DividedInside bases) x) (found-same e₄).0 (
        block_answer-inside bases other file (found-refused_as in_first (block_answer bases other file) e₁),
        ih (drop next file) more end (found-refused_as in_later (blocks_answer most bases other (drop next file)) e₃),
      )))

  file_outcome_same : (answer : Answer BlockRefusal (List BlockDivision))
      → ((ds : List BlockDivision) (end : ℕ) → answer ≡ found ds end → All (DividedInside bases) ds)
      → file_outcome one bases answer ≡ file_outcome other bases answer
  unfolding file_outcome file_counts
  file_outcome_same (found ds end) inside =
      ap (λ (counts : List Counted). accepted_file (length ds) (modulo64 (sum_counts counts)))
      (map_same (DividedInside bases) (block_counts one bases) (block_counts other bases) (block_counts_same bases one other same) ds
      (inside ds end refl))
  file_outcome_same (refused why) inside = refl

  file_answer_same : (file : List ℕ) → file_answer bases one file ≡ file_answer bases other file
  unfolding file_answer
  file_answer_same file = rw (size_wrong-same bases one other sizes, blocks_answer_same (length file) file) refl

  pub validated_same : (file : List ℕ) → validated bases one file ≡ validated bases other file
  unfolding validated file_answer
  validated_same file =
      ap (file_outcome one bases) (file_answer_same file)
      ∙ file_outcome_same (file_answer bases other file) (λ ds end e.
      cond-parts (reference_size_wrong bases other) _ _ e (λ t g. absurd-found g)
      (λ t g. blocks_answer_inside (length file) file g))

-- The reads and names of a file are, block after block, those that decoding gives each block. Assumes nothing.
use mathlib.Core.Path.{◌≡◌, refl, sym, ap, ap₂, ◌∙◌}
use Prim.Native.Nat.{ℕ}
use native.Mathlib.Omega.{arith}
use mathlib.Core.List.{List, [], ◌∷◌, ◌++◌, map, flat_map}
use lib.ListN.{length, length-map}
use Rattle.base.specs.Lists.{places_from}
use Rattle.base.specs.Paste.{pasted}
use Rattle.base.proofs.ListLaws.{length-build}
use Rattle.dna.specs.Reference.{ReferenceFits}
use Rattle.dna.specs.Letters.{record_letters}
use Rattle.dna.specs.Division.{Read, reads_of, division_letters, read_ends}
use Rattle.dna.proofs.ReadLengths.{reads-lengths}
use Rattle.format.specs.Sections.{n_number, section_of}
use Rattle.format.specs.WellFormed.{BlockDivision, DividesBlock, WellFormed}
use Rattle.format.specs.Joined.{AllWellFormed, DivideBlocks, block_reads, file_reads}
use Rattle.format.specs.Joined.{file_names}
use Rattle.format.specs.Outcome.{Outcome}
use Rattle.format.specs.BlockAnswer.{decoded_buffers}
use Rattle.format.specs.Demands.{Decodes, Given, DecodesTo, DecodeTo}
use Rattle.format.proofs.ReadsExactly.Answers.{decodes}

-- Each read of a division has as many letters as its length says.
letters-lengths : (reference : List ℕ) (reads : List Read)
    → map length (map (λ read. record_letters reference read.context read.piece.stored) reads)
    ≡ map (λ read. read.context.read_length) reads
unfolding record_letters
letters-lengths reference [] = refl
letters-lengths reference (read ∷ reads) =
    ap₂ ◌∷◌ (length-build read.context.read_length _) (letters-lengths reference reads)

reads-long : (bases : ℕ) (reference block : List ℕ) (divided : BlockDivision) → DividesBlock bases block divided
    → map length (block_reads reference bases divided) ≡ divided.lengths
unfolding block_reads division_letters
reads-long bases reference block divided d =
    letters-lengths reference (reads_of bases divided.lengths divided.division)
    ∙ reads-lengths bases divided.lengths (section_of block n_number) divided.division d.divides.groups

-- What decoding gives by a division.
abbrev given_by : (reference : List ℕ) (bases : ℕ) (divided : BlockDivision) → Given
given_by reference bases divided = record { reads = block_reads reference bases divided; names = divided.names }

block_decodes : (bases : ℕ) (reference block : List ℕ) (divided : BlockDivision) → ReferenceFits bases reference
    → WellFormed bases block → DividesBlock bases block divided → DecodesTo bases reference block (given_by reference bases divided)
unfolding read_ends
block_decodes bases reference block divided fits wf d rest buffers room =
    let long : map length (block_reads reference bases divided) ≡ divided.lengths = reads-long bases reference block divided d in
    let many : length (block_reads reference bases divided) ≡ length divided.lengths =
    sym (length-map (block_reads reference bases divided) length) ∙ ap length long in
    let g : Decodes bases reference block (block ++ rest) buffers divided =
    decodes bases reference block rest buffers divided fits wf d
    (record { letters = room.letters; ends = omega (arith, room.ends); names = room.name-bytes; name_ends = room.name_ends }) in
    let ends : (decoded_buffers bases reference (block ++ rest) buffers).ends
    ≡ pasted buffers.ends 0 (places_from 0 (map length (block_reads reference bases divided)))
    = g.ends_are ∙ ap (λ (l : List ℕ). pasted buffers.ends 0 (places_from 0 l)) (sym long) in (
      ap (λ (o : Outcome). o.number) g.outcome,
      λ i. record { letters = g.letters_are i; ends = ends i; names = g.names-are i; name_ends = g.name_ends_are i },
    )

pub file-reads : (bases : ℕ) (reference : List ℕ) → ReferenceFits bases reference → (blocks : List (List ℕ)) (ds : List BlockDivision)
    → AllWellFormed bases blocks → DivideBlocks bases blocks ds
    → (lists : List Given) × DecodeTo bases reference blocks lists
    × (file_reads reference bases ds ≡ flat_map (λ given. given.reads) lists)
    × (file_names ds ≡ flat_map (λ given. given.names) lists)
unfolding file_reads file_names flat_map
file-reads bases reference fits [] [] wfs d = ([], tt, refl, refl)
file-reads bases reference fits [] (x ∷ ds) wfs d = absurd d
file-reads bases reference fits (block ∷ blocks) [] wfs d = absurd d
file-reads bases reference fits (block ∷ blocks) (x ∷ ds) wfs d =
    let more = file-reads bases reference fits blocks ds wfs.1 d.1 in (
      given_by reference bases x ∷ more.0,
      (block_decodes bases reference block x fits wfs.0 d.0, more.1),
      ap (λ (rest : List (List ℕ)). block_reads reference bases x ++ rest) more.2,
      ap (λ (rest : List (List ℕ)). x.names ++ rest) more.3,
    )

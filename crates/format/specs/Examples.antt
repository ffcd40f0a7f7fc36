-- Worked examples over the answers (level 2), for what no theorem would catch: 01's listing block
-- of 132 bytes, files of two blocks, reads at the top, and lists of reads as the fixed rule writes
-- them. The proof, by computation, is proofs/ExamplesHold.antt.
use Rattle.std.specs.Prelude.{ℕ, suc, ◌+◌, ◌%◌, ◌≡◌, Bool, true, false, cond, ◌||◌, List, [], ◌∷◌, ◌++◌, map, take, replicate, ltb, eqb}
use Rattle.base.specs.Lists.{build}
use Rattle.dna.specs.Reference.{code_n}
use Rattle.dna.specs.Record.{RecordFields, perfect, global, local, raw}
use Rattle.dna.specs.Division.{division_counts}
use Rattle.dna.specs.TopExample.{forty_bases, top_n_section, top_section}
use Rattle.dna.specs.Sums.{A, C, G, T, N, reference, packed, entry, one_read}
use Rattle.format.specs.WellFormed.{BlockDivision, WellFormed}
use Rattle.format.specs.Joined.{file_reads}
use Rattle.format.specs.EncodeAnswer.{EncodeInput, block_of}
use Rattle.format.specs.Outcome.{accepted_file}
use Rattle.format.specs.BlockAnswer.{Buffers, buffers_of, validated_block, decoded}
use Rattle.format.specs.BlockAnswer.{decoded_buffers, id_answer}
use Rattle.format.specs.FileAnswer.{validated}
use Rattle.format.specs.RuleEntries.{filler_count}
use Rattle.format.specs.RuleRecord.{Candidate, step_fits}
use Rattle.format.specs.RuleBlock.{written_from, written_division}

-- ---- Blocks and files

-- The fifth starred row: 00 80 00 00, 0C 00 00 00 00 0B.
unfoldable pub fifth_row : List ℕ
fifth_row =
    0x00 ∷ 0x80 ∷ 0x00 ∷ 0x00 ∷ 0x0c ∷ 0x00 ∷ 0x00 ∷ 0x00 ∷ 0x00 ∷ 0x0b ∷ []

-- One block, version 20505, flags 1 and an N section of one byte, with these numbers, each below
-- 256: the bytes of its DNA section, l_read, n_reads, b_id and raw DNA size; and its sections.
unfoldable pub block_with : (dna_size read_length reads id raw_size : ℕ) (sections : List ℕ) → List ℕ
block_with dna_size read_length reads id raw_size sections =
    0x49 ∷ 0x7c ∷ 121 ∷ 0 ∷ 0 ∷ 0 ∷ dna_size ∷ 0 ∷ 0 ∷ 0 ∷ (replicate 16 0
    ++ (1 ∷ 0 ∷ 0 ∷ 0 ∷ (replicate 12 0
    ++ (1 ∷ 0 ∷ 0 ∷ 0 ∷ read_length ∷ 0 ∷ 0 ∷ 0 ∷ reads ∷ 0 ∷ 0 ∷ 0 ∷ 0x19 ∷ 0x50
    ∷ id ∷ (replicate 16 0 ++ (raw_size ∷ (replicate 47 0 ++ sections)))))))

-- 01's listing block (Sums done by hand): b_id 7, l_read 4, raw DNA size 4, the fifth starred row,
-- the N section 00; and the same with a byte too many in its DNA section.
unfoldable pub listing_block : List ℕ
listing_block = block_with 10 4 1 7 4 (fifth_row ++ (0 ∷ []))

unfoldable pub left_over_block : List ℕ
left_over_block = block_with 11 4 1 7 4 (fifth_row ++ (0 ∷ 0 ∷ []))

-- The division of the listing block.
unfoldable pub listing_divided : BlockDivision
listing_divided =
    record {
      lengths = 4 ∷ [];
      division =
          one_read fifth_row (record { fields = global 0 (entry 2 3 ∷ []); n_offsets = [] });
      names = [];
    }

-- Room for 6 letters, 2 ends, 2 bytes of names and 1 end of a name.
unfoldable pub small_buffers : Buffers
small_buffers = buffers_of (replicate 6 9) (replicate 2 9) (replicate 2 9) (replicate 1 9)

-- It is well-formed, and decodes to ACTT, 1 entry, 1 difference; the buffers keep what lies past
-- letters and ends, and those of names all, since its names stay unread. A file of it has one
-- block, and one of it twice has two, with the sums and the reads of both. With a DNA byte left
-- over the answer is 21, also without room.
pub record ListingRight : Type 0 where
  pub well-formed : WellFormed 12 listing_block
  pub id : id_answer listing_block ≡ 7
  pub outcome : decoded 12 reference listing_block small_buffers
      ≡ record {
        number = 0;
        block = 0;
        read = 0;
        blocks = 0;
        bytes = 132;
        counts = record { reads = 1; letters = 4; entries = 1; differences = 1; top = 0 };
      }
  pub buffers : decoded_buffers 12 reference listing_block small_buffers
      ≡ buffers_of (A ∷ C ∷ T ∷ T ∷ 9 ∷ 9 ∷ []) (4 ∷ 9 ∷ []) (9 ∷ 9 ∷ []) (9 ∷ [])
  pub one_block : validated 12 reference listing_block
      ≡ accepted_file 1 (record { reads = 1; letters = 4; entries = 1; differences = 1; top = 0 })
  pub two_blocks : validated 12 reference (listing_block ++ listing_block)
      ≡ record {
        number = 0;
        block = 0;
        read = 0;
        blocks = 2;
        bytes = 0;
        counts = record { reads = 2; letters = 8; entries = 2; differences = 2; top = 0 };
      }
  pub file-reads : file_reads reference 12 (listing_divided ∷ listing_divided ∷ [])
      ≡ (A ∷ C ∷ T ∷ T ∷ []) ∷ (A ∷ C ∷ T ∷ T ∷ []) ∷ []
  pub left_over : decoded 12 reference left_over_block (buffers_of [] [] [] [])
      ≡ record {
        number = 21;
        block = 0;
        read = 0;
        blocks = 0;
        bytes = 0;
        counts = record { reads = 0; letters = 0; entries = 0; differences = 0; top = 0 };
      }

-- 02, Ticket 4: the three reads of TopExample in a block with b_id 5.
unfoldable pub top_block : List ℕ
top_block = block_with 89 40 3 5 120 (top_section ++ top_n_section)

-- Alone it has one read at the top, twice in a file two. Where its last byte is missing the second
-- time the file is refused, and every count is 0.
pub record TopBlockRight : Type 0 where
  pub alone : validated_block 40 forty_bases top_block
      ≡ record {
        number = 0;
        block = 0;
        read = 0;
        blocks = 0;
        bytes = 211;
        counts = record { reads = 3; letters = 120; entries = 61; differences = 57; top = 1 };
      }
  pub twice : validated 40 forty_bases (top_block ++ top_block)
      ≡ record {
        number = 0;
        block = 0;
        read = 0;
        blocks = 2;
        bytes = 0;
        counts = record { reads = 6; letters = 240; entries = 122; differences = 114; top = 2 };
      }
  pub refused : validated 40 forty_bases (top_block ++ take 210 top_block)
      ≡ record {
        number = 8;
        block = 1;
        read = 0;
        blocks = 0;
        bytes = 0;
        counts = record { reads = 0; letters = 0; entries = 0; differences = 0; top = 0 };
      }

-- ---- The fixed rule

-- A reference of 68 bases, ACGT again and again.
unfoldable pub long_reference : List ℕ
long_reference = replicate 17 0x1b

-- CGTA again and again: it differs from the reference everywhere.
unfoldable pub shifted : (count : ℕ) → List ℕ
shifted count = build count (λ k. suc k % 4)

-- 160 bases of the same, and a read of 155 letters that differs from them in letters 0 to 27 and
-- in 154, with an N on letter 90.
unfoldable pub wide_reference : List ℕ
wide_reference = replicate 40 0x1b

unfoldable pub full_read : List ℕ
full_read =
    build 155 (λ k. cond (eqb k 90) code_n (cond (ltb k 28 || eqb k 154) (suc k % 4) (k % 4)))

-- The reverse complement of the reference's first 65 bases, but for its last letter.
unfoldable pub turned_read : List ℕ
turned_read = build 64 (λ k. (3 + k) % 4) ++ (0 ∷ [])

unfoldable pub place_at : (position strand : ℕ) → Candidate
place_at position strand =
    record { position = position; strand = strand; left = 0; right = 0 }

-- The same with a letter clipped at each end.
unfoldable pub clipped_at : (position strand : ℕ) → Candidate
clipped_at position strand =
    record { position = position; strand = strand; left = 1; right = 1 }

-- A local record without entries whose ends are T and A.
unfoldable pub ends_ta : (field : ℕ) → RecordFields
ends_ta field = local field [] 1 1 (packed (3 ∷ 0 ∷ []) (0 ∷ 0 ∷ []))

-- Seven reads: CAAC reverse at 6; GTACGA with ends 2 and 1 at 0; NC without a place; TGCA at 8, up
-- to the last base; CAC with ends 1 and 1, at 11; A at 11, a step of 0; C at 0, where the
-- reference has A. Their names are r1 to r7.
unfoldable pub seven_reads : EncodeInput
seven_reads =
    record {
      letters =
          C ∷ A ∷ A ∷ C ∷ G ∷ T ∷ A ∷ C ∷ G ∷ A ∷ N ∷ C ∷ T ∷ G ∷ C ∷ A ∷ C ∷ A ∷ C ∷ A ∷ C ∷ [];
      ends = 4 ∷ 10 ∷ 12 ∷ 16 ∷ 19 ∷ 20 ∷ 21 ∷ [];
      names = 114 ∷ 49 ∷ 114 ∷ 50 ∷ 114 ∷ 51 ∷ 114 ∷ 52 ∷ 114 ∷ 53 ∷ 114 ∷ 54 ∷ 114 ∷ 55 ∷ [];
      name_ends = 2 ∷ 4 ∷ 6 ∷ 8 ∷ 10 ∷ 12 ∷ 14 ∷ [];
      positions = 6 ∷ 0 ∷ 0 ∷ 8 ∷ 11 ∷ 11 ∷ 0 ∷ [];
      strands = 2 ∷ 1 ∷ 0 ∷ 1 ∷ 1 ∷ 1 ∷ 1 ∷ [];
      lefts = 0 ∷ 2 ∷ 0 ∷ 0 ∷ 1 ∷ 0 ∷ 0 ∷ [];
      rights = 0 ∷ 1 ∷ 0 ∷ 0 ∷ 1 ∷ 0 ∷ 0 ∷ [];
      id = 258;
      time = 5;
    }

-- Their block: the header; the group bytes and the seven records; the names, of two columns, one of
-- strings and one that rises from 1 by steps of 8 bits; the sizes; the N section.
unfoldable pub seven_block : List ℕ
seven_block =
    0x49 ∷ 0x7c ∷ 121 ∷ 0 ∷ 0 ∷ 0 ∷ 35 ∷ 0 ∷ 0 ∷ 0 ∷ 50 ∷ 0 ∷ 0 ∷ 0 ∷ (replicate 8 0
    ++ (8 ∷ 0 ∷ 0 ∷ 0 ∷ 1 ∷ 0 ∷ 0 ∷ 0 ∷ (replicate 12 0
    ++ (8 ∷ 0 ∷ 0 ∷ 0 ∷ 0 ∷ 0 ∷ 0 ∷ 0 ∷ 7 ∷ 0 ∷ 0 ∷ 0 ∷ 0x19 ∷ 0x50
    ∷ 2 ∷ 1 ∷ 0 ∷ 0 ∷ 0 ∷ 0 ∷ 0 ∷ 0 ∷ 40 ∷ 0 ∷ 0 ∷ 0 ∷ 0 ∷ 0 ∷ 0 ∷ 0 ∷ 0
    ∷ 21 ∷ 0 ∷ 0 ∷ 0 ∷ (replicate 12 0
    ++ (5 ∷ (replicate 31 0
    ++ (0x94 ∷ 0x5e ∷ 0x20 ∷ 0x9c
    ∷ 0x06 ∷ 0x00
    ∷ 0x00 ∷ 0x00 ∷ 0x00 ∷ 0x00 ∷ 0x00 ∷ 0x02 ∷ 0x01 ∷ 0xb0
    ∷ 0x02 ∷ 0x10 ∷ 0x01 ∷ 0x00 ∷ 0x00
    ∷ 0x08 ∷ 0x00
    ∷ 0x00 ∷ 0x03 ∷ 0x00 ∷ 0x01 ∷ 0x01 ∷ 0x50
    ∷ 0x00 ∷ 0x00
    ∷ 0x0c ∷ 0x00 ∷ 0x00 ∷ 0x00 ∷ 0x00 ∷ 0x01
    ∷ 0x02 ∷ 0x00 ∷ 0x00 ∷ 0x00 ∷ 0x00 ∷ 0x04
    ∷ 14 ∷ 0 ∷ 0 ∷ 0 ∷ 0 ∷ 0 ∷ 0 ∷ 0 ∷ 14 ∷ 0 ∷ 0 ∷ 0 ∷ 0 ∷ 0 ∷ 0 ∷ 0
    ∷ 114 ∷ 0 ∷ 114 ∷ 0 ∷ 114 ∷ 0 ∷ 114 ∷ 0 ∷ 114 ∷ 0 ∷ 114 ∷ 0 ∷ 114 ∷ 0
    ∷ 1 ∷ 0 ∷ 0 ∷ 0 ∷ 0 ∷ 0 ∷ 0 ∷ 0 ∷ 1 ∷ 1 ∷ 1 ∷ 1 ∷ 1 ∷ 1
    ∷ 0x02 ∷ 0xfc ∷ 0x04 ∷ 0x06 ∷ 0x02 ∷ 0x04 ∷ 0x03 ∷ 0x01
    ∷ 0x20 ∷ []))))))))

pub record RuleRight : Type 0 where
  -- 31 entries are written as a global record, 32 go raw; and a filler of a reverse read carries
  -- what the reference gives there on that strand.
  pub entries : map (λ w. w.stored)
      (written_from 68 long_reference 0 (shifted 31 ∷ shifted 32 ∷ turned_read ∷ [])
      (place_at 0 1 ∷ place_at 0 1 ∷ place_at 0 2 ∷ []))
      ≡ record {
        fields = global 0 (entry 0 1 ∷ build 30 (λ k. entry 1 ((2 + k) % 4)));
        n_offsets = [];
      }
      ∷ record { fields = raw (packed (shifted 32) []); n_offsets = [] }
      ∷ record { fields = global 0 (entry 63 2 ∷ entry 1 0 ∷ []); n_offsets = [] }
      ∷ []
  -- pos_t and fields where ends are clipped on the reverse strand, each time of 3 aligned letters:
  -- TCGTA at 0; CG at 1; TG at 8; TCAAA at 7; TAACA at 6; TTGCA at 9; A at 11. The positions are 2,
  -- 1, 8, 9, 8, 11 and 11: those of the clipped reads are where their stretches end.
  pub reverse_clipped : ◌≡◌ {A = List (Bool × RecordFields)}
      (map (λ w. (w.context.incremental, w.stored.fields))
      (written_from 12 reference 0
      ((3 ∷ 1 ∷ 2 ∷ 3 ∷ 0 ∷ []) ∷ (1 ∷ 2 ∷ []) ∷ (3 ∷ 2 ∷ []) ∷ (3 ∷ 1 ∷ 0 ∷ 0 ∷ 0 ∷ [])
      ∷ (3 ∷ 0 ∷ 0 ∷ 1 ∷ 0 ∷ []) ∷ (3 ∷ 3 ∷ 2 ∷ 1 ∷ 0 ∷ []) ∷ (0 ∷ []) ∷ [])
      (clipped_at 0 2 ∷ place_at 1 1 ∷ place_at 8 1 ∷ clipped_at 7 2 ∷ clipped_at 6 2 ∷ clipped_at 9 2
      ∷ place_at 11 1 ∷ [])))
      ((true, ends_ta 2) ∷ (false, perfect 1) ∷ (true, perfect 7) ∷ (true, ends_ta 1)
      ∷ (false, ends_ta 8) ∷ (true, ends_ta 3) ∷ (true, perfect 0) ∷ [])
  -- Reads of several kinds, byte for byte.
  pub block : block_of 12 reference seven_reads ≡ seven_block
  -- Fillers by the gap: none up to 63, one up to 126; 30 at 1953, with the difference the 31
  -- entries that a record can have; 31 at 1954.
  pub fillers : map filler_count (0 ∷ 1 ∷ 63 ∷ 64 ∷ 126 ∷ 127 ∷ 1953 ∷ 1954 ∷ [])
      ≡ 0 ∷ 0 ∷ 0 ∷ 1 ∷ 1 ∷ 2 ∷ 30 ∷ 31 ∷ []
  -- 02, Ticket 4: the record of `full_read` has 29 differences and, on letters 90, under the N, and
  -- 153, two fillers. Of it, a read that differs in all its 30 letters, and one that differs in all
  -- its 40 and goes raw, one read is at the top.
  pub full : map (λ w. w.stored)
      (written_from 160 wide_reference 0 (full_read ∷ []) (place_at 0 1 ∷ []))
      ≡ record {
        fields =
            global 0
            (entry 0 1 ∷ (build 27 (λ k. entry 1 ((2 + k) % 4))
            ++ (entry 63 2 ∷ entry 63 1 ∷ entry 1 3 ∷ [])));
        n_offsets = 90 ∷ [];
      }
      ∷ []
  pub top : division_counts wide_reference 160 (155 ∷ 30 ∷ 40 ∷ [])
      (written_division 160 wide_reference (full_read ∷ shifted 30 ∷ shifted 40 ∷ [])
      (replicate 3 (place_at 0 1)))
      ≡ record { reads = 3; letters = 225; entries = 61; differences = 59; top = 1 }
  -- Steps up to 65,535.
  pub step_65535 : step_fits 1 65536 ≡ true
  pub step_65536 : step_fits 1 65537 ≡ false

-- 01's example (Sums done by hand: the listing program), and files that are empty or refused. The
-- proof, by computation, is proofs/ExampleHolds.antt.
use Rattle.std.specs.Prelude.{ℕ, ◌≡◌, List, [], ◌∷◌, ◌++◌, replicate}
use Rattle.dna.specs.Sums.{reference}
use Rattle.dna.specs.TopExample.{forty_bases}
use Rattle.format.specs.Examples.{listing_block, top_block}
use Rattle.lines.specs.Text.{text}
use Rattle.lines.specs.Listing.{listing}

-- The reference of the sums as a file: G, which is 12, in 8 bytes, then its bytes.
unfoldable pub sums_file : List ℕ
sums_file = 12 ∷ (replicate 7 0 ++ reference)

-- The reference of TopExample as a file.
unfoldable pub forty_file : List ℕ
forty_file = 40 ∷ (replicate 7 0 ++ forty_bases)

-- It prints whole. An empty file of blocks has none; what is left of a block after one is refused,
-- and the block before it stays printed; 7 bytes are no reference file. Of a block with one read at
-- the top (02, Ticket 4) the line says so.
pub record ExampleRight : Type 0 where
  pub whole : listing sums_file listing_block
      ≡ text "block 7 reads 1 letters 4 entries 1 differences 1 top 0\nACTT\nend blocks 1\n"
  pub empty : listing sums_file [] ≡ text "end blocks 0\n"
  pub left : listing sums_file (listing_block ++ (0x49 ∷ []))
      ≡ text "block 7 reads 1 letters 4 entries 1 differences 1 top 0\nACTT\nrefused 2 1 0\n"
  pub short : listing (replicate 7 0) [] ≡ text "refused 1 0 0\n"
  pub top : listing forty_file top_block
      ≡ text "block 5 reads 3 letters 120 entries 61 differences 57 top 1\n"
      ++ text "CGTACNTTCGTACGTTCGTACGTTCGTACGTTACGTACGT\n"
      ++ text "CGTACGTACGTACGTACGTACGTACGTACGGTACGTACGT\n"
      ++ text "CGTACGTACGTACGTACGTACGTACGTACGTACGTACGTA\n"
      ++ text "end blocks 1\n"

-- `blocks::walk_unwritten` meets its contract. Assumes nothing.
use mathlib.Core.Path.{sym}
use Rattle.base.proofs.Tests.{absurd_test}
use Rattle.blocks.proofs.walk_unwritten.Goals as goal

pub walk_block-requires : goal.walk_block-requires
walk_block-requires c =
    record {
      block_ready = c.requires;
      tables_made = λ yes'. absurd_test (sym yes');
    }

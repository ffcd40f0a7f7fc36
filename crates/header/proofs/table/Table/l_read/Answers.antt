-- `header::table::Table::l_read` meets its contract: the field at its offset. Assumes nothing.
use mir.Syntax.{w32}
use mir.ValLaws.{to_z-of_z}
use Rattle.format.specs.Header.{header_of}
use Rattle.header.proofs.table.Table.l_read.Goals as goal

pub returns : goal.returns
unfolding header_of
returns c =
    rw (to_z-of_z w32 c.i32_at.result (record { sfits = c.i32_at.type_inv })) c.i32_at.ensures

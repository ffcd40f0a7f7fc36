-- `reads::visit::visit_read` meets its contract. Assumes nothing.
use mathlib.Core.Path.{refl}
use Rattle.reads.proofs.visit.visit_read.Goals as goal

pub write_read-requires : goal.write_read-requires
write_read-requires c =
    let write = c.requires.tables_made c.if-write.true in
    (c.requires.printable, write.0, write.1)

pub returns-then-write : goal.returns-then-write
returns-then-write c =
    let yes = c.if-write.true in
    let done = c.write_read.ensures in
    rw yes (done.0, done.1, done.2)

pub returns : goal.returns
returns c =
    rw c.if-write.false (c.count_read.ensures, refl, refl)

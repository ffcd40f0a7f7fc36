use native.Mathlib.Numerals.{add-one}
use mathlib.Core.Path.{◌≡◌}
use native.Mathlib.Omega.{arith}
use borrow.Author.Rules.{rules}
use Rattle.base.proofs.SumLaws.{total-take-suc}
use Rattle.base.specs.Lists.{total}
use Rattle.format.specs.Header.{header_of}
use Rattle.format.specs.Sections.{section_lengths, section_length}
use Rattle.header.proofs.table.Table.lengths_before.Goals as goal

pub loop-k-init : goal.loop-k-init
unfolding total
loop-k-init c =
    search rules

pub loop-k-preserved : goal.loop-k-preserved
unfolding section_length
loop-k-preserved c =
    let l = c.loop-k in
    let header = header_of c.args.self.input.now in
    let size : c.section_length-sum.result ≡ section_length header l.k = c.section_length-sum.ensures.0 in
    let e = total-take-suc (section_lengths header) l.k in
    (rw add-one (omega arith), omega arith)

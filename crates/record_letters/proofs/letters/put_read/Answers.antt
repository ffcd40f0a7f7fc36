-- `record_letters::letters::put_read` meets its contract: the three turns. Assumes nothing.
use mathlib.Core.Path.{◌∙◌}
use Prim.Native.Nat.{◌+◌, ◌≤◌}
use native.Mathlib.Omega.{arith}
use lib.ListN.{length}
use Rattle.record_letters.proofs.PrintableLaws.{left_within, left_room, entries_room}
use Rattle.record_letters.proofs.PrintableLaws.{letters_written, differences_counted}
use borrow.Author.Rules.{rules}
use Rattle.record_letters.proofs.letters.put_read.Goals as goal

pub overflow_add-at : goal.overflow_add-at
overflow_add-at c =
    let a = c.args in
    let small : c.left_of.result ≤ a.size =
    left_within a.section.now a.reference.now a.size a.layout a.«record»
    c.left_of.result c.requires.0 c.left_of.ensures in
    let room : a.at + c.left_of.result ≤ length a.out.now = omega (arith, c.requires.1) in
    search rules

pub put_entries-requires : goal.put_entries-requires
put_entries-requires c =
    let a = c.args in (
      c.requires.0.laid.lists.entries_inside,
      omega (arith, c.requires.0.laid.lists.entry_count),
      left_room a.section.now a.reference.now a.size a.«record» a.layout
          c.requires.0 a.out.now a.at c.requires.1 _ _ c.left_of.result
          c.put_plain.ensures c.put_n_list.ensures c.left_of.ensures,
      entries_room a.section.now a.reference.now a.size a.«record» a.layout
          c.requires.0 a.out.now a.at c.requires.1 _ _ c.left_of.result
          c.put_plain.ensures c.put_n_list.ensures c.left_of.ensures,
    )

pub returns : goal.returns
returns c =
    let a = c.args in (
      c.put_entries.ensures.0
          ∙ letters_written a.section.now a.reference.now a.size a.«record»
          a.layout c.requires.0 a.out.now a.at c.requires.1 _ _ c.left_of.result
          c.put_plain.ensures c.put_n_list.ensures c.left_of.ensures,
      c.put_entries.ensures.1
          ∙ differences_counted a.section.now a.reference.now a.size a.«record»
          a.layout c.requires.0 a.out.now a.at c.requires.1 _ _ c.left_of.result
          c.put_plain.ensures c.put_n_list.ensures c.left_of.ensures,
    )

-- `records::nlist::read_n_list` meets its contract. Assumes nothing.
use mathlib.Core.Path.{sym}
use native.Mathlib.Omega.{arith}
use Rattle.dna.specs.Refused.{numbered, refusal_number}
use Rattle.records.proofs.NListLaws.{list_none, list_cut, list_empty, list_long}
use Rattle.records.proofs.NListLaws.{list_counted}
use Rattle.records.proofs.nlist.read_n_list.Goals as goal
use Rattle.records.proofs.nlist.read_n_list.Goals.{then-count-eq0-via-then-count-eq0}
use Rattle.records.proofs.nlist.read_n_list.Goals.{then-count-eq0-via-else-count-eq0+then-count-gt31}

pub returns-then-not-with_n : goal.returns-then-not-with_n
unfolding numbered refusal_number
returns-then-not-with_n c =
    let a = c.args in
    sym (list_none a.section.now a.size a.at a.with_n c.if-not-with_n.true)

pub returns-then-section-at : goal.returns-then-section-at
unfolding numbered refusal_number
returns-then-section-at c =
    let a = c.args in
    sym
    (list_cut a.section.now a.size a.at a.with_n c.if-not-with_n.false
    (omega arith))

pub returns-then-count-eq0 : goal.returns-then-count-eq0
unfolding numbered refusal_number
returns-then-count-eq0 c =
    let a = c.args in
    sym
    (elim c.then-count-eq0.branch [
      | then-count-eq0-via-then-count-eq0 w ↦
          list_empty a.section.now a.size a.at a.with_n
          c.if-not-with_n.false c.from-count.result c.from-count.ensures
          (omega arith) w.if-count-eq0.true
      | then-count-eq0-via-else-count-eq0+then-count-gt31 w ↦
          list_long a.section.now a.size a.at a.with_n
          c.if-not-with_n.false c.from-count.result c.from-count.ensures
          (omega arith) w.if-count-gt31.true
    ])

pub returns : goal.returns
unfolding numbered refusal_number
returns c =
    let a = c.args in
    list_counted a.section.now a.size a.at a.with_n
    c.if-not-with_n.false c.from-count.result c.from-count.ensures
    (omega arith) c.if-count-eq0.false (omega arith) _
    c.read_n_places.ensures

-- `blocks::write_names` meets its contract: names that are read are written, unread ones are none.
-- Assumes nothing.
-- Where the names are stored: what is known of them.
use mathlib.Core.Path.{◌≡◌, refl, sym, ap, ap₂, ◌∙◌}
use Prim.Native.Nat.{ℕ}
use native.Mathlib.Omega.{arith}
use mathlib.Core.Bool.{true}
use mathlib.Core.List.{List, flatten, map}
use lib.ListN.{length}
use Rattle.base.specs.Lists.{places_from}
use Rattle.base.specs.Paste.{pasted}
use Rattle.base.proofs.AnswerLaws.{cond_yes}
use Rattle.tokens.specs.NamesAt.{names_read, names_invalid}
use Rattle.format.specs.Header.{header_of, read_count, flag_set, names_flag}
use Rattle.format.specs.Sections.{names_number, section_of}
use Rattle.format.proofs.SectionLaws.{accepted-table, accepted-section, accepted-count}
use Rattle.blocks.specs.Named.{names_found, name_count}
use Rattle.blocks.proofs.NamesLaws.{NamesKnown, names-known, found_stored, none_pasted}
use Rattle.blocks.proofs.write_names.Goals as goal
use Rattle.blocks.proofs.write_names.Goals.{After-read_count}

stored : (c : After-read_count)
    → flag_set (header_of c.args.input.now).flags names_flag ≡ true
stored c =
    sym c.names_stored.ensures ∙ c.if-names_stored.true

reads : (c : After-read_count) → c.read_count.result ≡ read_count (header_of c.args.input.now)
reads c = c.read_count.ensures.0

section-is : (c : After-read_count)
    → c.section.result.now ≡ section_of c.args.input.now names_number
section-is c =
    c.section.ensures.0 ∙ accepted-section _ names_number c.requires.accepted

known : (c : After-read_count) → NamesKnown c.args.input.now c.args.size
known c = names-known _ _ c.requires.judged_as

-- The names of the block are those that are read.
names-are : (c : After-read_count)
    → names_read c.read_count.result c.section.result.now
    ≡ names_found c.args.input.now
names-are c =
    ap₂ (λ (n : ℕ) (s : List ℕ). names_read n s) (reads c) (section-is c)
    ∙ sym (found_stored c.args.input.now (stored c))

count-stored : (c : After-read_count)
    → name_count c.args.input.now ≡ read_count (header_of c.args.input.now)
unfolding name_count
count-stored c = cond_yes 0 (stored c) refl

pub invariant_of-table : goal.invariant_of-table
invariant_of-table c = record { there = accepted-table _ c.requires.accepted }

pub put_names-requires : goal.put_names-requires
put_names-requires c =
    let k = known (goal.at.put_names-requires c).After-read_count in
    record {
      section_value = (
        ap₂ (λ (n : ℕ) (s : List ℕ). names_invalid n s) (reads (goal.at.put_names-requires c).After-read_count) (section-is (goal.at.put_names-requires c).After-read_count)
            ∙ k.valid (stored (goal.at.put_names-requires c).After-read_count),
        omega (arith, reads (goal.at.put_names-requires c).After-read_count, accepted-count _ c.requires.accepted),
      );
      section_in_bounds = (
        omega (
          arith,
          ap (λ (ns : List (List ℕ)). length (flatten ns)) (names-are (goal.at.put_names-requires c).After-read_count),
          k.size,
          c.requires.names_fit,
        ),
        omega (arith, reads (goal.at.put_names-requires c).After-read_count, c.requires.ends_fit, count-stored (goal.at.put_names-requires c).After-read_count),
      );
    }

pub returns-then-names_stored : goal.returns-then-names_stored
returns-then-names_stored c =
    let a = c.args in (
      c.put_names.ensures.0
          ∙ ap (λ (ns : List (List ℕ)). pasted a.names.now 0 (flatten ns)) (names-are (goal.at.returns-then-names_stored c).After-read_count),
      c.put_names.ensures.1
          ∙ ap (λ (ns : List (List ℕ)). pasted a.ends.now 0 (places_from 0 (map length ns))) (names-are (goal.at.returns-then-names_stored c).After-read_count),
    )

pub returns-else-names_stored : goal.returns-else-names_stored
returns-else-names_stored c =
    let a = c.args in
    none_pasted a.input.now (sym c.names_stored.ensures ∙ c.if-names_stored.false) a.names.now
    a.ends.now

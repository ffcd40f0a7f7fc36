-- `names_writer::column::Column::with` meets its contract. Assumes nothing.
use mathlib.Core.Path.{sym, refl, ap, ◌∙◌}
use Rattle.names_writer.specs.Steps.{kind_byte, kind_with}
use Rattle.names_writer.proofs.ValueLaws.{with-none, with-first, with-more}
use Rattle.names_writer.proofs.column.Column.with.Goals as goal

pub returns-in_default : goal.returns-in_default
returns-in_default c =
    let a = c.args in
    let none = sym c.in_default.is ∙ c.number_of.ensures in
    record { kind = with-none (kind_byte a.self.kind) a.self.last a.token.now none; last = none; size = refl }

pub returns-in-None : goal.returns-in-None
returns-in-None c =
    let a = c.args in
    let some = sym c.in-Some.is ∙ c.number_of.ensures in
    record {
      kind =
          with-first (kind_byte a.self.kind) c.in-Some.number a.token.now some
          ∙ ap (λ l. kind_with (kind_byte a.self.kind) l a.token.now) (sym c.in-None.is);
      last = some;
      size = refl;
    }

pub returns-in-Some-last : goal.returns-in-Some-last
returns-in-Some-last c =
    let a = c.args in
    let some = sym c.in-Some.is ∙ c.number_of.ensures in
    record {
      kind =
          c.after-kind.ensures
          ∙ with-more (kind_byte a.self.kind) c.in-Some-last.previous c.in-Some.number a.token.now some
          ∙ ap (λ l. kind_with (kind_byte a.self.kind) l a.token.now) (sym c.in-Some-last.is);
      last = some;
      size = refl;
    }

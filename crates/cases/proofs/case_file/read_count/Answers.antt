-- `cases::case_file::read_count` meets its contract: the tests that led to each `return` say which
-- case of the answer holds. Assumes nothing.
use mathlib.Core.Path.{sym, ◌∙◌}
use borrow.Author.Tests.{lt-ltb, le-ltb, ne_eqb, eq-eqb}
use Rattle.cases.specs.CaseFile.{count_answer}
use Rattle.cases.proofs.case_file.read_count.Goals as goal

pub returns-then-file-lt-FILE_HEADER_LENGTH : goal.returns-then-file-lt-FILE_HEADER_LENGTH
unfolding count_answer
returns-then-file-lt-FILE_HEADER_LENGTH c =
    simp (lt-ltb _ _ c.if-file-lt-FILE_HEADER_LENGTH.true)

pub returns-then-u64_at-ne-FILE_MAGIC : goal.returns-then-u64_at-ne-FILE_MAGIC
unfolding count_answer
returns-then-u64_at-ne-FILE_MAGIC c =
    simp (
      le-ltb _ _ c.if-file-lt-FILE_HEADER_LENGTH.false,
      ne_eqb _ _ (λ e. c.if-u64_at-ne-FILE_MAGIC.true (c.u64_at.ensures ∙ e)),
    )

pub returns : goal.returns
unfolding count_answer
returns c =
    simp (
      le-ltb _ _ c.if-file-lt-FILE_HEADER_LENGTH.false,
      eq-eqb _ _ (sym c.u64_at.ensures ∙ c.if-u64_at-ne-FILE_MAGIC.false),
      c.u32_at.ensures,
    )

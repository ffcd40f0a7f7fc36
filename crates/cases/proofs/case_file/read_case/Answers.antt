-- `cases::case_file::read_case` meets its contract: the tests that led to each `return` say which
-- case of the answer holds. Assumes nothing.
use mathlib.Core.Path.{◌∙◌}
use borrow.Author.Tests.{lt-ltb}
use Rattle.cases.specs.CaseFile.{case_answer}
use Rattle.cases.proofs.CaseLaws.{other_length, parts_missing, case_found}
use Rattle.cases.proofs.case_file.read_case.Goals as goal

pub returns-then-bytes-lt-CASE_HEADER_LENGTH : goal.returns-then-bytes-lt-CASE_HEADER_LENGTH
unfolding case_answer
returns-then-bytes-lt-CASE_HEADER_LENGTH c =
    simp (lt-ltb _ _ c.if-bytes-lt-CASE_HEADER_LENGTH.true)

pub returns-then-size-header : goal.returns-then-size-header
returns-then-size-header c =
    other_length c.args.bytes.now _ c.read_header-header.ensures
    c.if-bytes-lt-CASE_HEADER_LENGTH.false
    (λ e.
    c.if-size-header.true
    (c.case_size-size.ensures ∙ e))

pub returns-then-bytes-size : goal.returns-then-bytes-size
returns-then-bytes-size c =
    parts_missing c.args.bytes.now _ _ c.read_header-header.ensures
    c.if-bytes-lt-CASE_HEADER_LENGTH.false c.case_size-size.ensures
    (c.if-size-header.false) c.if-bytes-size.true

pub returns : goal.returns
returns c =
    case_found c.args.bytes.now _ _ c.read_header-header.ensures
    c.if-bytes-lt-CASE_HEADER_LENGTH.false c.case_size-size.ensures
    (c.if-size-header.false) c.if-bytes-size.false

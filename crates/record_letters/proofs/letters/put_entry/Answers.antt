-- `record_letters::letters::put_entry` meets its contract: an N, the letter that stands, another.
-- Assumes nothing.
use Rattle.record_letters.proofs.TurnLaws.{entered_n, entered_letter, changes_not}
use Rattle.record_letters.proofs.TurnLaws.{changes_one}
use Rattle.record_letters.proofs.letters.put_entry.Goals as goal

pub returns-then-old-eq78 : goal.returns-then-old-eq78
returns-then-old-eq78 c =
    let a = c.args in
    entered_n a.out.now a.place a.code c.if-old-eq78.true

pub returns-then-old-letter : goal.returns-then-old-letter
returns-then-old-letter c =
    let letter = c.letter_of_code-letter in
    let other = c.if-old-eq78.false in
    let a = c.args in (
      entered_letter a.out.now a.place a.code other letter.result letter.ensures
          c.requires.1,
      changes_not a.out.now a.place a.code other letter.result letter.ensures
          c.if-old-letter.true,
    )

pub returns : goal.returns
returns c =
    let letter = c.letter_of_code-letter in
    let other = c.if-old-eq78.false in
    let a = c.args in (
      entered_letter a.out.now a.place a.code other letter.result letter.ensures
          c.requires.1,
      changes_one a.out.now a.place a.code other letter.result letter.ensures
          c.if-old-letter.false,
    )

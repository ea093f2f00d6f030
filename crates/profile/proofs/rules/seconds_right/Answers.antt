-- By whether there is a second gate line: the second pattern's test on one line, or on both.
-- Assumes nothing.
use Rattle.profile.specs.Rules.{second_right}
use Rattle.profile.proofs.Judging.{line-one, line-both}
use Rattle.profile.proofs.rules.seconds_right.Goals as goal

pub returns-then-not-has_second_line : goal.returns-then-not-has_second_line
returns-then-not-has_second_line c = let a = c.args in
    line-one a.field c.has_second_line.ensures (second_right a.tables a.field a.pattern) (rw c.from.ensures at c.second_right-first.ensures)
    c.if-not-has_second_line.true-raw

pub returns : goal.returns
returns c = let a = c.args in
    line-both a.field c.has_second_line.ensures (second_right a.tables a.field a.pattern) (rw c.from.ensures at c.second_right-first.ensures)
    c.if-not-has_second_line.false-raw (rw c.from-2.ensures at c.second_right.ensures)

-- By whether there is a second gate line: the tests of one line, or of two and that they differ.
-- Assumes nothing.
use Rattle.profile.proofs.Judging.{lines_one, lines_both}
use Rattle.profile.proofs.rules.lines_right.Goals as goal

pub returns-then-not-has_second_line : goal.returns-then-not-has_second_line
returns-then-not-has_second_line c = lines_one c.args.field c.has_second_line.ensures c.if-not-has_second_line.true-raw

pub returns : goal.returns
returns c = lines_both c.args.field c.has_second_line.ensures c.if-not-has_second_line.false-raw

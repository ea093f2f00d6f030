-- The verdict, and what there is, or zeros.
-- Assumes nothing.
use Rattle.std.proofs.Common.{rules}
use Rattle.holdlist.proofs.Puts.{puts_as}
use Rattle.cases.proofs.Answered.{level_line}
use Rattle.cases.proofs.answers.put_level.Goals as goal

pub returns : goal.returns
returns c = let e = level_line c.level_in-answer.result in search (rules, puts_as)

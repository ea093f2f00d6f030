-- The verdict, and what there is, or zeros.
-- Assumes nothing.
use Rattle.std.proofs.Common.{rules}
use Rattle.holdlist.proofs.Puts.{puts_as}
use Rattle.cases.proofs.Answered.{check_line}
use Rattle.cases.proofs.answers.put_check.Goals as goal

pub returns : goal.returns
returns c = let e = check_line c.check-checked.result in search (rules, puts_as)

-- The line, then the profile.
-- Assumes nothing.
use Rattle.std.proofs.Common.{rules}
use Rattle.holdlist.proofs.Puts.{puts_as, puts_more}
use Rattle.cases.proofs.Answered.{read_line}
use Rattle.cases.proofs.answers.put_answered.Goals as goal

pub returns : goal.returns
returns c = puts_as (puts_more c.put_verdict_line-a.ensures c.put_profile.ensures) (read_line c.args.answer c.verdict_in.ensures (search rules))

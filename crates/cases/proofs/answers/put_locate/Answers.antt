-- The verdict, and the place or zeros.
-- Assumes nothing.
use Rattle.std.proofs.Common.{rules}
use Rattle.holdlist.proofs.Puts.{puts_as}
use Rattle.cases.proofs.Answered.{locate_line}
use Rattle.cases.proofs.answers.put_locate.Goals as goal

pub returns : goal.returns
returns c = puts_as c.put_verdict_line.ensures
    (locate_line _ c.verdict_in.ensures (search rules) (rw (c.raw_profile.ensures, c.eight_at.ensures) at c.locate-located.ensures))

-- The verdict, and what there is, or zeros.
-- Assumes nothing.
use Rattle.std.proofs.Common.{rules}
use Rattle.holdlist.proofs.Puts.{puts_as}
use Rattle.cases.proofs.Answered.{play_line}
use Rattle.cases.proofs.answers.put_played.Goals as goal

pub returns : goal.returns
returns c = let e = play_line c.play-played.result in search (rules, puts_as)

-- The verdict, and what there is, or zeros.
-- Assumes nothing.
use Rattle.std.proofs.Common.{rules}
use Rattle.holdlist.proofs.Puts.{puts_as}
use Rattle.cases.proofs.Answered.{edge_line}
use Rattle.cases.proofs.answers.put_edge.Goals as goal

pub returns : goal.returns
returns c = let e = edge_line c.next_edge_in-edge.result in search (rules, puts_as)

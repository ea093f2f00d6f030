-- The line, then the slice as it was left.
-- Assumes nothing.
use Rattle.std.proofs.Common.{rules}
use Rattle.holdlist.proofs.Puts.{puts_as, puts_more}
use Rattle.cases.proofs.Answered.{write_line}
use Rattle.cases.proofs.answers.put_written.Goals as goal

pub returns : goal.returns
returns c = let w = c.write-written in
    puts_as (puts_more c.put_verdict_line-a.ensures c.put_hex_line.ensures)
    (write_line _ w.result _ c.verdict_in.ensures (search rules) w.ensures.value w.ensures.out_after)

-- The number, the place, the output and the toggle are put one after the other.
-- Assumes nothing.
use Rattle.holdlist.proofs.Puts.{puts_more}
use Rattle.cases.proofs.text.put_verdict.Goals as goal

pub returns : goal.returns
returns c =
    rw (c.from.ensures, c.from-2.ensures, c.from-3.ensures) at (puts_more (puts_more (puts_more c.put_decimal-a.ensures c.put_after-b.ensures) c.put_after-c.ensures) c.put_after.ensures)

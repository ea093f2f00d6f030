-- `text::put_step_line` meets its contract: its parts are put one after the other.
-- Assumes nothing.
use Rattle.holdlist.specs.Text.{step_line}
use Rattle.holdlist.proofs.Puts.{puts_more}
use Rattle.holdlist.proofs.text.put_step_line.Goals as goal

pub returns : goal.returns
unfolding step_line
returns c = puts_more (puts_more (puts_more (rw c.from.ensures at c.put_decimal-a.ensures) c.put_byte-b.ensures) c.put_hex4-c.ensures) c.put_byte.ensures

-- `text::put_head_line` meets its contract: its parts are put one after the other.
-- Assumes nothing.
use Rattle.holdlist.specs.Text.{head_line}
use Rattle.holdlist.proofs.Puts.{puts_more}
use Rattle.holdlist.proofs.text.put_head_line.Goals as goal

pub returns : goal.returns
unfolding head_line
returns c = puts_more (puts_more (puts_more (puts_more c.put_bytes-a.ensures c.put_decimal-b.ensures) c.put_bytes-c.ensures) c.put_decimal-d.ensures) c.put_byte.ensures

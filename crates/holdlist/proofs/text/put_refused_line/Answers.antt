-- `text::put_refused_line` meets its contract: its parts are put one after the other.
-- Assumes nothing.
use Rattle.holdlist.specs.Text.{refused_line}
use Rattle.holdlist.proofs.Puts.{puts_more}
use Rattle.holdlist.proofs.text.put_refused_line.Goals as goal

pub returns : goal.returns
unfolding refused_line
returns c = let place = puts_more (puts_more (puts_more c.put_bytes-a.ensures (rw c.from.ensures at c.put_decimal-b.ensures)) c.put_byte-c.ensures) c.put_decimal-d.ensures in
    puts_more place (puts_more c.put_toggle-e.ensures c.put_byte.ensures)

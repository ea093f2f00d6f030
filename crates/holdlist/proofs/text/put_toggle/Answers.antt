-- `text::put_toggle` meets its contract: nothing is put but for 10, and there its parts one after the other.
-- Assumes nothing.
use borrow.Author.Tests.{eq-eqb, ne_eqb}
use Rattle.holdlist.specs.Text.{toggle_text}
use Rattle.holdlist.proofs.Puts.{puts_none, puts_more}
use Rattle.holdlist.proofs.text.put_toggle.Goals as goal

pub returns-then-verdict-ne10 : goal.returns-then-verdict-ne10
unfolding toggle_text
returns-then-verdict-ne10 c = rw (ne_eqb _ 10 c.if-verdict-ne10.true) (puts_none _ _)

pub returns : goal.returns
unfolding toggle_text
returns c = rw (eq-eqb _ 10 c.if-verdict-ne10.false, ← c.from.ensures, ← c.from-2.ensures)
    (puts_more (puts_more (puts_more c.put_byte-a.ensures c.put_decimal-b.ensures) c.put_byte-c.ensures) c.put_decimal.ensures)

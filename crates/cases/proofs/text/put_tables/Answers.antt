-- Its parts are put one after the other.
-- Assumes nothing.
use Rattle.holdlist.proofs.Puts.{puts_more}
use Rattle.cases.specs.Answer.{tables_text}
use Rattle.cases.proofs.text.put_tables.Goals as goal

pub returns : goal.returns
unfolding tables_text
returns c = puts_more (puts_more (puts_more (puts_more (puts_more c.put_numbers-a.ensures c.put_sequences-b.ensures) c.put_gates-c.ensures) c.put_subck-d.ensures) c.put_shutter-e.ensures) c.put_shutter.ensures

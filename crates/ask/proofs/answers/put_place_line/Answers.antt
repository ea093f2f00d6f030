-- Its parts are put one after the other.
-- Assumes nothing.
use borrow.Author.Rules.{rules}
use Rattle.holdlist.proofs.Puts.{puts_more}
use Rattle.ask.specs.Answer.{place_line}
use Rattle.ask.proofs.Answering.{place_length}
use Rattle.ask.proofs.answers.put_place_line.Goals as goal

pub returns : goal.returns
unfolding place_line
returns c = record {
  puts = puts_more (puts_more (puts_more (puts_more c.put_bytes-a.ensures c.put_decimal-b.ensures) c.put_bytes-c.ensures) c.put_decimal-d.ensures) c.put_byte.ensures;
  short = place_length _ _ (search rules) (search rules);
}

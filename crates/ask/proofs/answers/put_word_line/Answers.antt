-- Its parts are put one after the other.
-- Assumes nothing.
use Rattle.holdlist.proofs.Puts.{puts_more}
use Rattle.ask.specs.Answer.{word_line}
use Rattle.ask.proofs.Answering.{word_length}
use Rattle.ask.proofs.answers.put_word_line.Goals as goal

pub returns : goal.returns
unfolding word_line
returns c = record {
  puts = puts_more (puts_more c.put_bytes-a.ensures c.put_hex4-b.ensures) c.put_byte.ensures;
  short = word_length c.args.word;
}

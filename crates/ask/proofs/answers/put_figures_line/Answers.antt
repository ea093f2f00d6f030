-- Its parts are put one after the other.
-- Assumes nothing.
use native.Mathlib.Omega.{arith}
use Rattle.holdlist.proofs.Puts.{puts_more}
use Rattle.ask.specs.Answer.{figures_line}
use Rattle.ask.proofs.Answering.{figures-length}
use Rattle.ask.proofs.answers.put_figures_line.Goals as goal

pub returns : goal.returns
unfolding figures_line
returns c = let g = c.well_formed in
    let two = puts_more (puts_more c.put_decimal-a.ensures c.put_byte-b.ensures) c.put_decimal-c.ensures in
    let three = puts_more (puts_more two c.put_byte-d.ensures) c.put_decimal-e.ensures in
    record {
      puts = puts_more (puts_more (puts_more three c.put_byte-f.ensures) c.put_decimal-g.ensures) c.put_byte.ensures;
      short = figures-length _ (omega (arith, g)) (omega (arith, g)) (omega (arith, g)) (omega (arith, g));
    }

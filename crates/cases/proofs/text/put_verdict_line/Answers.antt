-- The verdict, the numbers one after the other, and the end of the line.
-- Assumes nothing.
use mathlib.Core.Path.{refl}
use borrow.Author.Rules.{rules}
use Rattle.holdlist.proofs.Puts.{puts_more}
use Rattle.cases.specs.Answer.{after}
use Rattle.cases.proofs.text.put_verdict_line.Goals as goal

pub returns : goal.returns
returns c =
    puts_more (puts_more c.put_verdict-a.ensures (c.put_each-b.ensures (λ i n. after n) 0 _ refl (λ o p to i n x s. search rules))) c.put_byte.ensures

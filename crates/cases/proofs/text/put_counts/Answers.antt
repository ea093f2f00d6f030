-- Number after number, then the end of the line.
-- Assumes nothing.
use mathlib.Core.Path.{refl}
use mathlib.Core.Bool.{true}
use lib.Dec.{eqb}
use borrow.Author.Rules.{rules}
use Rattle.holdlist.proofs.Puts.{puts_more}
use Rattle.cases.specs.Answer.{number_text}
use Rattle.cases.proofs.Putting.{puts_numbers}
use Rattle.cases.proofs.text.put_counts.Goals as goal

pub returns : goal.returns
returns c =
    puts_more
    (puts_numbers true c.args.counts.now (c.put_each-a.ensures (λ i n. number_text (eqb i 0) n) 0 _ refl (λ o p to i n x s. search rules)))
    c.put_byte.ensures

-- Number after number.
-- Assumes nothing.
use mathlib.Core.Path.{refl}
use mathlib.Core.Bool.{◌&&◌}
use lib.Dec.{eqb}
use borrow.Author.Rules.{rules}
use Rattle.cases.specs.Answer.{number_text}
use Rattle.cases.proofs.Putting.{puts_numbers}
use Rattle.cases.proofs.text.put_numbers.Goals as goal

pub returns : goal.returns
returns c =
    puts_numbers c.args.front c.args.numbers.now
    (c.put_each.ensures (λ i n. number_text (c.args.front && eqb i 0) n) 0 _ refl (λ o p to i n x s. search rules))

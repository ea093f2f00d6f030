-- Byte after byte, then the end of the line.
-- Assumes nothing.
use mathlib.Core.Path.{refl}
use borrow.Author.Rules.{rules}
use Rattle.holdlist.specs.Text.{hex2}
use Rattle.holdlist.proofs.Puts.{puts_more}
use Rattle.cases.proofs.text.put_hex_line.Goals as goal

pub returns : goal.returns
returns c =
    puts_more (c.put_each-a.ensures (λ i b. hex2 b) 0 _ refl (λ o p to i n x s. search rules)) c.put_byte.ensures

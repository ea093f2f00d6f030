-- What the check leaves open, by the laws cited.
-- Assumes nothing.
use Rattle.holdlist.proofs.Spelling.{spells_first, spells_more, spells_last}
use borrow.Author.Rules.{rules}
use Rattle.holdlist.proofs.text.spell.Goals as goal

pub loop-rest-init : goal.loop-rest-init
loop-rest-init c = rw c.digit.ensures (spells_first c.args.n c.args.digits.now (search rules) c.told-digits)

pub loop-rest-preserved : goal.loop-rest-preserved
loop-rest-preserved c = rw c.digit-in-loop-rest.ensures (spells_more c.loop-rest.invariant c.loop-rest-test.true)

pub returns : goal.returns
returns c = record { upper_bound = c.loop-rest.invariant.inside; digits_after = spells_last c.loop-rest.invariant c.loop-rest-test.false }

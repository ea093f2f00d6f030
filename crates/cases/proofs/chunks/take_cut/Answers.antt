-- What the check leaves open, by the laws cited.
-- Assumes nothing.
use mathlib.Core.Path.{◌∙◌}
use borrow.Author.Rules.{rules}
use Rattle.cases.proofs.Cutting.{cut_none, cut_more, cut_all}
use Rattle.cases.proofs.chunks.take_cut.Goals as goal

pub loop-i-init : goal.loop-i-init
loop-i-init c = cut_none _ _ _ _ _ (search rules) (search rules)

pub loop-i-preserved : goal.loop-i-preserved
loop-i-preserved c = rw c.take-after.ensures (cut_more c.loop-i.invariant c.loop-i-test.true c.from-size.result _ (search rules) (search rules))

pub returns : goal.returns
returns c = c.take.ensures ∙ cut_all c.loop-i.invariant (search rules)

-- The tests are the definition's.
-- Assumes nothing.
use mathlib.Core.Path.{refl}
use Rattle.profile.specs.Rules.{pairs_right}
use Rattle.profile.proofs.rules.pairs_right.Goals as goal

pub returns : goal.returns
unfolding pairs_right
returns c = refl

-- The tests are the definition's.
-- Assumes nothing.
use mathlib.Core.Path.{refl}
use Rattle.profile.specs.Rules.{gate_right}
use Rattle.profile.proofs.rules.gate_right.Goals as goal

pub returns : goal.returns
unfolding gate_right
returns c = refl

-- The tests are the definition's.
-- Assumes nothing.
use mathlib.Core.Path.{refl}
use Rattle.profile.specs.Rules.{subck_right}
use Rattle.profile.proofs.rules.subck_right.Goals as goal

pub returns : goal.returns
unfolding subck_right
returns c = refl

-- The tests are the definition's, of both places as they are answered.
-- Assumes nothing.
use Rattle.profile.specs.Rules.{shutter_right}
use Rattle.profile.proofs.rules.shutter_right.Goals as goal

pub returns : goal.returns
unfolding shutter_right
returns c = cc

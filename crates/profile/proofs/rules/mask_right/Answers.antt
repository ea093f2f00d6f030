-- Each arm is the definition's clause for its mode.
-- Assumes nothing.
use Rattle.profile.specs.Rules.{mask_right}
use Rattle.profile.proofs.rules.mask_right.Goals as goal

pub returns-in-Plain : goal.returns-in-Plain
unfolding mask_right
returns-in-Plain c = cc

pub returns-in-Sweep : goal.returns-in-Sweep
unfolding mask_right
returns-in-Sweep c = cc

pub returns-in-Multiplier : goal.returns-in-Multiplier
unfolding mask_right
returns-in-Multiplier c = cc

-- Each arm is the definition's clause for its mode.
-- Assumes nothing.
use Rattle.profile.specs.Rules.{ends_right}
use Rattle.profile.proofs.rules.ends_right.Goals as goal

pub returns-in-Plain : goal.returns-in-Plain
unfolding ends_right
returns-in-Plain c = cc

pub returns-in-Sweep : goal.returns-in-Sweep
unfolding ends_right
returns-in-Sweep c = rw c.in-Sweep.is c.run_fits.ensures

pub returns-in-Multiplier : goal.returns-in-Multiplier
unfolding ends_right
returns-in-Multiplier c = rw c.in-Multiplier.is c.run_fits-in-Multiplier.ensures

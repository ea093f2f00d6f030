-- What the check leaves open, by the laws cited.
-- Assumes nothing.
use Rattle.profile.proofs.Judging.{passing}
use Rattle.profile.proofs.rules.check_shutters.Goals as goal

pub loop-k-init : goal.loop-k-init
loop-k-init c = search passing

pub returns-then-not-shutter_right : goal.returns-then-not-shutter_right
returns-then-not-shutter_right c = search passing

pub loop-k-preserved : goal.loop-k-preserved
loop-k-preserved c = search passing

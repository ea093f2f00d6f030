-- What the check leaves open, by the laws cited.
-- Assumes nothing.
use Rattle.profile.proofs.Judging.{passing}
use Rattle.profile.proofs.rules.check_order.Goals as goal

pub loop-i-init : goal.loop-i-init
loop-i-init c = search passing

pub returns-then-not-starts_right : goal.returns-then-not-starts_right
returns-then-not-starts_right c = search passing

pub loop-i-preserved : goal.loop-i-preserved
loop-i-preserved c = search passing

-- A region that is fine hands on to the next, the first broken one answers for all.
-- Assumes nothing.
use Rattle.profile.specs.Refusals.{verdict_in}
use Rattle.profile.proofs.Refusing.{handed_on}
use Rattle.profile.proofs.Judging.{passing}
use Rattle.profile.proofs.rules.check_regions.Goals as goal

pub loop-i-init : goal.loop-i-init
loop-i-init c = search passing

pub returns-in_err-check_region : goal.returns-in_err-check_region
returns-in_err-check_region c =
    handed_on verdict_in _ c.in_err-check_region.field-0.0 c.from_residual.ensures.1 (search (passing, c.in_err-check_region.ensures))

pub loop-i-preserved : goal.loop-i-preserved
loop-i-preserved c = search (passing, c.in_ok-check_region.ensures)

pub returns : goal.returns
returns c = search passing

-- Part after part: a broken one answers, a fine one hands on.
-- Assumes nothing.
use Rattle.profile.specs.Refusals.{verdict_in}
use Rattle.profile.proofs.Refusing.{handed_on}
use Rattle.profile.proofs.Judging.{judging}
use Rattle.profile.proofs.rules.check_rules.Goals as goal

pub returns-in_err-check_order : goal.returns-in_err-check_order
returns-in_err-check_order c = handed_on verdict_in _ c.in_err-check_order.field-0.0 c.from_residual.ensures.1 (search (judging, c.in_err-check_order.ensures))

pub returns-in_err-check_regions : goal.returns-in_err-check_regions
returns-in_err-check_regions c = handed_on verdict_in _ c.in_err-check_regions.field-0.0 c.from_residual-in_err-check_regions.ensures.1 (search (judging, c.in_ok-check_order.ensures, c.in_err-check_regions.ensures))

pub returns : goal.returns
returns c = search (judging, c.in_ok-check_order.ensures, c.in_ok-check_regions.ensures)

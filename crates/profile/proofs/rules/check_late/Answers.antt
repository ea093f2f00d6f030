-- Part after part: a broken one answers, a fine one hands on.
-- Assumes nothing.
use Rattle.profile.specs.Refusals.{verdict_in}
use Rattle.profile.proofs.Refusing.{handed_on}
use Rattle.profile.proofs.Judging.{judging}
use Rattle.profile.proofs.rules.check_late.Goals as goal

pub returns-in_err-check_lines : goal.returns-in_err-check_lines
returns-in_err-check_lines c = handed_on verdict_in _ c.in_err-check_lines.field-0.0 c.from_residual.ensures.1 (search (judging, c.in_err-check_lines.ensures))

pub returns-in_err-check_gates : goal.returns-in_err-check_gates
returns-in_err-check_gates c = handed_on verdict_in _ c.in_err-check_gates.field-0.0 c.from_residual-in_err-check_gates.ensures.1 (search (judging, c.in_ok-check_lines.ensures, c.in_err-check_gates.ensures))

pub returns-in_err-check_subck : goal.returns-in_err-check_subck
returns-in_err-check_subck c = handed_on verdict_in _ c.in_err-check_subck.field-0.0 c.from_residual-in_err-check_subck.ensures.1 (search (judging, c.in_ok-check_lines.ensures, c.in_ok-check_gates.ensures, c.in_err-check_subck.ensures))

pub returns : goal.returns
returns c = search (judging, c.in_ok-check_lines.ensures, c.in_ok-check_gates.ensures, c.in_ok-check_subck.ensures)

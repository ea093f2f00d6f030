-- Each return is at the first test that fails, the last where none does.
-- Assumes nothing.
use Rattle.profile.proofs.Judging.{judging}
use Rattle.profile.proofs.rules.check_run.Goals as goal

pub returns-then-not-mask_right : goal.returns-then-not-mask_right
returns-then-not-mask_right c = search judging

pub returns-then-not-counts_right : goal.returns-then-not-counts_right
returns-then-not-counts_right c = search judging

pub returns-then-not-ends_right : goal.returns-then-not-ends_right
returns-then-not-ends_right c = search judging

pub returns : goal.returns
returns c = search judging

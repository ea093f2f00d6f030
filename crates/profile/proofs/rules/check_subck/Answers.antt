-- One entry: its test decides.
-- Assumes nothing.
use Rattle.profile.proofs.Judging.{judging}
use Rattle.profile.proofs.rules.check_subck.Goals as goal

pub returns-then-not-subck_right : goal.returns-then-not-subck_right
returns-then-not-subck_right c = search judging

pub returns : goal.returns
returns c = search judging

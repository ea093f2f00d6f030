-- The gate lines' test, then the second pattern's where there is one.
-- Assumes nothing.
use Rattle.profile.proofs.Judging.{judging}
use Rattle.profile.proofs.rules.check_lines.Goals as goal

pub returns-then-not-lines_right : goal.returns-then-not-lines_right
returns-then-not-lines_right c = search judging

pub returns-then-field-eq-NONE : goal.returns-then-field-eq-NONE
returns-then-field-eq-NONE c = search judging

pub returns-then-not-seconds_right : goal.returns-then-not-seconds_right
returns-then-not-seconds_right c = search judging

pub returns : goal.returns
returns c = search judging

-- 6 where there is no field; else the rules decide.
-- Assumes nothing.
use Rattle.profile.proofs.Judging.{judging}
use Rattle.profile.proofs.rules.judge.Goals as goal

pub returns-then-not-field : goal.returns-then-not-field
returns-then-not-field c = search judging

pub returns : goal.returns
returns c = search judging

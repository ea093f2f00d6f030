-- 5 where a number is out of range; else the judging decides.
-- Assumes nothing.
use mathlib.Core.Path.{refl}
use Rattle.profile.specs.Rules.{check_profile}
use Rattle.profile.proofs.Laws.{tested_no, tested_yes}
use Rattle.profile.proofs.rules.check_in.Goals as goal

pub returns-then-not-in_range : goal.returns-then-not-in_range
unfolding check_profile
returns-then-not-in_range c = rw (tested_no c.in_range.ensures c.if-not-in_range.true-raw) refl

pub returns : goal.returns
unfolding check_profile
returns c = rw (tested_yes c.in_range.ensures c.if-not-in_range.false-raw) c.judge.ensures

-- Each arm is the definition's clause for its mode.
-- Assumes nothing.
use mathlib.Core.Path.{◌∙◌}
use Rattle.profile.specs.Rules.{counts_right}
use Rattle.profile.proofs.Registers.{highest_rows}
use Rattle.profile.proofs.rules.counts_right.Goals as goal

pub returns-in-Plain : goal.returns-in-Plain
unfolding counts_right
returns-in-Plain c = cc

pub returns-in-Sweep : goal.returns-in-Sweep
unfolding counts_right
returns-in-Sweep c = rw c.in-Sweep.is

pub returns-in-Multiplier : goal.returns-in-Multiplier
unfolding counts_right
returns-in-Multiplier c = let l = c.args.pattern.toggles in
    rw c.in-Multiplier.is
    (c.both_are.ensures ∙ rw (c.highest_used.ensures, c.rows_of.ensures, highest_rows l))

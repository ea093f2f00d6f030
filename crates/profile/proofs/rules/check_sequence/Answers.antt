-- Each return is at the first test that fails; past 10, the run decides.
-- Assumes nothing.
use Rattle.profile.specs.Patterns.{used}
use Rattle.profile.specs.Rules.{entries_at}
use Rattle.profile.specs.Refusals.{verdict_in}
use Rattle.profile.proofs.Refusing.{handed_on}
use Rattle.profile.proofs.Judging.{judging, rows_entries, numbered_rows}
use Rattle.profile.proofs.rules.check_sequence.Goals as goal

pub returns-then-not-sequence : goal.returns-then-not-sequence
unfolding entries_at
returns-then-not-sequence c = search judging

pub returns-then-pattern-eq0 : goal.returns-then-pattern-eq0
unfolding entries_at
returns-then-pattern-eq0 c = search judging

pub returns-in_err-check_toggles : goal.returns-in_err-check_toggles
unfolding entries_at
returns-in_err-check_toggles c = let s = c.args in
    handed_on verdict_in _ c.in_err-check_toggles.field-0.0 c.from_residual.ensures.1
    (search (judging, rows_entries s.i (used s.mode s.pattern.length) s.pattern.toggles c.rows_of.ensures c.in_err-check_toggles.ensures))

pub returns : goal.returns
unfolding entries_at
returns c = let s = c.args in
    search (judging, numbered_rows, rows_entries s.i (used s.mode s.pattern.length) s.pattern.toggles c.rows_of.ensures c.in_ok-check_toggles.ensures)

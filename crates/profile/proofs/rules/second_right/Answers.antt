-- The five tests are the definition's, of the gate line's region, sequence and pattern as they are answered.
-- Assumes nothing.
use mathlib.Core.Path.{◌∙◌}
use Rattle.profile.specs.Patterns.{not4095}
use Rattle.profile.specs.Rules.{second_right}
use Rattle.profile.proofs.Refusing.{ok_accepts}
use Rattle.profile.proofs.Judging.{rows_entries, rows_right}
use Rattle.profile.proofs.rules.second_right.Goals as goal

pub returns : goal.returns
unfolding second_right
returns c = let args = c.args in
    rw (
      c.first_ends.ensures,
      c.line_length.ensures,
      c.is_ok.ensures.value ∙ ok_accepts c.check_toggles-toggles.result,
      rows_right 0 not4095 args.pattern.toggles (rows_entries 0 not4095 args.pattern.toggles c.rows_of.ensures c.check_toggles-toggles.ensures),
      c.is_plain.ensures,
      c.pattern_of-first.ensures,
      c.sequence_of-sequence.ensures,
      c.region_at-region.ensures,
      c.region_of-i.ensures.value,
    )

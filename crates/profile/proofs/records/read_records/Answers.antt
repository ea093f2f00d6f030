-- How far reading went gives the answer of all records.
-- Assumes nothing.
use mathlib.Core.Path.{refl, ◌∙◌}
use Rattle.profile.specs.Values.{empty_profile}
use Rattle.profile.proofs.Takes.{records_read}
use Rattle.profile.proofs.records.read_records.Goals as goal

pub returns : goal.returns
returns c = c.outcome.ensures ∙ records_read c.args.script.now empty_profile 0 _ _ (rw c.empty.ensures at c.records_from.ensures) refl

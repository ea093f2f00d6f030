-- The number and the shutter are those of the body, so the test is that of the definition; where it holds the shutter is stored.
-- Assumes nothing.
use mathlib.Core.Path.{◌∙◌}
use Rattle.profile.proofs.Readers.{reading}
use Rattle.profile.proofs.records.read_shutter.Goals as goal

pub returns-then-not-fits : goal.returns-then-not-fits
returns-then-not-fits c = search (reading, c.from-number.ensures ∙ c.number_at.ensures)

pub returns : goal.returns
returns c = search (reading, c.from-number.ensures ∙ c.number_at.ensures)

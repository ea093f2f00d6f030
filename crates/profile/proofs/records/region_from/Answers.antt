-- The three numbers are those of the body, and the tests those of the definition.
-- Assumes nothing.
use Rattle.profile.proofs.Readers.{region_made, region_test, when_no, when_yes}
use Rattle.profile.proofs.records.region_from.Goals as goal

pub returns-then-not-fits : goal.returns-then-not-fits
returns-then-not-fits c = search (region_test, when_no)

pub returns : goal.returns
returns c = search (region_made, region_test, when_yes)

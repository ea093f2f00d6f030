-- The values are those of the body, so the test is that of the definition; where it holds they are stored.
-- Assumes nothing.
use Rattle.profile.proofs.Readers.{reading}
use Rattle.profile.proofs.records.read_subck.Goals as goal

pub returns-then-not-subck_in_range : goal.returns-then-not-subck_in_range
returns-then-not-subck_in_range c = search reading

pub returns : goal.returns
returns c = search reading

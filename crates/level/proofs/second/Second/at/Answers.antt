-- The keys decide, from the pixels since its length.
-- Assumes nothing.
use Rattle.level.specs.Ready.{second_at}
use Rattle.level.proofs.second.Second.at.Goals as goal

pub returns : goal.returns
unfolding second_at
returns c = c.six.ensures

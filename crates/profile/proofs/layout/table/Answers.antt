-- The table follows the layout at every entry: what its 240 entries name, worked out over all of them, is what the half registers are. So it has
-- each part of each pattern once.
-- Assumes nothing.
use mathlib.Core.Path.{refl}
use Rattle.profile.specs.Lists.{chunks}
use Rattle.profile.specs.Layout.{half_pattern, half_part}
use Rattle.profile.proofs.Halves.{table_follows, one_entry}
use Rattle.profile.proofs.layout.table.Goals as goal

pub returns : goal.returns
unfolding chunks half_pattern half_part
returns c = let f = table_follows _ refl in record { follows = f; each_once = one_entry _ f }

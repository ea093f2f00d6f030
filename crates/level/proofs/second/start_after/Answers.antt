-- Where there is none, nowhere.
-- Assumes nothing.
use mathlib.Core.Path.{refl}
use Rattle.level.proofs.Nexts.{next-none}
use Rattle.level.proofs.second.start_after.Goals as goal

pub returns-in-None : goal.returns-in-None
returns-in-None c = rw c.in-None.is (next-none c.requires (λ q a b. refl))

-- What the check leaves open, by the laws cited.
-- Assumes nothing.
use Rattle.profile.proofs.Stores.{stored_none, storing}
use native.Mathlib.Omega.{arith}
use Rattle.profile.proofs.writing.put_regions.Goals as goal

pub loop-i-init : goal.loop-i-init
loop-i-init c = stored_none (omega arith)

pub loop-i-preserved : goal.loop-i-preserved
loop-i-preserved c = search storing

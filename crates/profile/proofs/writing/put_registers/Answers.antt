-- Each record after the one before it.
-- Assumes nothing.
use native.Mathlib.Omega.{arith}
use Rattle.profile.proofs.Stores.{stored_none, stored_more}
use Rattle.profile.proofs.writing.put_registers.Goals as goal

pub loop-a-init : goal.loop-a-init
loop-a-init c = stored_none (omega arith)

pub loop-a-preserved : goal.loop-a-preserved
loop-a-preserved c = stored_more c.loop-a.invariant c.loop-a-test.true c.put_register.ensures (omega arith)

-- One region more is read, or one is out of range, and then not all are in range.
-- Assumes nothing.
use native.Mathlib.Omega.{arith}
use Rattle.profile.proofs.Readers.{filled_none, filled_more, filled_stop, filled-all}
use Rattle.profile.proofs.records.regions_from.Goals as goal

pub loop-i-init : goal.loop-i-init
loop-i-init c = search filled_none

pub returns-in_err-regions : goal.returns-in_err-regions
returns-in_err-regions c = rw c.from_residual.ensures (filled_stop c.loop-i.invariant _ c.loop-i-test.true c.in_err-regions.ensures)

pub loop-i-preserved : goal.loop-i-preserved
loop-i-preserved c = filled_more c.loop-i.invariant _ (omega arith) c.in_ok-regions.ensures

pub returns : goal.returns
returns c = filled-all c.loop-i.invariant _ (omega arith)

-- What the check leaves open, by the laws cited.
-- Assumes nothing.
use Rattle.profile.proofs.Judging.{gates_length, passing}
use Rattle.profile.proofs.rules.check_gates.Goals as goal

pub loop-k-init : goal.loop-k-init
loop-k-init c = search passing

pub returns-then-not-gate_right : goal.returns-then-not-gate_right
returns-then-not-gate_right c = let a = c.args in
    gates_length a.tables a.field c.gate_length-length.ensures (search passing)

pub loop-k-preserved : goal.loop-k-preserved
loop-k-preserved c = search passing

pub returns : goal.returns
returns c = let a = c.args in
    gates_length a.tables a.field c.gate_length-length.ensures (search passing)

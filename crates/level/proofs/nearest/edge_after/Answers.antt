-- What the check leaves open, by the laws cited.
-- Assumes nothing.
use mathlib.Core.Path.{refl}
use native.Mathlib.Omega.{arith}
use Rattle.level.proofs.Changing.{seeking_start, seeking_none, seeking-found, seeking-more}
use Rattle.level.proofs.nearest.edge_after.Goals as goal

pub loop-n-init : goal.loop-n-init
loop-n-init c = search seeking_start

pub returns-then-q-l : goal.returns-then-q-l
returns-then-q-l c = seeking-found c.loop-n.invariant (omega (arith, c.loop-n-test.true, c.requires.line_lt_lines)) c.line_of-l.ensures c.change_from-q.ensures refl
    c.if-q-l.true

pub loop-n-preserved : goal.loop-n-preserved
loop-n-preserved c = seeking-more c.loop-n.invariant (omega (arith, c.loop-n-test.true, c.requires.line_lt_lines)) c.line_of-l.ensures c.change_from-q.ensures (omega arith)

pub returns : goal.returns
returns c = seeking_none c.loop-n.invariant refl (omega arith)

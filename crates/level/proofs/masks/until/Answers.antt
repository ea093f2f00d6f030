-- The number where it lies between, else the end.
-- Assumes nothing.
use native.Mathlib.Omega.{arith}
use Rattle.level.proofs.Nexts.{next_one, next_outside}
use Rattle.level.proofs.masks.until.Goals as goal

pub returns-then-x-end : goal.returns-then-x-end
returns-then-x-end c = let a = c.args in next_one a.x a.p a.end (omega arith) (omega arith)

pub returns : goal.returns
returns c = let a = c.args in next_outside a.x a.p a.end c.requires (λ h. omega arith)

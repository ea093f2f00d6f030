-- Before the first edge the next one is that.
-- Assumes nothing.
use native.Mathlib.Omega.{arith}
use mathlib.Core.Path.{◌∙◌}
use Rattle.level.proofs.Edges.{eight_early}
use Rattle.level.proofs.others.Others.next_after.Goals as goal

pub returns-then-p-self : goal.returns-then-p-self
returns-then-p-self c = let a = c.args in
    c.until.ensures ∙ eight_early a.self.edges a.self.steady a.self.until a.p a.end c.if-p-self.true c.requires (omega arith)

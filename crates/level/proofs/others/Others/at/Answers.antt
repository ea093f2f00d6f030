-- Before the first edge the levels are those at pixel 0.
-- Assumes nothing.
use mathlib.Core.Path.{◌∙◌, sym}
use Rattle.level.proofs.Edges.{eight_small, eight_first}
use Rattle.level.proofs.others.Others.at.Goals as goal

pub returns-then-p-self : goal.returns-then-p-self
returns-then-p-self c = let o = c.args.self in
    record { value = o.held ∙ sym (eight_first o.edges o.steady o.until c.args.p c.if-p-self.true); upper_bound = rw o.held (eight_small o.edges 0) }

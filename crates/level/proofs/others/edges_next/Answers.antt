-- Both edges, one after the other.
-- Assumes nothing.
use mathlib.Core.Path.{◌∙◌, ap}
use lib.Dec.{eqb}
use Rattle.level.specs.Next.{next}
use Rattle.level.proofs.Nexts.{next_low, next_two}
use Rattle.level.proofs.others.edges_next.Goals as goal

pub until-requires-2 : goal.until-requires-2
until-requires-2 c = let a = c.args in rw c.until.ensures (next_low (λ q. eqb q a.e.on) a.p a.end c.requires)

pub returns : goal.returns
returns c = let a = c.args in
    c.until-2.ensures ∙ ap (λ b. next (λ q. eqb q a.e.off) a.p b) c.until.ensures
    ∙ next_two (λ q. eqb q a.e.on) (λ q. eqb q a.e.off) a.p a.end c.requires

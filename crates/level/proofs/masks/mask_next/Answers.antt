-- Freeze and resume one after the other, where there is a mask.
-- Assumes nothing.
use mathlib.Core.Path.{◌∙◌, ap, sym}
use lib.Dec.{eqb}
use Rattle.level.specs.Next.{next}
use Rattle.level.specs.Edges.{mask_edge}
use Rattle.level.proofs.Nexts.{next_low, next_two, next-none}
use Rattle.level.proofs.masks.mask_next.Goals as goal

pub until-requires-in-Some : goal.until-requires-in-Some
until-requires-in-Some c = let a = c.args in rw c.until.ensures (next_low (λ q. eqb q c.in-Some.m.freeze) a.p a.end c.requires)

pub returns-in-Some : goal.returns-in-Some
returns-in-Some c = let a = c.args in
    let m = c.in-Some.m in
    c.until-in-Some.ensures ∙ ap (λ b. next (λ q. eqb q m.resume) a.p b) c.until.ensures
    ∙ next_two (λ q. eqb q m.freeze) (λ q. eqb q m.resume) a.p a.end c.requires
    ∙ ap (λ o. next (λ q. mask_edge o q) a.p a.end) (sym c.in-Some.is)

pub returns-in-None : goal.returns-in-None
returns-in-None c = next-none c.requires (λ q a b. ap (λ o. mask_edge o q) c.in-None.is)

-- Toggles that are multiplied.
-- Assumes nothing.
use borrow.Author.Rules.{rules}
use lib.ListN.{get_or}
use mir.Syntax.{w16}
use mir.Val.{Fits}
use Rattle.level.proofs.Parts.{Small}
use Rattle.level.proofs.Making.{multiplied_makes}
use Rattle.level.proofs.made.multiplied.Goals as goal

pub returns : goal.returns
returns c = let a = c.args in
    let p = a.a in
    let small : Small p.toggles = λ i. let h : Fits w16 (get_or p.toggles i 0) = search rules in h.fits in
    multiplied_makes p small a.start a.r a.origin c.six-levels.result c.used_keys-keys.result c.used_keys-keys.ensures c.six-levels.ensures.value

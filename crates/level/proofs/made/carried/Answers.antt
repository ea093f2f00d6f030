-- A repetition of odd number begins with the levels at the end of the first.
-- Assumes nothing.
use borrow.Author.Rules.{rules}
use mathlib.Core.Path.{◌∙◌, ap}
use Rattle.profile.specs.Patterns.{rows_of}
use Rattle.level.specs.Keys.{six_at}
use lib.ListN.{get_or}
use mir.Syntax.{w16}
use mir.Val.{Fits}
use Rattle.level.proofs.Parts.{Small}
use Rattle.level.proofs.Making.{carried_makes}
use Rattle.level.proofs.made.carried.Goals as goal

pub returns : goal.returns
returns c = let a = c.args in
    let p = a.a in
    let small : Small p.toggles = λ i. let h : Fits w16 (get_or p.toggles i 0) = search rules in h.fits in
    carried_makes p small a.start a.r a.origin c.six-levels.result c.six-turned.result c.run_keys-keys.result c.run_keys-keys.ensures
    c.six-levels.ensures.value (c.six-turned.ensures.value ∙ ap (λ n. six_at p.levels (rows_of c.run_keys-keys.result) n) c.from.ensures)

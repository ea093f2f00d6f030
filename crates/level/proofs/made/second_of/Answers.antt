-- Its keys, where it acts.
-- Assumes nothing.
use borrow.Author.Rules.{rules}
use lib.ListN.{get_or}
use mir.Syntax.{w16}
use mir.Val.{Fits}
use Rattle.level.proofs.Parts.{Small}
use Rattle.level.proofs.Making.{second_made}
use Rattle.level.proofs.made.second_of.Goals as goal

pub returns : goal.returns
returns c = let p = c.in_ok-a.a in
    let small : Small p.toggles = λ i. let h : Fits w16 (get_or p.toggles i 0) = search rules in h.fits in
    rw c.in_ok-a.was (second_made p small c.used_keys-keys.ensures)

-- The check's refusal; else the regions are in order, by rule 7, and the loop over them answers.
-- Assumes nothing.
use mathlib.Core.Path.{sym}
use Rattle.profile.proofs.Accepted.{accepted_ordered}
use Rattle.profile.proofs.Refusing.{refuses, passes, handed_on}
use Rattle.level.specs.Place.{locate_told}
use Rattle.level.proofs.Places.{locate_refused, locate_asked_lem}
use Rattle.level.proofs.place.locate_in.Goals as goal

pub returns-in_err-check_in : goal.returns-in_err-check_in
returns-in_err-check_in c = let e = c.in_err-check_in.ensures in
    handed_on locate_told _ c.in_err-check_in.field-0.0 c.from_residual.ensures.1 (search (locate_refused, refuses _ e, e))

pub place_of-requires : goal.place_of-requires
place_of-requires c = accepted_ordered _ _ (sym c.in_ok-check_in.ensures)

pub returns : goal.returns
returns c = search (locate_asked_lem, passes c.in_ok-check_in.ensures)

-- The check's refusal, then 19 where the field has no such pixel, then the word of its line, in which the pixel lies.
-- Assumes nothing.
use native.Mathlib.Omega.{arith}
use Rattle.profile.proofs.Laws.{tested_no, tested_yes}
use Rattle.profile.proofs.Refusing.{refuses, passes, handed_on}
use Rattle.level.specs.Place.{level_told}
use Rattle.level.proofs.Words.{pixel_of_line}
use Rattle.level.proofs.Places.{level_refused, level_nowhere, level_there}
use Rattle.level.proofs.place.level_in.Goals as goal

pub returns-in_err-check_in : goal.returns-in_err-check_in
returns-in_err-check_in c = let e = c.in_err-check_in.ensures in
    handed_on level_told _ c.in_err-check_in.field-0.0 c.from_residual.ensures.1 (search (level_refused, refuses _ e, e))

pub returns-then-not-has_pixel : goal.returns-then-not-has_pixel
returns-then-not-has_pixel c = search (level_nowhere, passes c.in_ok-check_in.ensures, tested_no)

pub overflow_cast-pixel : goal.overflow_cast-pixel
overflow_cast-pixel c = let l = c.line_of-shown in
    let h = c.has_pixel in
    let inside = pixel_of_line _ _ _ _ c.args.pixel l.ensures (tested_yes h.ensures c.if-not-has_pixel.false-raw) in
    omega arith

pub returns : goal.returns
returns c = search (level_there, passes c.in_ok-check_in.ensures, tested_yes)

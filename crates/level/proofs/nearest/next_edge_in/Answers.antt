-- The check's refusal, then 19 where the field has no such pixel, then what is found from the pixel's line on with the word there.
-- Assumes nothing.
use native.Mathlib.Omega.{arith}
use Rattle.profile.proofs.Laws.{tested_no, tested_yes}
use Rattle.profile.proofs.Lines.{has_line, has_pixel_lem}
use Rattle.level.proofs.Words.{pixel_of_line}
use Rattle.profile.proofs.Refusing.{refuses, passes, handed_on}
use Rattle.level.specs.Place.{edge_told}
use Rattle.level.proofs.Changing.{edge_refused, edge_nowhere, edge_there}
use Rattle.level.proofs.nearest.next_edge_in.Goals as goal

pub returns-in_err-check_in : goal.returns-in_err-check_in
returns-in_err-check_in c = let e = c.in_err-check_in.ensures in
    handed_on edge_told _ c.in_err-check_in.field-0.0 c.from_residual.ensures.1 (search (edge_refused, refuses _ e, e))

pub returns-then-not-has_pixel : goal.returns-then-not-has_pixel
returns-then-not-has_pixel c = search (edge_nowhere, passes c.in_ok-check_in.ensures, tested_no)

pub overflow_cast-here : goal.overflow_cast-here
overflow_cast-here c = let inside = pixel_of_line _ _ _ _ c.args.pixel c.line_of-shown.ensures (tested_yes c.has_pixel.ensures c.if-not-has_pixel.false-raw) in
    omega arith

pub edge_after-requires : goal.edge_after-requires
edge_after-requires c = let h = tested_yes c.has_pixel.ensures c.if-not-has_pixel.false-raw in
    record { line_lt_lines = has_line _ _ _ _ h; pixel_bound = has_pixel_lem _ _ _ _ h; w_value = rw (← c.line_of-shown.ensures) c.word_of-w.ensures }

pub returns : goal.returns
returns c = search (edge_there, passes c.in_ok-check_in.ensures, tested_yes)

-- Refused by the check; refused where the first pass counts more steps than there is room for; else the second pass fills both lists.
-- Assumes nothing.
use mathlib.Core.Path.{refl, sym}
use Rattle.profile.proofs.Refusing.{refuses, passes, handed_on}
use Rattle.holdlist.specs.Compile.{compile_told}
use Rattle.holdlist.proofs.FieldLoops.{accepted_fillable}
use Rattle.holdlist.proofs.Passes.{passes_refused, passes-short, passes-fit}
use Rattle.holdlist.proofs.compiling.compile_by.Goals as goal

pub returns-in_err-check_in : goal.returns-in_err-check_in
returns-in_err-check_in g c = let e = c.in_err-check_in.ensures in
    rw (handed_on compile_told _ c.in_err-check_in.field-0.0 c.from_residual.ensures.1 refl, e) (search (passes_refused, refuses _ e))

pub fill_field-need-requires : goal.fill_field-need-requires
fill_field-need-requires g c = search (accepted_fillable _ _ (sym c.in_ok-check_in.ensures))

pub returns-then-min-need : goal.returns-then-min-need
returns-then-min-need g c = search (passes-short, passes c.in_ok-check_in.ensures)

pub fill_field-steps-requires : goal.fill_field-steps-requires
fill_field-steps-requires g c = search (accepted_fillable _ _ (sym c.in_ok-check_in.ensures))

pub returns : goal.returns
returns g c = rw c.pixel_count-pixels.ensures (search (passes-fit, passes c.in_ok-check_in.ensures))

-- The steps closed by the regions, and the open one flushed after them, are the runs of the field's words.
-- Assumes nothing.
use Rattle.holdlist.proofs.Fills.{writes_runs, runs_few}
use Rattle.holdlist.proofs.FieldLoops.{few-pixels}
use native.Mathlib.Omega.{arith}
use Rattle.holdlist.proofs.filling.fill_field.Goals as goal

pub fill_regions-filled-requires : goal.fill_regions-filled-requires
fill_regions-filled-requires g c = record { fillable = c.requires; field_bound = omega (arith, few-pixels c.args.version _ _ c.requires) }

pub overflow_add-result : goal.overflow_add-result
overflow_add-result g c = search (runs_few, few-pixels)

pub returns : goal.returns
returns g c = search writes_runs

-- The record is refused as it is found, or by the values of its body, which is a part of the script; else the step is taken.
-- Assumes nothing.
use Rattle.std.proofs.lemmas.Result.{err_from_is_err_and}
use mathlib.Core.Path.{refl}
use Rattle.profile.proofs.OneRecord.{step-refused, part-ordered, part-inside, part-allowed, step-unfit, step-next-on}
use Rattle.profile.proofs.records.record_at.Goals as goal

pub returns-in_err-found : goal.returns-in_err-found
returns-in_err-found c = let p = err_from_is_err_and c.from_residual.result c.from_residual.ensures.1 in
    rw (p.1, p.2) (step-refused c.args.script.now c.args.at _ c.in_err-found.ensures c.args.profile)

pub slice_bounds-body-count : goal.slice_bounds-body-count
slice_bounds-body-count c = part-ordered c.args.script.now c.args.at _ c.in_ok-found.ensures refl

pub slice_bounds-body-start : goal.slice_bounds-body-start
slice_bounds-body-start c = part-ordered c.args.script.now c.args.at _ c.in_ok-found.ensures refl

pub slice_bounds-body-end : goal.slice_bounds-body-end
slice_bounds-body-end c = part-inside c.args.script.now c.args.at _ c.in_ok-found.ensures refl

pub read-requires : goal.read-requires
read-requires c = part-allowed c.args.script.now c.args.at _ c.in_ok-found.ensures refl

pub returns-in-Some : goal.returns-in-Some
returns-in-Some c = step-next-on c.args.script.now c.args.at _ c.in_ok-found.ensures _ refl c.in-Some.ensures

pub returns-in-None : goal.returns-in-None
returns-in-None c = step-unfit c.args.script.now c.args.at _ c.in_ok-found.ensures _ refl c.in-None.ensures

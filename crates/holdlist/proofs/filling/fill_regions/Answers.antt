-- What the check leaves open, by the laws cited.
-- Assumes nothing.
use Rattle.holdlist.proofs.Fills.{turns_start, turn-counted, turn-steps, turns-end, turning, fills_as}
use Rattle.holdlist.proofs.FieldLoops.{regions-whole}
use borrow.Author.Rules.{rules}
use native.Mathlib.Omega.{arith}
use Rattle.holdlist.proofs.filling.fill_regions.Goals as goal

pub loop-i-init : goal.loop-i-init
loop-i-init g c = let r = c.region_count-i-end.ensures in
    (r.value, r.upper_bound, turns_start _ _ _ _ _ (rw (r.value, regions-whole _ _ _ c.requires.fillable) c.requires.field_bound) (search rules) (search rules))

pub fill_region-next-requires : goal.fill_region-next-requires
fill_region-next-requires g c = record { fillable = c.requires.fillable; i_bound = omega arith; i_bound_2 = turn-counted c.loop-i.invariant.2 c.loop-i-test.true }

pub overflow_add-filled : goal.overflow_add-filled
overflow_add-filled g c = search turn-steps

pub loop-i-preserved : goal.loop-i-preserved
loop-i-preserved g c = search turning

pub returns : goal.returns
returns g c = let v = c.loop-i.invariant in
    fills_as (rw v.0 (regions-whole _ _ _ c.requires.fillable)) (turns-end v.2 c.loop-i-test.false)

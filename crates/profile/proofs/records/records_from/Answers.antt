-- A record that is taken is passed over; one with a fault, or the end, is where reading stops.
-- Assumes nothing.
use mathlib.Core.Path.{refl, ap, ◌∙◌}
use native.Mathlib.Omega.{arith}
use Rattle.profile.specs.Reading.{reached_answer}
use Rattle.profile.proofs.OneRecord.{faulty, further, inside, reach_on, reach_stop, reach_end}
use Rattle.profile.proofs.records.records_from.Goals as goal

pub loop-at-smaller : goal.loop-at-smaller
loop-at-smaller c = let l = c.loop-at in
    omega (arith, c.loop-at-test.true, further c.args.script.now l.at l.profile _ c.in-Ok.ensures refl)

pub loop-at-preserved : goal.loop-at-preserved
loop-at-preserved c = let l = c.loop-at in
    record {
      within = inside c.args.script.now l.at l.profile _ c.in-Ok.ensures refl l.invariant.within;
      on = reach_on c.args.script.now l.at l.profile _ c.in-Ok.ensures refl ∙ l.invariant.on;
    }

pub returns-in-Err : goal.returns-in-Err
returns-in-Err c = let l = c.loop-at in
    reach_stop c.args.script.now l.at l.profile _ c.in-Err.ensures c.loop-at-test.true (faulty _)
    ∙ ap (reached_answer c.args.script.now) l.invariant.on

pub returns : goal.returns
returns c = let l = c.loop-at in
    reach_end c.args.script.now l.at l.profile l.invariant.within c.loop-at-test.false ∙ ap (reached_answer c.args.script.now) l.invariant.on

-- What the check leaves open, by the laws cited.
-- Assumes nothing.
use mathlib.Core.Path.{◌≡◌, ◌∙◌}
use native.Mathlib.Omega.{arith}
use borrow.Author.Rules.{rules}
use Rattle.level.specs.Edges.{stop_after}
use Rattle.level.proofs.Stopping.{stop_is, ready_stop, stretching_none, stretching_more, stretching_all, stretched_ends, stretched_words}
use Rattle.level.proofs.stops.stretches.Goals as goal

pub loop-p-init : goal.loop-p-init
loop-p-init c = stretching_none _ _ _

pub returns-then-ends-n : goal.returns-then-ends-n
returns-then-ends-n c = let l = c.loop-p in
    record { value = omega (arith, l.invariant.few, l.invariant.ends.within, l.invariant.words.within, l.invariant.ends.long, l.invariant.words.long); ends_after = stretched_ends l.invariant; words_after = stretched_words l.invariant }

pub loop-p-smaller : goal.loop-p-smaller
loop-p-smaller c =
    let stop : (c.reach_at-here.result.stop ≡ stop_after c.args.line c.loop-p.p) = c.reach_at-here.ensures.stop_value ∙ ready_stop c.args.line c.loop-p.p c.loop-p-test.true c.prepare-ready.ensures (search rules) in
    let s = stop_is c.args.line c.loop-p.p c.loop-p-test.true in
    omega (arith, stop, s.later, s.within)

pub loop-p-preserved : goal.loop-p-preserved
loop-p-preserved c =
    let stop : (c.reach_at-here.result.stop ≡ stop_after c.args.line c.loop-p.p) = c.reach_at-here.ensures.stop_value ∙ ready_stop c.args.line c.loop-p.p c.loop-p-test.true c.prepare-ready.ensures (search rules) in
    stretching_more c.loop-p.invariant c.loop-p-test.true stop
    (c.reach_at-here.ensures.word_value ∙ c.prepare-ready.ensures.words c.loop-p.p (search rules)) (omega arith) (omega arith)

pub returns : goal.returns
returns c = let l = c.loop-p in
    record { value = omega (arith, stretching_all l.invariant (omega arith), l.invariant.ends.within, l.invariant.words.within); ends_after = stretched_ends l.invariant; words_after = stretched_words l.invariant }

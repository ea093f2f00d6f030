-- What the check leaves open, by the laws cited.
-- Assumes nothing.
use mathlib.Core.Path.{◌≡◌, sym, ◌∙◌}
use native.Mathlib.Omega.{arith}
use borrow.Author.Rules.{rules}
use Rattle.level.specs.Word.{word_of}
use Rattle.level.specs.Edges.{stop_after}
use Rattle.level.proofs.Stopping.{stop_is, ready_stop}
use Rattle.level.proofs.Changing.{change_here, change_past, change_skip}
use Rattle.level.proofs.nearest.change_from.Goals as goal

pub returns-then-here-w : goal.returns-then-here-w
returns-then-here-w c =
    let word : (word_of c.args.line c.loop-q.q ≡ c.reach_at-here.result.word) = sym (c.reach_at-here.ensures.word_value ∙ c.prepare-ready.ensures.words c.loop-q.q (search rules)) in
    let a = c.args in
    change_here a.line a.w c.loop-q-test.true (λ e. c.if-here-w.true (sym word ∙ e)) ∙ sym c.loop-q.invariant

pub loop-q-smaller : goal.loop-q-smaller
loop-q-smaller c =
    let stop : (c.reach_at-here.result.stop ≡ stop_after c.args.line c.loop-q.q) = c.reach_at-here.ensures.stop_value ∙ ready_stop c.args.line c.loop-q.q c.loop-q-test.true c.prepare-ready.ensures (search rules) in
    let s = stop_is c.args.line c.loop-q.q c.loop-q-test.true in
    omega (arith, stop, s.later, s.within)

pub loop-q-preserved : goal.loop-q-preserved
loop-q-preserved c =
    let word : (word_of c.args.line c.loop-q.q ≡ c.reach_at-here.result.word) = sym (c.reach_at-here.ensures.word_value ∙ c.prepare-ready.ensures.words c.loop-q.q (search rules)) in
    let stop : (c.reach_at-here.result.stop ≡ stop_after c.args.line c.loop-q.q) = c.reach_at-here.ensures.stop_value ∙ ready_stop c.args.line c.loop-q.q c.loop-q-test.true c.prepare-ready.ensures (search rules) in
    let a = c.args in
    c.loop-q.invariant
    ∙ change_skip a.line a.w stop c.loop-q-test.true (word ∙ c.if-here-w.false)

pub returns : goal.returns
returns c = change_past c.args.line c.args.w (omega arith) ∙ sym c.loop-q.invariant

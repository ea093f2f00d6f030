-- What the check leaves open, by the laws cited.
-- Assumes nothing.
use native.Mathlib.Omega.{arith}
use mathlib.Core.Path.{◌≡◌, ◌∙◌}
use lib.ListN.{length}
use borrow.Author.Rules.{rules}
use Rattle.level.proofs.Stopping.{along_none, stretches_few}
use Rattle.level.specs.Edges.{Stretch, stretches_of}
use Rattle.holdlist.proofs.LineLoops.{pushed_start, pushed-counted, pushed-steps, pushed_more, pushed-all, stretches_lent, next_stretch, stretches_end}
use Rattle.holdlist.proofs.filling.EdgesEngine.fill_line.Goals as goal

pub loop-end-init : goal.loop-end-init
loop-end-init c = let line = c.args.line in
    let s = c.stretches-n.ensures in
    let all : c.stretches-n.result ≡ length (stretches_of line) = omega (arith, s.value, stretches_few line, c.requires.length_bound) in (
      pushed_start line _ _ _ c.requires.length_bound_2 (search rules) (search rules),
      record {
        ends = rw (c.into_iter-end-iterator.ensures.into_iter_gives, c.zip-end-items.ensures.first) (c.iter.ensures.rest ∙ stretches_lent line (λ (s : Stretch). s.end) _ _ _ all s.ends_after);
        words = rw c.into_iter-end-iterator.ensures.into_iter_gives (c.zip-end-items.ensures.second.0 ∙ stretches_lent line (λ (s : Stretch). s.word) _ _ _ all s.words_after);
        along = along_none line;
      },
    )

pub overflow_sub-end : goal.overflow_sub-end
overflow_sub-end c = omega (arith, (next_stretch c.loop-end.invariant.1 c.loop-end.end-iterator c.next.new.self c.loop-end.yielded_by c.in-Some.is c.next.ensures.steps).later)

pub hold-next-requires : goal.hold-next-requires
hold-next-requires c = let v = c.loop-end.invariant in
    let n = next_stretch v.1 c.loop-end.end-iterator c.next.new.self c.loop-end.yielded_by c.in-Some.is c.next.ensures.steps in
    pushed-counted v.0 _ (omega (arith, n.later, n.within, c.from.ensures))

pub overflow_add-filled : goal.overflow_add-filled
overflow_add-filled c = let v = c.loop-end.invariant in
    let n = next_stretch v.1 c.loop-end.end-iterator c.next.new.self c.loop-end.yielded_by c.in-Some.is c.next.ensures.steps in
    omega (arith, pushed-steps v.0 _ _ (omega (arith, n.later, n.within, c.from.ensures)) c.hold-next.ensures)

pub loop-end-preserved : goal.loop-end-preserved
loop-end-preserved c = let v = c.loop-end.invariant in
    let n = next_stretch v.1 c.loop-end.end-iterator c.next.new.self c.loop-end.yielded_by c.in-Some.is c.next.ensures.steps in
    let free = c.free_from-c.ensures in
    (pushed_more v.0 _ _ _ n.within (rw c.from.ensures n.made) free.in_counts free.in_words c.hold-next.ensures, n.reached)

pub returns : goal.returns
returns c = let v = c.loop-end.invariant in pushed-all v.0 (stretches_end v.1 c.loop-end.end-iterator c.next.new.self c.loop-end.yielded_by c.in-None.is c.next.ensures.steps)

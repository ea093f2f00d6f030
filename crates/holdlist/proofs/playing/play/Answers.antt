-- What the check leaves open, by the laws cited.
-- Assumes nothing.
use mathlib.Core.Path.{◌∙◌}
use Rattle.holdlist.proofs.Player.{play_walk, playing_here, playing_on, playing_end, play_no_counts, play_no_words}
use Rattle.holdlist.proofs.playing.play.Goals as goal

pub returns-then-counts-used : goal.returns-then-counts-used
returns-then-counts-used c = search play_no_counts

pub returns-then-words-used : goal.returns-then-words-used
returns-then-words-used c = search play_no_words

pub loop-count-init : goal.loop-count-init
loop-count-init c = record { rest = play_walk _ _ _ _ c.if-counts-used.false c.if-words-used.false ∙ rw (c.into_iter-count-iterator.ensures.into_iter_gives, c.zip-count-items.ensures.first, c.iter.ensures.rest, c.zip-count-items.ensures.second.0) }

pub returns-then-left-count : goal.returns-then-left-count
returns-then-left-count c = playing_here c.loop-count.invariant c.next.new.self c.next.ensures.steps c.in-Some.is (rw c.from-count.ensures at c.if-left-count.true)

pub loop-count-preserved : goal.loop-count-preserved
loop-count-preserved c = rw c.from-count.ensures (playing_on c.loop-count.invariant c.next.new.self c.next.ensures.steps c.in-Some.is (rw c.from-count.ensures at c.if-left-count.false))

pub returns : goal.returns
returns c = playing_end c.loop-count.invariant c.next.new.self c.next.ensures.steps c.in-None.is

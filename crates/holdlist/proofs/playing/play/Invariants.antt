-- `playing::play` meets its contract. The loop's invariant: to play the position is to play what is left of it on the steps still to come (`Playing`).
-- Assumes nothing.
use Rattle.holdlist.proofs.Player.{Playing}
use Rattle.holdlist.proofs.playing.play.Given as goal

abbrev pub invariant-loop-count : goal.invariant-loop-count
invariant-loop-count l = Playing l.fn.counts l.fn.words l.used l.position l.count-iterator l.left

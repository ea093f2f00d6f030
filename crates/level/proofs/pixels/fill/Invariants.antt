-- The loop has written the words of the pixels that it passed, and the rest is as it was.
-- Assumes nothing.
use Prim.Native.Nat.{◌≤◌}
use lib.ListN.{length}
use Rattle.level.specs.Ready.{ready_word}
use Rattle.level.proofs.Filling.{Filled}
use Rattle.level.proofs.pixels.fill.Given as goal

abbrev pub invariant-loop-p : goal.invariant-loop-p
invariant-loop-p l = Filled (λ k. ready_word l.ready k) l.initial.out l.out l.p × (l.p ≤ l.n) × (l.n ≤ length l.initial.out)

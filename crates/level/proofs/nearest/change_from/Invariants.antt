-- The loop keeps that the first pixel of another word, sought from where it stands, is the one sought from p: where the word is w it is so up to the
-- next stop.
-- Assumes nothing.
use Prim.Native.Nat.{◌-◌}
use mathlib.Core.Path.{◌≡◌}
use Rattle.level.proofs.Changing.{change_from}
use Rattle.level.proofs.nearest.change_from.Given as goal

abbrev pub invariant-loop-q : goal.invariant-loop-q
invariant-loop-q l = change_from l.line l.w l.p ≡ change_from l.line l.w l.q

abbrev pub decreases-loop-q : goal.decreases-loop-q
decreases-loop-q l = l.line.length - l.q

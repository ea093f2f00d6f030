-- The digits before are read, and the number is cut.
-- Assumes nothing.
use Prim.Native.Nat.{min}
use mathlib.Core.Path.{◌≡◌}
use lib.ListN.{take}
use Rattle.holdlist.specs.Text.{value_of}
use Rattle.ask.proofs.Asking.{cap}
use Rattle.ask.proofs.question.value_of.Given as goal

abbrev pub invariant-loop-d : goal.invariant-loop-d
invariant-loop-d l = l.value ≡ min (value_of (take l.d-index l.digits)) cap

-- The loop has pushed the regions passed (`Turns`); all of them are the field's words.
-- Assumes nothing.
use Prim.Native.Nat.{◌≤◌}
use mathlib.Core.Path.{◌≡◌}
use Rattle.profile.specs.Geometry.{region_count}
use Rattle.holdlist.specs.Fills.{region_words}
use Rattle.holdlist.proofs.Fills.{Turns}
use Rattle.holdlist.proofs.filling.fill_regions.Given as goal

abbrev pub invariant-loop-i : goal.invariant-loop-i
invariant-loop-i g l = (l.i-end ≡ region_count l.field) × (l.i-end ≤ 7) × Turns (region_words l.version l.tables l.field) l.i-end l.initial.filled.held l.initial.counts l.initial.words l.i l.filled.steps l.filled.held l.counts l.words

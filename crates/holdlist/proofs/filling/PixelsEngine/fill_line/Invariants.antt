-- The words up to a pixel are pushed, and the word there for one pixel: those gone over are the line's.
-- Assumes nothing.
use mathlib.Core.Path.{◌≡◌}
use Rattle.level.specs.Fieldwords.{line_words}
use Rattle.holdlist.proofs.LineLoops.{Pushed}
use Rattle.holdlist.proofs.filling.PixelsEngine.fill_line.Given as goal

abbrev pub invariant-loop-word : goal.invariant-loop-word
invariant-loop-word l = let line = l.fn.line in Pushed line l.initial.filled.held l.initial.counts l.initial.words l.word-index l.filled.steps l.filled.held l.counts l.words × (l.word-items ≡ line_words line line.length)

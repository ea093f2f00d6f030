-- The loop has pushed the lines passed (`Turns`); each turn pushes the next, made of what the region's lines share, into what is free of both lists.
-- Assumes nothing.
use Prim.Native.Nat.{◌+◌, ◌-◌}
use Rattle.profile.specs.Geometry.{first_line, end_line}
use Rattle.level.specs.Fieldwords.{words_on_line}
use Rattle.holdlist.proofs.Fills.{Turns}
use Rattle.holdlist.proofs.filling.fill_region.Given as goal

abbrev pub invariant-loop-number : goal.invariant-loop-number
invariant-loop-number g l = let field = l.fn.field in
    let first = first_line field l.i in
    Turns (λ k. words_on_line l.version l.fn.tables field (first + k)) (end_line field l.i - first) l.initial.filled.held l.initial.counts l.initial.words (l.number - first) l.filled.steps l.filled.held l.counts l.words

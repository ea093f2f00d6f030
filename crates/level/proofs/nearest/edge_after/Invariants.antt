-- The loop keeps that the edge is the first pixel of another word from where it stands: a line has it, or it is not before the next line.
-- Past the last line there is none.
-- Assumes nothing.
use Rattle.level.specs.Place.{place_of, change_after}
use Rattle.level.proofs.Changing.{Seeking}
use Rattle.level.proofs.nearest.edge_after.Given as goal

abbrev pub invariant-loop-n : goal.invariant-loop-n
invariant-loop-n l = Seeking l.version l.tables l.field l.w (change_after l.version l.tables l.field (place_of l.tables l.field l.line l.pixel)) l.n l.p

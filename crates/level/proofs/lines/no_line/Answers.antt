-- Zeros, and what absent items show.
-- Assumes nothing.
use Rattle.level.specs.Line.{no_line}
use Rattle.level.proofs.lines.no_line.Goals as goal

pub returns : goal.returns
returns c = unfold no_line in cc

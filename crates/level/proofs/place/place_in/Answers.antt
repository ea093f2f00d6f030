-- The line is the last of the region's that starts at or before pixel n, and what is past its start is the pixel.
-- Assumes nothing.
use Rattle.level.proofs.Divided.{line_divided}
use Rattle.level.proofs.place.place_in.Goals as goal

pub returns : goal.returns
returns c = rw (c.line_by_division-line.ensures.value, c.sequence_of-sequence.ensures, c.region_at-region.ensures)
    (line_divided c.args.tables c.args.field c.requires.ordered c.args.i c.args.n c.requires.i_bound c.requires.n_bound)

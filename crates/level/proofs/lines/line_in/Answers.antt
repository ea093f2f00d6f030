-- The line made of what its region's lines share is the definition's (`strip_line`).
-- Assumes nothing.
use mathlib.Core.Path.{◌∙◌}
use Rattle.level.specs.Strips.{line_on}
use Rattle.level.proofs.Words.{strip_line}
use Rattle.level.proofs.lines.line_in.Goals as goal

pub returns : goal.returns
returns c = let a = c.args in
    c.line_on.ensures
    ∙ (λ j. line_on (c.strip_of.ensures j) a.line)
    ∙ strip_line a.version a.tables a.field a.i a.line

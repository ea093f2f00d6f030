-- Past the last line there is none; before it the line is that of its region, and its number fits 16 bits.
-- Assumes nothing.
use mathlib.Core.Path.{◌∙◌, ap}
use borrow.Author.Tests.{lt-ltb, le-ltb}
use Rattle.level.specs.Line.{line_in, line_of}
use Rattle.level.proofs.lines.line_of.Goals as goal

pub returns-then-field-line : goal.returns-then-field-line
returns-then-field-line c = unfold line_of in rw (le-ltb _ _ c.if-field-line.true) c.no_line.ensures

pub returns : goal.returns
unfolding line_of
returns c = let a = c.args in
    rw (lt-ltb _ _ c.if-field-line.false) (c.line_in.ensures ∙ ap (line_in a.version a.tables a.field a.line) c.region_of.ensures.value)

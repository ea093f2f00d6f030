-- Each part of the line is the definition's.
-- Assumes nothing.
use mathlib.Core.Path.{◌∙◌, ap}
use mathlib.Core.Bool.{Bool, ◌&&◌}
use lib.ListN.{get_or}
use Rattle.std.specs.Bool.{then_some}
use Rattle.profile.specs.Values.{empty_shutter}
use Rattle.profile.specs.Rules.{has_second}
use Rattle.level.specs.Line.{gates_here, shutter_here, origin_of}
use Rattle.level.specs.Strips.{line_on}
use Rattle.level.proofs.lines.line_on.Goals as goal

pub returns : goal.returns
unfolding line_on
returns c = let x = c.args in
    let s = x.strip in
    let here = c.on_gate_line-here.ensures in
    let long = c.length_on-length.ensures in
    λ i.
    record {
      length = long i;
      run = s.run;
      pattern = s.pattern;
      start = s.sequence.start;
      origin = (c.origin_of.ensures ∙ ap (origin_of s.mode) c.pixels_before-before.ensures) i;
      repetitions = c.repetitions.ensures i;
      mask1 = c.mask_of.ensures i;
      mask2 = c.mask_of-2.ensures i;
      second = (c.second_here.ensures ∙ ap (λ (c : Bool). then_some (has_second s.field && c) s.second) here) i;
      gates = (c.gates_here.ensures ∙ ap (gates_here s.gates) here) i;
      subck = c.subck_here.ensures i;
      mshut = (c.shutter_here.ensures ∙ ap (shutter_here (get_or s.shutters 0 empty_shutter) x.line) long) i;
      strobe = (c.shutter_here-2.ensures ∙ ap (shutter_here (get_or s.shutters 1 empty_shutter) x.line) long) i;
    }

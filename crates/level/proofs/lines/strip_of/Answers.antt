-- Each part is the definition's, first of the region and sequence as they are answered, then of the definition's.
-- Assumes nothing.
use mathlib.Core.Path.{◌≡◌, ◌∙◌, ap}
use Rattle.profile.specs.Geometry.{sequence_of}
use Rattle.profile.specs.declared.Region.{Region}
use Rattle.level.specs.Strips.{strip_with}
use Rattle.level.proofs.lines.strip_of.Goals as goal

pub returns : goal.returns
unfolding strip_with
returns c = let x = c.args in
    let t = x.tables in
    let region = c.region_at-region.result in
    let s = c.sequence_of-sequence.result in
    let strip : _ ≡ strip_with x.version t x.field region s =
    λ i.
    record {
      run = c.run_of.ensures i;
      mode = region.mode;
      first = region.first;
      sequence = s;
      pattern = c.pattern_of.ensures i;
      field = x.field;
      second = c.pattern_of-2.ensures i;
      gates = t.gates;
      subck = t.subck;
      shutters = t.shutters;
    } in
    strip
    ∙ ap (strip_with x.version t x.field region) c.sequence_of-sequence.ensures
    ∙ ap (λ (r : Region). strip_with x.version t x.field r (sequence_of t r.sequence)) c.region_at-region.ensures

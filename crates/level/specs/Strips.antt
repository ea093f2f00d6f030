-- Nobody has to believe this file: it says what the lines of a region share, and how code makes a line of that.
-- proofs/Words.antt, strip-line, shows that it is Line's.
-- Assumes nothing.
use Rattle.std.specs.Prelude.{ℕ, ◌+◌, cond, ◌&&◌, get_or, eqb}
use Rattle.std.specs.Bool.{then_some}
use Rattle.profile.specs.Values.{empty_shutter}
use Rattle.profile.specs.Patterns.{pattern_of}
use Rattle.profile.specs.Geometry.{region_at, sequence_of, product_pixels, repetitions}
use Rattle.profile.specs.Rules.{pair_on, has_second, second_of}
use Rattle.profile.specs.declared.Region.{Region}
use Rattle.profile.specs.declared.Sequence.{Sequence}
use Rattle.profile.specs.declared.Tables.{Tables}
use Rattle.profile.specs.declared.Field.{Field}
use Rattle.level.specs.declared.Line.{Line}
use Rattle.level.specs.declared.Strip.{Strip}
use Rattle.level.specs.Line.{on_gate_line, gates_here, subck_here, shutter_here, run_of, origin_of}

-- of region r with sequence s
unfoldable pub strip_with : ℕ → Tables → Field → Region → Sequence → Strip
strip_with version t f r s =
    record {
      run = run_of version r.mode;
      mode = r.mode;
      first = r.first;
      sequence = s;
      pattern = pattern_of t.registers s.pattern;
      field = f;
      second = second_of t f;
      gates = t.gates;
      subck = t.subck;
      shutters = t.shutters;
    }

-- of region i
abbrev pub strip_of : ℕ → Tables → Field → ℕ → Strip
strip_of version t f i = strip_with version t f (region_at f i) (sequence_of t (region_at f i).sequence)

abbrev pub length_on : Strip → ℕ → ℕ
length_on s line = cond (eqb (line + 1) s.field.lines) s.field.last s.sequence.length

-- the region's pixels before a line, as a product
abbrev pub pixels_on : Strip → ℕ → ℕ
pixels_on s line = product_pixels s.first s.field.lines s.field.last s.sequence.length line

unfoldable pub line_on : Strip → ℕ → Line
line_on s line =
    record {
      length = length_on s line;
      run = s.run;
      pattern = s.pattern;
      start = s.sequence.start;
      origin = origin_of s.mode (pixels_on s line);
      repetitions = repetitions s.sequence line;
      mask1 = then_some (pair_on s.sequence.mask 1) (record { freeze = s.pattern.freeze1; resume = s.pattern.resume1 });
      mask2 = then_some (pair_on s.sequence.mask 2) (record { freeze = s.pattern.freeze2; resume = s.pattern.resume2 });
      second = then_some (has_second s.field && on_gate_line s.field line) s.second;
      gates = gates_here s.gates (on_gate_line s.field line);
      subck = subck_here s.subck s.field.gate line;
      mshut = shutter_here (get_or s.shutters 0 empty_shutter) line (length_on s line);
      strobe = shutter_here (get_or s.shutters 1 empty_shutter) line (length_on s line);
    }

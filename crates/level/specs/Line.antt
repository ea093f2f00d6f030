-- Where everything acts on one line of a field, worked out from the rule version, the tables, the field and the line's number. Here alone a version
-- or a mode decides: the word of a line (specs/Word.antt) looks at neither.
-- Assumes nothing.
use Rattle.std.specs.Prelude.{ℕ, ◌+◌, List, [], ◌∷◌, Bool, false, None, cond, ◌&&◌, ◌||◌, get_or, replicate, ltb, leb, eqb}
use Rattle.std.specs.Bool.{then_some}
use Rattle.profile.specs.Values.{empty_gate, empty_shutter}
use Rattle.profile.specs.Patterns.{empty_pattern, pattern_of}
use Rattle.profile.specs.Geometry.{region_at, region_of, sequence_of, length_in, region_pixels, repetitions, gate_lines}
use Rattle.profile.specs.Rules.{pair_on, has_second, second_of, gate_on}
use Rattle.profile.specs.declared.Mode.{Mode}
use Rattle.profile.specs.declared.Mode.TheVariants.{Plain, Sweep, Multiplier}
use Rattle.profile.specs.declared.Pattern.{Pattern}
use Rattle.profile.specs.declared.Region.{Region}
use Rattle.profile.specs.declared.Sequence.{Sequence}
use Rattle.profile.specs.declared.Gate.{Gate}
use Rattle.profile.specs.declared.Subck.{Subck}
use Rattle.profile.specs.declared.Shutter.{Shutter}
use Rattle.profile.specs.declared.Tables.{Tables}
use Rattle.profile.specs.declared.Field.{Field}
use Rattle.level.specs.declared.Run.{Run}
use Rattle.level.specs.declared.Run.TheVariants.{Afresh, Carried, Multiplied}
use Rattle.level.specs.declared.Pulse.{Pulse}
use Rattle.level.specs.declared.Span.{Span}
use Rattle.level.specs.declared.Line.{Line}

-- one of a list's numbers
abbrev pub among : ℕ → List ℕ → Bool
among x [] = false
among x (y ∷ ys) = eqb x y || among x ys

-- whether gates and the second pattern act on a line
abbrev pub on_gate_line : Field → ℕ → Bool
on_gate_line f line = among line (gate_lines f)

-- a gate or SUBCK that is absent: "Absent: 1."
abbrev pub absent_pulse : Pulse
absent_pulse = record { level = 1; toggles = None }

-- a shutter that is absent: "Absent: 0.", the opposite of a level that it has at no pixel
abbrev pub absent_span : Span
absent_span = record { level = 1; from = 0; to = 0 }

-- "VSG: on the gate line, if on, .. else the start level. Absent: 1."
abbrev pub gate_here : Gate → Bool → Pulse
gate_here g here =
    cond g.present
    (record { level = g.level; toggles = then_some (gate_on g && here) (g.toggle1, g.toggle2) })
    absent_pulse

-- VSG1 to VSG5
abbrev pub gates_here : List Gate → Bool → List Pulse
gates_here gates here =
    gate_here (get_or gates 0 empty_gate) here
    ∷ gate_here (get_or gates 1 empty_gate) here
    ∷ gate_here (get_or gates 2 empty_gate) here
    ∷ gate_here (get_or gates 3 empty_gate) here
    ∷ gate_here (get_or gates 4 empty_gate) here
    ∷ []

-- "SUBCK: with suppression s and count c, flips the same way on lines from gate line + s to below gate line + s + c, inside the field;
-- else its start level. Absent: 1."
abbrev pub subck_here : Subck → ℕ → ℕ → Pulse
subck_here s gate line =
    cond s.present
    (record {
      level = s.level;
      toggles = then_some (leb (gate + s.suppressed) line && ltb line (gate + s.suppressed + s.count)) (s.toggle1, s.toggle2);
    })
    absent_pulse

-- "Shutters: active from on, up to but not including off; else the opposite. Absent: 0." Of a line of the given length: before the line
-- of on, and after that of off, at no pixel; on the line of on, from its pixel; on the line of off, up to its pixel; between, at all.
abbrev pub opens_at : Shutter → ℕ → ℕ
opens_at s line = cond (eqb line s.on_line) s.on_pixel 0

abbrev pub closes_at : Shutter → ℕ → ℕ → ℕ
closes_at s line length = cond (eqb line s.off_line) s.off_pixel length

abbrev pub shutter_here : Shutter → ℕ → ℕ → Span
shutter_here s line length =
    cond s.present
    (cond (leb s.on_line line && leb line s.off_line)
    (record { level = s.active; from = opens_at s line; to = closes_at s line length })
    (record { level = s.active; from = 0; to = 0 }))
    absent_span

-- how V1 to V6 run, plain and sweep: by version 1 "each repetition starts afresh"; from 2 on one "takes over the level the last one ended with"
abbrev pub repeated : ℕ → Run
repeated version = cond (ltb version 2) Afresh Carried

abbrev pub run_of : ℕ → Mode → Run
run_of version Plain = repeated version
run_of version Sweep = repeated version
run_of version Multiplier = Multiplied

-- the pixels before the line since the run's start level was set: "Only the start of a line (plain) or of the region (sweep)" sets it, and a
-- multiplier counts from the region's first pixel too
abbrev pub origin_of : Mode → ℕ → ℕ
origin_of Plain before = 0
origin_of Sweep before = before
origin_of Multiplier before = before

-- the line of region r, whose number is i, with sequence s and that sequence's pattern a
unfoldable pub line_with : ℕ → Tables → Field → ℕ → ℕ → Region → Sequence → Pattern → Line
line_with version t f line i r s a =
    record {
      length = length_in t f i line;
      run = run_of version r.mode;
      pattern = a;
      start = s.start;
      origin = origin_of r.mode (region_pixels t f i line);
      repetitions = repetitions s line;
      mask1 = then_some (pair_on s.mask 1) (record { freeze = a.freeze1; resume = a.resume1 });
      mask2 = then_some (pair_on s.mask 2) (record { freeze = a.freeze2; resume = a.resume2 });
      second = then_some (has_second f && on_gate_line f line) (second_of t f);
      gates = gates_here t.gates (on_gate_line f line);
      subck = subck_here t.subck (get_or (gate_lines f) 0 0) line;
      mshut = shutter_here (get_or t.shutters 0 empty_shutter) line (length_in t f i line);
      strobe = shutter_here (get_or t.shutters 1 empty_shutter) line (length_in t f i line);
    }

-- the line in its region i
abbrev pub line_in : ℕ → Tables → Field → ℕ → ℕ → Line
line_in version t f line i =
    line_with version t f line i (region_at f i) (sequence_of t (region_at f i).sequence)
    (pattern_of t.registers (sequence_of t (region_at f i).sequence).pattern)

-- a line that the field does not have: nothing acts, and each output shows what it shows where its item is absent
unfoldable pub no_line : Line
no_line =
    record {
      length = 0;
      run = Afresh;
      pattern = empty_pattern;
      start = 0;
      origin = 0;
      repetitions = 0;
      mask1 = None;
      mask2 = None;
      second = None;
      gates = replicate 5 absent_pulse;
      subck = absent_pulse;
      mshut = absent_span;
      strobe = absent_span;
    }

unfoldable pub line_of : ℕ → Tables → Field → ℕ → Line
line_of version t f line = cond (ltb line f.lines) (line_in version t f line (region_of f line)) no_line

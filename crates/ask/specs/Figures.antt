-- The four numbers that the sentence of a refusal tells besides those that are printed (docs/RULES.md, "Refusals"): by the refusal's number, of the record at its
-- place or of the profile that the script's records give.
-- Assumes nothing.
use Rattle.std.specs.Prelude.{ℕ, ◌+◌, ◌-◌, ◌*◌, List, cond, length, get_or, drop, ltb, leb, eqb}
use Rattle.profile.specs.Bytes.{number_at}
use Rattle.profile.specs.Values.{empty_profile}
use Rattle.profile.specs.Versions.{newest_rules}
use Rattle.profile.specs.Script.{records, read_script}
use Rattle.profile.specs.Patterns.{row_of}
use Rattle.profile.specs.Geometry.{region_at, first_line, gate_of, shutter_of, sequence_at, pattern_at, gate_length, region_size}
use Rattle.profile.specs.declared.Pattern.{Pattern}
use Rattle.profile.specs.declared.Tables.{Tables}
use Rattle.profile.specs.declared.Field.{Field}
use Rattle.profile.specs.declared.Profile.{Profile}
use Rattle.profile.specs.declared.Verdict.{Verdict}
use Rattle.ask.specs.declared.figures.Figures.{Figures}

abbrev pub four_figures : ℕ → ℕ → ℕ → ℕ → Figures
four_figures a b c d = record { first = a; second = b; third = c; fourth = d }

abbrev pub figures : ℕ → ℕ → ℕ → Figures
figures a b c = four_figures a b c 0

abbrev pub no_figures : Figures
no_figures = figures 0 0 0

-- 2: how many bytes are left of the script s from the record on, and how many the record needs; 3, 4, 5: its kind and the length of its body
unfoldable pub record_figures : ℕ → List ℕ → Figures
record_figures n s =
    cond (eqb n 2) (figures (length s) (cond (ltb (length s) 4) 4 (4 + number_at s 0)) 0) (figures (number_at s 2) (number_at s 0) 0)

-- 13: where the run of region i ends, and the region's size
unfoldable pub run_figures : Tables → Field → ℕ → Figures
run_figures t f i =
    figures ((sequence_at t f i).start + (sequence_at t f i).odd * (pattern_at t f i).length) (region_size t f i) 0

-- toggle j of output k of a pattern, both counted from 1
abbrev pub toggle_of : Pattern → ℕ → ℕ → ℕ
toggle_of a k j = get_or (row_of a.toggles (k - 1)) (j - 1) 0

-- 10: the toggle before the one that the verdict names, that one, and the pattern
unfoldable pub toggle_figures : Tables → Field → Verdict → Figures
toggle_figures t f v =
    figures (toggle_of (pattern_at t f v.place) v.output (v.toggle - 1)) (toggle_of (pattern_at t f v.place) v.output v.toggle)
    (sequence_at t f v.place).pattern

-- at region i. 7: its first line, and the line count; 8: its sequence; 9, 11: its pattern and its mask; 12: its counts, odd and even
unfoldable pub region_figures : Tables → Field → ℕ → ℕ → Figures
region_figures t f n i =
    cond (eqb n 7) (figures (first_line f i) f.lines 0)
    (cond (eqb n 8) (figures (region_at f i).sequence 0 0)
    (cond (eqb n 12) (figures (sequence_at t f i).odd (sequence_at t f i).even 0)
    (cond (eqb n 13) (run_figures t f i) (figures (sequence_at t f i).pattern (sequence_at t f i).mask 0))))

-- 14: the gate line, the second one, the line count, and the second pattern; 15: the toggles of gate i, and the length of the shortest gate line; 16: SUBCK's
-- toggles, and the suppressed lines; 17: the lines on which shutter i goes on and off
unfoldable pub field_figures : Tables → Field → ℕ → ℕ → Figures
field_figures t f n i =
    cond (eqb n 14) (four_figures f.gate f.gate2 f.lines f.second)
    (cond (eqb n 15) (figures (gate_of t i).toggle1 (gate_of t i).toggle2 (gate_length t f))
    (cond (eqb n 16) (figures t.subck.toggle1 t.subck.toggle2 t.subck.suppressed)
    (figures (shutter_of t i).on_line (shutter_of t i).off_line 0)))

-- 7 to 17, of a profile
abbrev pub profile_figures : Profile → Verdict → Figures
profile_figures p v =
    cond (eqb v.number 10) (toggle_figures p.tables p.field v)
    (cond (leb v.number 13) (region_figures p.tables p.field v.number v.place)
    (field_figures p.tables p.field v.number v.place))

-- of a script and what reading it answers: zeros where it is accepted, too long, or has no field
unfoldable pub figures_by : List ℕ → Verdict → Figures
figures_by s v =
    cond (leb v.number 1) no_figures
    (cond (leb v.number 5) (record_figures v.number (drop v.place s))
    (cond (leb v.number 6) no_figures (profile_figures (records 0 0 s empty_profile).profile v)))

unfoldable pub figures_of : List ℕ → Figures
figures_of s = figures_by s (read_script newest_rules s).verdict

-- The words before the table of registers: a line as it was, with its patterns read by 24k and an offset (profile's proofs/Before.antt), and that
-- every line, every word of a field and every answer of a level or a place is the same. Only a line's two patterns rest on how patterns are read.
-- Assumes nothing.
use Prim.Native.Nat.{ℕ}
use mathlib.Core.Path.{◌≡◌, refl, ap, ◌∙◌}
use mathlib.Core.Bool.{cond, ◌&&◌}
use mathlib.Core.List.{List}
use lib.Dec.{ltb}
use lib.ListN.{length, get_or}
use Rattle.std.specs.Bool.{then_some}
use Rattle.profile.specs.Lists.{chunks}
use Rattle.profile.specs.Values.{Sized, empty_shutter, accepted, refused, accepts}
use Rattle.profile.specs.Patterns.{pattern_of}
use Rattle.profile.specs.Geometry.{region_at, region_of, sequence_of, length_in, line_length, region_pixels, has_pixel, repetitions, gate_lines}
use Rattle.profile.specs.Rules.{pair_on, has_second}
use Rattle.profile.specs.declared.Pattern.{Pattern}
use Rattle.profile.specs.declared.Region.{Region}
use Rattle.profile.specs.declared.Sequence.{Sequence}
use Rattle.profile.specs.declared.Tables.{Tables}
use Rattle.profile.specs.declared.Field.{Field}
use Rattle.profile.specs.declared.Profile.{Profile}
use Rattle.profile.specs.declared.Verdict.{Verdict}
use Rattle.profile.specs.declared.Ruleset.{Ruleset}
use Rattle.profile.proofs.Before.{pattern_before, pattern_before_lem, check_before, check_before_lem}
use Rattle.level.specs.Line.{among, gates_here, subck_here, shutter_here, run_of, origin_of, line_with, no_line, line_of}
use Rattle.level.specs.Word.{word_of}
use Rattle.level.specs.Fieldwords.{line_words, field_words}
use Rattle.level.specs.Place.{no_level, level_answer, no_place, place_answer, locate_answer}
use Rattle.level.specs.declared.Line.{Line}
use Rattle.level.specs.Place.{LevelAnswer}
use Rattle.level.specs.Place.{Located}

-- the line of region r, whose number is i, with sequence s and that sequence's pattern a, a second pattern that is read by its number, and
-- the given gate lines
abbrev line_with_by : ℕ → (ℕ → Pattern) → List ℕ → Tables → Field → ℕ → ℕ → Region → Sequence → Pattern → Line
line_with_by version pattern gates t f line i r s a =
    record {
      length = length_in t f i line;
      run = run_of version r.mode;
      pattern = a;
      start = s.start;
      origin = origin_of r.mode (region_pixels t f i line);
      repetitions = repetitions s line;
      mask1 = then_some (pair_on s.mask 1) (record { freeze = a.freeze1; resume = a.resume1 });
      mask2 = then_some (pair_on s.mask 2) (record { freeze = a.freeze2; resume = a.resume2 });
      second = then_some (has_second f && among line gates) (pattern f.second);
      gates = gates_here t.gates (among line gates);
      subck = subck_here t.subck (get_or gates 0 0) line;
      mshut = shutter_here (get_or t.shutters 0 empty_shutter) line (length_in t f i line);
      strobe = shutter_here (get_or t.shutters 1 empty_shutter) line (length_in t f i line);
    }

abbrev line_by : ℕ → (ℕ → Pattern) → List ℕ → Tables → Field → ℕ → ℕ → Line
line_by version pattern gates t f line i =
    line_with_by version pattern gates t f line i (region_at f i) (sequence_of t (region_at f i).sequence) (pattern (sequence_of t (region_at f i).sequence).pattern)

unfoldable pub line_where : ℕ → (ℕ → Pattern) → List ℕ → Tables → Field → ℕ → Line
line_where version pattern gates t f line = cond (ltb line f.lines) (line_by version pattern gates t f line (region_of f line)) no_line

-- the words of a field by its lines, and what is answered of a level and a place by the check's verdict and the line
abbrev pub words_by : (ℕ → Line) → Tables → Field → List ℕ
words_by lines t f = chunks f.lines (λ line. line_words (lines line) (line_length t f line))

abbrev pub level_by : Verdict → (ℕ → Line) → Tables → Field → ℕ → ℕ → LevelAnswer
level_by v lines t f line pixel =
    cond (accepts v)
    (cond (has_pixel t f line pixel) (record { verdict = accepted; word = word_of (lines line) pixel }) (no_level (refused 19 0)))
    (no_level v)

abbrev pub locate_by : Verdict → Profile → ℕ → Located
locate_by v p n = cond (accepts v) (place_answer p.tables p.field n) (no_place v)

pub line_before : ℕ → Tables → Field → ℕ → Line
line_before version t f line = line_where version (pattern_before t.registers) (gate_lines f) t f line

pub words_before : ℕ → Tables → Field → List ℕ
words_before version t f = words_by (line_before version t f) t f

pub level_before : ℕ → Profile → ℕ → ℕ → LevelAnswer
level_before version p line pixel = level_by (check_before p) (line_before version p.tables p.field) p.tables p.field line pixel

pub line_where_lem : (version : ℕ) (t : Tables) (f : Field) (line : ℕ) → line_of version t f line ≡ line_where version (pattern_of t.registers) (gate_lines f) t f line
unfolding line_of line_with line_where
line_where_lem version t f line = refl

pub line_before_lem : (version : ℕ) (t : Tables) (f : Field) (line : ℕ) → length t.registers ≡ 240 → line_of version t f line ≡ line_before version t f line
unfolding line_before
line_before_lem version t f line e =
    line_where_lem version t f line ∙ ap (λ (pattern : ℕ → Pattern). line_where version pattern (gate_lines f) t f line) (λ i k. pattern_before_lem t.registers e k i)

-- every word of a field
pub words-before : (version : ℕ) (t : Tables) (f : Field) → length t.registers ≡ 240 → field_words version t f ≡ words_before version t f
unfolding field_words words_before
words-before version t f e =
    ap (λ (lines : ℕ → Line). words_by lines t f) (λ i line. line_before_lem version t f line e i)

-- and every level that is asked for
pub level_before_lem : (rules : Ruleset) (p : Profile) (line pixel : ℕ) → Sized p → level_answer rules p line pixel ≡ level_before rules.version p line pixel
unfolding level_answer level_before
level_before_lem rules p line pixel z = rw (check_before_lem rules p z, line_before_lem rules.version p.tables p.field line z.registers)

pub locate_before : Profile → ℕ → Located
locate_before p n = locate_by (check_before p) p n

pub locate_before_lem : (rules : Ruleset) (p : Profile) (n : ℕ) → Sized p → locate_answer rules p n ≡ locate_before p n
unfolding locate_answer locate_before
locate_before_lem rules p n z = rw (check_before_lem rules p z)

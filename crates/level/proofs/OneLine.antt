-- The words before there was a second gate line: a line as it was, on which gates and the second pattern act where it is the field's one gate line,
-- and that of a profile without a second gate line every line, every word and every answer of a level or a place is the same.
-- Assumes nothing.
use Prim.Native.Nat.{ℕ}
use mathlib.Core.Path.{◌≡◌, sym, ap, ◌∙◌}
use mathlib.Core.List.{List, [], ◌∷◌}
use Rattle.profile.specs.Values.{none, accepts}
use Rattle.profile.specs.Patterns.{pattern_of}
use Rattle.profile.specs.Rules.{check_profile}
use Rattle.profile.specs.declared.Tables.{Tables}
use Rattle.profile.specs.declared.Field.{Field}
use Rattle.profile.specs.declared.Profile.{Profile}
use Rattle.profile.specs.declared.Ruleset.{Ruleset}
use Rattle.profile.proofs.Laws.{by_cases}
use Rattle.profile.proofs.OneLine.{OneLine, one_line, accepted_one, check_before, check_before_lem}
use Rattle.level.specs.Line.{line_of}
use Rattle.level.specs.Fieldwords.{field_words}
use Rattle.level.specs.Place.{level_answer, locate_answer}
use Rattle.level.specs.declared.Line.{Line}
use Rattle.level.specs.Place.{LevelAnswer}
use Rattle.level.specs.Place.{Located}
use Rattle.level.proofs.Before.{line_where, line_where_lem, words_by, level_by, locate_by}

pub line_before : ℕ → Tables → Field → ℕ → Line
line_before version t f line = line_where version (pattern_of t.registers) (f.gate ∷ []) t f line

pub words_before : ℕ → Tables → Field → List ℕ
words_before version t f = words_by (line_before version t f) t f

module _ (version : ℕ) (t : Tables) (f : Field) (e : f.gate2 ≡ none) where
  pub line_before_lem : (line : ℕ) → line_of version t f line ≡ line_before version t f line
  unfolding line_before
  line_before_lem line = line_where_lem version t f line ∙ ap (λ (gates : List ℕ). line_where version (pattern_of t.registers) gates t f line) (one_line f e)

  -- every word of a field
  pub words-before : field_words version t f ≡ words_before version t f
  unfolding field_words words_before
  words-before = ap (λ (lines : ℕ → Line). words_by lines t f) (λ i line. line_before_lem line i)

-- and every level that is asked for
pub level_before : ℕ → Profile → ℕ → ℕ → LevelAnswer
level_before version p line pixel = level_by (check_before p) (line_before version p.tables p.field) p.tables p.field line pixel

pub level_before_lem : (rules : Ruleset) (p : Profile) (line pixel : ℕ) → OneLine p.field
    → level_answer rules p line pixel ≡ level_before rules.version p line pixel
unfolding level_answer level_before
level_before_lem rules p line pixel h =
    by_cases (accepts (check_profile rules p))
    (λ a. rw (line_before_lem rules.version p.tables p.field (accepted_one rules p h a) line, check_before_lem rules p h))
    (λ a. rw (a, sym (ap accepts (check_before_lem rules p h)) ∙ a, check_before_lem rules p h))

pub locate_before : Profile → ℕ → Located
locate_before p n = locate_by (check_before p) p n

pub locate_before_lem : (rules : Ruleset) (p : Profile) (n : ℕ) → OneLine p.field → locate_answer rules p n ≡ locate_before p n
unfolding locate_answer locate_before
locate_before_lem rules p n h = rw (check_before_lem rules p h)

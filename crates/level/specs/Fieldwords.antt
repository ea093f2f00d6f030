-- The words of a field by a rule version: "Pixels run line by line".
-- Assumes nothing.
use Rattle.std.specs.Prelude.{ℕ, List, [], ◌∷◌}
use Rattle.profile.specs.Lists.{chunks}
use Rattle.profile.specs.Geometry.{line_length}
use Rattle.profile.specs.declared.Tables.{Tables}
use Rattle.profile.specs.declared.Field.{Field}
use Rattle.level.specs.declared.Line.{Line}
use Rattle.level.specs.Line.{line_of}
use Rattle.level.specs.Word.{word_of}

-- the words of a line's first n pixels
unfoldable pub line_words : Line → ℕ → List ℕ
line_words l n = chunks n (λ p. word_of l p ∷ [])

-- the words of a line of a field
abbrev pub words_on_line : ℕ → Tables → Field → ℕ → List ℕ
words_on_line version t f line = line_words (line_of version t f line) (line_length t f line)

unfoldable pub field_words : ℕ → Tables → Field → List ℕ
field_words version t f = chunks f.lines (words_on_line version t f)

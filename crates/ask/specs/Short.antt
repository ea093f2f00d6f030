-- Nobody has to believe this file: it names what a function of answers does, which is to put a text from the slice's first byte on that is no longer than
-- the longest script, so that the room holds it; and the text of a question as code has it.
-- Assumes nothing.
use Rattle.std.specs.Prelude.{ℕ, ◌≤◌, List, [], length, Option, Some, None}
use Rattle.profile.specs.Versions.{newest_rules}
use Rattle.profile.specs.Writing.{longest_script}
use Rattle.profile.specs.declared.Profile.{Profile}
use Rattle.level.specs.Place.{level_answer, locate_answer, next_edge_answer}
use Rattle.holdlist.specs.Text.{Puts}
use Rattle.ask.specs.declared.question.ProfileQuestion.{ProfileQuestion}
use Rattle.ask.specs.declared.question.ProfileQuestion.TheVariants as profile_question
use Rattle.ask.specs.declared.question.Question.{Question}
use Rattle.ask.specs.declared.question.Question.TheVariants as question
use Rattle.ask.specs.Answer.{accepted_line, level_text, locate_text, edge_text, write_text, of_profile, figures_asked}

pub record PutsShort (text old : List ℕ) (next : ℕ) (new : List ℕ) : Type 0 where
  pub puts : Puts text old 0 next new
  pub short : length text ≤ longest_script

-- of an accepted script's profile
abbrev pub profile_text : ProfileQuestion → Profile → List ℕ
profile_text profile_question.Check = λ p. accepted_line
profile_text profile_question.Write = write_text
profile_text (profile_question.Level line pixel) = λ p. level_text (level_answer newest_rules p line pixel)
profile_text (profile_question.Locate n) = λ p. locate_text (locate_answer newest_rules p n)
profile_text (profile_question.Edge line pixel) = λ p. edge_text (next_edge_answer newest_rules p line pixel)

-- of a script
abbrev pub question_text : Question → List ℕ → List ℕ
question_text (question.OfProfile asked) s = of_profile (profile_text asked) s
question_text question.Figures s = figures_asked s

-- nothing where a line is no question
abbrev pub parsed_text : Option Question → List ℕ → List ℕ
parsed_text (Some asked) s = question_text asked s
parsed_text None s = []

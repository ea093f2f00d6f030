-- A hold list is a list of counts beside a list of words: step i shows words[i] for counts[i] positions.
-- Assumes nothing.
use Rattle.std.specs.Prelude.{ℕ, ◌-◌, List, [], ◌∷◌, ◌++◌, cond, ◌&&◌, length, take, replicate, ltb, leb, Result, Ok, Err}
use Rattle.profile.specs.Values.{accepted, refused}
use Rattle.profile.specs.Refusals.{verdict_of}
use Rattle.profile.specs.declared.Verdict.{Verdict}
use Rattle.profile.specs.declared.refusal.Refusal.{Refusal}

-- what a play answers, in the rule book's numbers
pub record Played : Type 0 where
  pub verdict : Verdict
  pub word : ℕ

abbrev pub played_word : ℕ → Played
played_word w = record { verdict = accepted; word = w }

-- "a refused .. play gives word 0"
abbrev pub played_nothing : ℕ → Played
played_nothing number = record { verdict = refused number 0; word = 0 }

-- what a play says: the word, or its refusal's verdict and 0
abbrev pub play_told : Result ℕ Refusal → Played
play_told (Ok word) = played_word word
play_told (Err refusal) = record { verdict = verdict_of refusal; word = 0 }

-- "position n shows the word of the step in which the running sum first exceeds n; where no step's does, 19"
unfoldable pub walk : List ℕ → List ℕ → ℕ → Played
walk [] ws n = played_nothing 19
walk (c ∷ cs) [] n = played_nothing 19
walk (c ∷ cs) (w ∷ ws) n = cond (ltb n c) (played_word w) (walk cs ws (n - c))

-- the first `used` steps; 20 where that exceeds a lent list
unfoldable pub play_answer : List ℕ → List ℕ → ℕ → ℕ → Played
play_answer cs ws used n =
    cond (leb used (length cs) && leb used (length ws)) (walk (take used cs) (take used ws) n) (played_nothing 20)

-- all the words that the steps show
unfoldable pub expand : List ℕ → List ℕ → List ℕ
expand [] ws = []
expand (c ∷ cs) [] = []
expand (c ∷ cs) (w ∷ ws) = replicate c w ++ expand cs ws

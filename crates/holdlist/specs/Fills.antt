-- Nobody has to believe this file: it says what the writers inside compiling promise one another, and what `compile` ensures (specs/Compile.antt)
-- names none of it.
-- A writer is given what is free of the two lists, cs and ws, which are cs' and ws' when it is done.
-- Assumes nothing.
use Rattle.std.specs.Prelude.{ℕ, ◌+◌, ◌-◌, ◌≤◌, ◌≡◌, List, [], ◌∷◌, length}
use Rattle.profile.specs.Lists.{chunks}
use Rattle.profile.specs.Geometry.{first_line, end_line, Ordered, line_length}
use Rattle.profile.specs.declared.Tables.{Tables}
use Rattle.profile.specs.declared.Field.{Field}
use Rattle.level.specs.Fieldwords.{words_on_line}
use Rattle.holdlist.specs.declared.Step.{Step}
use Rattle.holdlist.specs.Runs.{opened, closed, step_counts, step_words}

-- ---- what is written

-- what a field must have to be written: its regions' lines follow one another, and no line, nor their number, is above 4,095
pub record Fillable (t : Tables) (f : Field) : Type 0 where
  pub ordered : Ordered f
  pub lengths : (line : ℕ) → line_length t f line ≤ 4095
  pub lines : f.lines ≤ 4095

-- the words of n lines from line a on, and of region i: "The lists are filled region by region"
abbrev pub lines_words : ℕ → Tables → Field → ℕ → ℕ → List ℕ
lines_words version t f a n = chunks n (λ k. words_on_line version t f (a + k))

abbrev pub region_words : ℕ → Tables → Field → ℕ → List ℕ
region_words version t f i = lines_words version t f (first_line f i) (end_line f i - first_line f i)

-- ---- how it is written

-- new put over the front of old. What of new has no place is left out, what is past new stays, and the length is old's.
unfoldable pub over_fit : List ℕ → List ℕ → List ℕ
over_fit [] old = old
over_fit (x ∷ xs) [] = []
over_fit (x ∷ xs) (y ∷ ys) = x ∷ over_fit xs ys

-- the steps s are written from the front, as far as each list goes; their number is told, whether or not they fit
pub record Writes (s : List Step) (cs ws : List ℕ) (steps : ℕ) (cs' ws' : List ℕ) : Type 0 where
  pub number : steps ≡ length s
  pub counts : cs' ≡ over_fit (step_counts s) cs
  pub words : ws' ≡ over_fit (step_words s) ws

-- the words xs are pushed onto the open step o: the steps that this closes are written, and `held` is open then
pub record Fills (o : Step) (xs : List ℕ) (cs ws : List ℕ) (steps : ℕ) (held : Step) (cs' ws' : List ℕ) : Type 0 where
  pub writes : Writes (closed o xs) cs ws steps cs' ws'
  pub leaves : held ≡ opened o xs

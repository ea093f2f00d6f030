-- The runs of equal words of a list, made by pushing word after word onto an open step. An open step of count 0 is none.
-- Assumes nothing.
use Rattle.std.specs.Prelude.{ℕ, suc, List, [], ◌∷◌, ◌++◌, map, cond, eqb}
use Rattle.holdlist.specs.declared.Step.{Step}

abbrev pub none : Step
none = record { count = 0; word = 0 }

-- the open step as a list of steps
unfoldable pub flush : Step → List Step
flush o = cond (eqb o.count 0) [] (o ∷ [])

-- the word x is pushed onto the open step o: the step that is open then, and the steps that this closes
unfoldable pub pushed : Step → ℕ → Step
pushed o x = cond (eqb o.word x) (record { count = suc o.count; word = x }) (record { count = 1; word = x })

unfoldable pub shut : Step → ℕ → List Step
shut o x = cond (eqb o.word x) [] (flush o)

-- the same for a list of words
unfoldable pub opened : Step → List ℕ → Step
opened o [] = o
opened o (x ∷ xs) = opened (pushed o x) xs

unfoldable pub closed : Step → List ℕ → List Step
closed o [] = []
closed o (x ∷ xs) = shut o x ++ closed (pushed o x) xs

unfoldable pub runs : List ℕ → List Step
runs xs = closed none xs ++ flush (opened none xs)

abbrev pub step_count : Step → ℕ
step_count o = o.count

abbrev pub step_word : Step → ℕ
step_word o = o.word

abbrev pub step_counts : List Step → List ℕ
step_counts s = map step_count s

abbrev pub step_words : List Step → List ℕ
step_words s = map step_word s

-- The lists before the table of registers: compiling over the check and the words as they were (proofs/Before.antt of profile and level), and that
-- every answer and what is left in both lists is the same.
-- Assumes nothing.
use Prim.Native.Nat.{ℕ}
use mathlib.Core.Path.{◌≡◌}
use mathlib.Core.Bool.{cond}
use mathlib.Core.List.{List}
use Rattle.profile.specs.Values.{Sized, accepts}
use Rattle.profile.specs.declared.Profile.{Profile}
use Rattle.profile.specs.declared.Verdict.{Verdict}
use Rattle.profile.specs.declared.Ruleset.{Ruleset}
use Rattle.profile.proofs.Before.{check_before, check_before_lem}
use Rattle.level.proofs.Before.{words_before, words-before}
use Rattle.holdlist.specs.Compile.{hold_answer, hold_counts, hold_words, compile_answer, compile_counts, compile_words}
use Rattle.holdlist.specs.Demand.{Compiled}

-- what is answered by the check's verdict and the words, and what is left in a list, the counts or the words, by how the words held leave it
abbrev pub compile_by : Verdict → List ℕ → ℕ → Compiled
compile_by v words room = cond (accepts v) (hold_answer words room) (record { verdict = v; steps = 0; pixels = 0 })

abbrev pub left_by : (List ℕ → ℕ → List ℕ → List ℕ) → Verdict → List ℕ → ℕ → List ℕ → List ℕ
left_by hold v words room list = cond (accepts v) (hold words room list) list

pub compile_before : ℕ → Profile → ℕ → Compiled
compile_before version p room = compile_by (check_before p) (words_before version p.tables p.field) room

pub left_before : ℕ → (List ℕ → ℕ → List ℕ → List ℕ) → Profile → ℕ → List ℕ → List ℕ
left_before version hold p room list = left_by hold (check_before p) (words_before version p.tables p.field) room list

module _ (rules : Ruleset) (p : Profile) (room : ℕ) (z : Sized p) where
  pub compile_before_lem : compile_answer rules p room ≡ compile_before rules.version p room
  unfolding compile_answer compile_before
  compile_before_lem = rw (check_before_lem rules p z, words-before rules.version p.tables p.field z.registers)

  pub counts-before : (counts : List ℕ) → compile_counts rules p room counts ≡ left_before rules.version hold_counts p room counts
  unfolding compile_counts left_before
  counts-before counts = rw (check_before_lem rules p z, words-before rules.version p.tables p.field z.registers)

  pub words-left-before : (words : List ℕ) → compile_words rules p room words ≡ left_before rules.version hold_words p room words
  unfolding compile_words left_before
  words-left-before words = rw (check_before_lem rules p z, words-before rules.version p.tables p.field z.registers)

-- The lists before there was a second gate line: compiling over the check and the words as they were (proofs/OneLine.antt of profile and level),
-- and that of a profile without a second gate line every answer and what is left in both lists is the same.
-- Assumes nothing.
use Prim.Native.Nat.{ℕ}
use mathlib.Core.Path.{◌≡◌, sym, ap, ◌∙◌}
use mathlib.Core.Bool.{cond}
use mathlib.Core.List.{List}
use Rattle.profile.specs.Values.{accepts}
use Rattle.profile.specs.Rules.{check_profile}
use Rattle.profile.specs.declared.Profile.{Profile}
use Rattle.profile.specs.declared.Ruleset.{Ruleset}
use Rattle.profile.proofs.Laws.{by_cases}
use Rattle.profile.proofs.OneLine.{OneLine, accepted_one, check_before, check_before_lem}
use Rattle.level.specs.Fieldwords.{field_words}
use Rattle.level.proofs.OneLine.{words_before, words-before}
use Rattle.holdlist.proofs.Before.{compile_by, left_by}
use Rattle.holdlist.specs.Compile.{hold_answer, hold_counts, hold_words, compile_answer, compile_counts, compile_words}
use Rattle.holdlist.specs.Demand.{Compiled}

pub compile_before : ℕ → Profile → ℕ → Compiled
compile_before version p room = compile_by (check_before p) (words_before version p.tables p.field) room

pub left_before : ℕ → (List ℕ → ℕ → List ℕ → List ℕ) → Profile → ℕ → List ℕ → List ℕ
left_before version hold p room list = left_by hold (check_before p) (words_before version p.tables p.field) room list

module _ (rules : Ruleset) (p : Profile) (room : ℕ) (h : OneLine p.field) where
  -- what follows from the words where the check accepts, and from its verdict
  by_words : {A : Type 0} (held : List ℕ → A) (unheld : A)
      → cond (accepts (check_profile rules p)) (held (field_words rules.version p.tables p.field)) unheld
      ≡ cond (accepts (check_before p)) (held (words_before rules.version p.tables p.field)) unheld
  by_words held unheld =
      by_cases (accepts (check_profile rules p))
      (λ a. rw (words-before rules.version p.tables p.field (accepted_one rules p h a), check_before_lem rules p h))
      (λ a. rw (a, sym (ap accepts (check_before_lem rules p h)) ∙ a))

  pub compile_before_lem : compile_answer rules p room ≡ compile_before rules.version p room
  unfolding compile_answer compile_before
  compile_before_lem =
      by_words (λ words. hold_answer words room) (record { verdict = check_profile rules p; steps = 0; pixels = 0 })
      ∙ rw (check_before_lem rules p h)

  pub counts-before : (counts : List ℕ) → compile_counts rules p room counts ≡ left_before rules.version hold_counts p room counts
  unfolding compile_counts left_before
  counts-before counts = by_words (λ words. hold_counts words room counts) counts

  pub words-left-before : (words : List ℕ) → compile_words rules p room words ≡ left_before rules.version hold_words p room words
  unfolding compile_words left_before
  words-left-before list = by_words (λ words. hold_words words room list) list

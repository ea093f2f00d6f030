-- What runs that flip left alone: by every version of the rules a profile has the same verdict, a script is read alike and a profile written alike. No rule
-- over a profile looks at the version.
-- Assumes nothing.
use Prim.Native.Nat.{ℕ}
use mathlib.Core.Path.{◌≡◌, refl}
use mathlib.Core.List.{List}
use Rattle.profile.specs.Rules.{rules_of, entries_of, judge, check_profile}
use Rattle.profile.specs.Script.{read_script}
use Rattle.profile.specs.Writing.{write_answer, write_leaves}
use Rattle.profile.specs.declared.Profile.{Profile}
use Rattle.profile.specs.declared.Ruleset.{Ruleset}

module _ (rules rules' : Ruleset) where
  pub judge_alike : (p : Profile) → judge rules p ≡ judge rules' p
  unfolding judge entries_of rules_of
  judge_alike p = refl

  pub check_alike : (p : Profile) → check_profile rules p ≡ check_profile rules' p
  unfolding check_profile
  check_alike p = rw (judge_alike p)

  pub read_alike : (s : List ℕ) → read_script rules s ≡ read_script rules' s
  unfolding read_script
  read_alike s = rw judge_alike

  pub write_alike : (p : Profile) (room : ℕ) → write_answer rules p room ≡ write_answer rules' p room
  unfolding write_answer
  write_alike p room = rw (check_alike p)

  pub leaves_alike : (p : Profile) (out : List ℕ) → write_leaves rules p out ≡ write_leaves rules' p out
  unfolding write_leaves
  leaves_alike p out = rw (check_alike p)

-- What compiling answers, and leaves in the two lent lists: of any list of words, and of a profile's field.
-- Assumes nothing.
use Rattle.std.specs.Prelude.{ℕ, min, ◌≡◌, List, cond, length, leb, Result, Ok, Err}
use Rattle.profile.specs.Lists.{over}
use Rattle.profile.specs.Values.{accepted, refused, accepts}
use Rattle.profile.specs.Refusals.{verdict_of}
use Rattle.profile.specs.Rules.{check_profile}
use Rattle.profile.specs.declared.Profile.{Profile}
use Rattle.profile.specs.declared.Verdict.{Verdict}
use Rattle.profile.specs.declared.Ruleset.{Ruleset}
use Rattle.profile.specs.declared.refusal.Refusal.{Refusal}
use Rattle.level.specs.Fieldwords.{field_words}
use Rattle.holdlist.specs.declared.Step.{Step}
use Rattle.holdlist.specs.declared.ListSize.{ListSize}
use Rattle.holdlist.specs.Runs.{runs, step_counts, step_words}
use Rattle.holdlist.specs.Demand.{Compiled, Demand}

-- what a compile says: the steps and the pixels, or its refusal's verdict and zeros
abbrev pub compile_told : Result ListSize Refusal → Compiled
compile_told (Ok size) = record { verdict = accepted; steps = size.steps; pixels = size.pixels }
compile_told (Err refusal) = record { verdict = verdict_of refusal; steps = 0; pixels = 0 }

-- "room is the shorter length"
abbrev pub room_of : List ℕ → List ℕ → ℕ
room_of counts words = min (length counts) (length words)

-- ---- a list of words, held as its runs of equal words

-- 18 with the steps needed, where there is room for fewer
unfoldable pub hold_verdict : List ℕ → ℕ → Verdict
hold_verdict xs room = cond (leb (length (runs xs)) room) accepted (refused 18 (length (runs xs)))

unfoldable pub hold_answer : List ℕ → ℕ → Compiled
hold_answer xs room =
    record {
      verdict = hold_verdict xs room;
      steps = cond (accepts (hold_verdict xs room)) (length (runs xs)) 0;
      pixels = cond (accepts (hold_verdict xs room)) (length xs) 0;
    }

-- "a refused .. compile changes no lent .. entry. After success, entries past the used ones keep what they held."
unfoldable pub hold_counts : List ℕ → ℕ → List ℕ → List ℕ
hold_counts xs room counts = cond (accepts (hold_verdict xs room)) (over (step_counts (runs xs)) counts) counts

unfoldable pub hold_words : List ℕ → ℕ → List ℕ → List ℕ
hold_words xs room words = cond (accepts (hold_verdict xs room)) (over (step_words (runs xs)) words) words

-- ---- a profile's field: the check's refusal, which leaves both lists as they were, or its words held

abbrev pub profile_words : Ruleset → Profile → List ℕ
profile_words rules p = field_words rules.version p.tables p.field

-- its runs of equal words
abbrev pub field_runs : Ruleset → Profile → List Step
field_runs rules p = runs (profile_words rules p)

unfoldable pub compile_answer : Ruleset → Profile → ℕ → Compiled
compile_answer rules p room =
    cond (accepts (check_profile rules p)) (hold_answer (profile_words rules p) room) (record { verdict = check_profile rules p; steps = 0; pixels = 0 })

unfoldable pub compile_counts : Ruleset → Profile → ℕ → List ℕ → List ℕ
compile_counts rules p room counts = cond (accepts (check_profile rules p)) (hold_counts (profile_words rules p) room counts) counts

unfoldable pub compile_words : Ruleset → Profile → ℕ → List ℕ → List ℕ
compile_words rules p room words = cond (accepts (check_profile rules p)) (hold_words (profile_words rules p) room words) words

-- what compile ensures: r is answered by the rules for the profile p where the lists are cs and ws, which are cs' and ws' then
pub record Compiles (rules : Ruleset) (p : Profile) (cs ws : List ℕ) (r : Compiled) (cs' ws' : List ℕ) : Type 0 where
  pub answer : r ≡ compile_answer rules p (room_of cs ws)
  pub counts : cs' ≡ compile_counts rules p (room_of cs ws) cs
  pub words : ws' ≡ compile_words rules p (room_of cs ws) ws
  -- demand 3
  pub demand : check_profile rules p ≡ accepted → Demand (profile_words rules p) cs ws r cs' ws'

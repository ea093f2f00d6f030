-- From the bytes that come in to the text that goes out: what is printed for a script, said by the script's records and rules (profile's
-- specs/Records.antt), by the player (specs/Demand.antt) and by the text read back (specs/Readback.antt). That exactly this is printed, for every
-- sequence of bytes, is a theorem (proofs/Prints.antt: printed-exactly).
-- Assumes nothing.
use Rattle.std.specs.Prelude.{ℕ, ◌≤◌, ◌<◌, ◌≡◌, List, length}
use Rattle.profile.specs.Values.{refused}
use Rattle.profile.specs.Geometry.{pixel_count}
use Rattle.profile.specs.Records.{unread, taken, Reads}
use Rattle.profile.specs.declared.Profile.{Profile}
use Rattle.profile.specs.declared.Verdict.{Verdict}
use Rattle.profile.specs.declared.Ruleset.{Ruleset}
use Rattle.holdlist.specs.Demand.{PlaysField}
use Rattle.holdlist.specs.Readback.{Tells, TellsRefusal}

-- steps that play every pixel of a profile's field and 19 after it, and no list that plays so is shorter
pub record Shortest (rules : Ruleset) (p : Profile) (steps : ℕ) (counts words : List ℕ) : Type 0 where
  pub counts-length : length counts ≡ steps
  pub words-length : length words ≡ steps
  pub plays : PlaysField rules.version p.tables p.field counts words steps
  pub least : (cs ws : List ℕ) (used : ℕ) → PlaysField rules.version p.tables p.field cs ws used → steps ≤ used

pub data Prints (rules : Ruleset) (script text : List ℕ) : Type 0 where
  -- "`refused N P` alone", or "`refused 10 P O T`", of the script's first broken rule
  refusal : (v : Verdict) → Reads rules script (unread v) → TellsRefusal text v → Prints rules script text
  -- "has room for 4,096 steps": 18 with their number, where they are more
  without_room : (p : Profile) (steps : ℕ) (counts words : List ℕ)
      → Reads rules script (taken p) → Shortest rules p steps counts words → 4096 < steps → TellsRefusal text (refused 18 steps) → Prints rules script text
  -- S, P and the S steps
  steps_told : (p : Profile) (steps : ℕ) (counts words : List ℕ)
      → Reads rules script (taken p) → Shortest rules p steps counts words → steps ≤ 4096 → Tells text steps (pixel_count p.tables p.field) counts words
      → Prints rules script text

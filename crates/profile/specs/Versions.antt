-- The rule versions: 1 the first rules, 2 with runs that flip (02, No. 2). "Every call on a profile can name a version"; one that names none goes by the
-- newest. 0 acts as 1, and a later number as the newest.
-- Assumes nothing.
use Rattle.std.specs.Prelude.{ℕ}
use Rattle.profile.specs.declared.Ruleset.{Ruleset}

abbrev pub newest : ℕ
newest = 2

-- what a profile is judged by, and its words' version
abbrev pub ruleset_of : ℕ → Ruleset
ruleset_of version = record { version = version }

abbrev pub newest_rules : Ruleset
newest_rules = ruleset_of newest

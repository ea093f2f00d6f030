-- What the program prints, in ASCII: "`steps S pixels P`, then each step as decimal count, space, four upper-case hex digits; or `refused N P` alone; LF
-- ends each line"; and "`refused 10 P O T`".
-- Assumes nothing.
use Rattle.std.specs.Prelude.{ℕ, zero, suc, ◌+◌, ◌*◌, ◌-◌, ◌/◌, ◌%◌, ◌≤◌, min, max, ◌≡◌, List, [], ◌∷◌, ◌++◌, cond, length, get_or, ltb, eqb, Result, Ok, Err}
use Rattle.std.proofs.lemmas.List.Edits.{sets}
use Rattle.profile.specs.Lists.{chunks}
use Rattle.profile.specs.Values.{accepts}
use Rattle.profile.specs.Script.{read_script}
use Rattle.profile.specs.declared.Profile.{Profile}
use Rattle.profile.specs.declared.Verdict.{Verdict}
use Rattle.profile.specs.declared.Ruleset.{Ruleset}
use Rattle.holdlist.specs.declared.ListSize.{ListSize}
use Rattle.holdlist.specs.Demand.{Compiled}
use Rattle.holdlist.specs.Runs.{step_counts, step_words}
use Rattle.holdlist.specs.Compile.{field_runs, room_of, compile_answer}

-- ---- numbers

abbrev pub digit : ℕ → ℕ
digit d = 48 + d

-- the decimal digits of n, none for 0, counted down by a number that is n or more
unfoldable pub leading_in : ℕ → ℕ → List ℕ
leading_in zero n = []
leading_in (suc k) zero = []
leading_in (suc k) (suc m) = leading_in k (suc m / 10) ++ (digit (suc m % 10) ∷ [])

unfoldable pub leading : ℕ → List ℕ
leading n = leading_in n n

-- what comes before the last digit, and the last digit, which is there for 0 too
unfoldable pub decimal : ℕ → List ℕ
decimal n = leading (n / 10) ++ (digit (n % 10) ∷ [])

-- the number that digits tell after the number a, and that they tell
unfoldable pub value_after : ℕ → List ℕ → ℕ
value_after a [] = a
value_after a (d ∷ ds) = value_after (10 * a + (d - 48)) ds

abbrev pub value_of : List ℕ → ℕ
value_of ds = value_after 0 ds

abbrev pub hex_digit : ℕ → ℕ
hex_digit d = cond (ltb d 10) (digit d) (55 + d)

abbrev pub hex2 : ℕ → List ℕ
hex2 b = hex_digit (b / 16) ∷ hex_digit (b % 16) ∷ []

abbrev pub hex4 : ℕ → List ℕ
hex4 w = hex_digit (w / 4096 % 16) ∷ hex_digit (w / 256 % 16) ∷ hex_digit (w / 16 % 16) ∷ hex_digit (w % 16) ∷ []

-- ---- lines

-- "steps ", " pixels ", "refused "
abbrev pub steps_word : List ℕ
steps_word = 115 ∷ 116 ∷ 101 ∷ 112 ∷ 115 ∷ 32 ∷ []

abbrev pub pixels_word : List ℕ
pixels_word = 32 ∷ 112 ∷ 105 ∷ 120 ∷ 101 ∷ 108 ∷ 115 ∷ 32 ∷ []

abbrev pub refused_word : List ℕ
refused_word = 114 ∷ 101 ∷ 102 ∷ 117 ∷ 115 ∷ 101 ∷ 100 ∷ 32 ∷ []

unfoldable pub head_line : ℕ → ℕ → List ℕ
head_line steps pixels = steps_word ++ decimal steps ++ pixels_word ++ decimal pixels ++ (10 ∷ [])

unfoldable pub step_line : ℕ → ℕ → List ℕ
step_line count word = decimal count ++ (32 ∷ []) ++ hex4 word ++ (10 ∷ [])

-- the output and the toggle that 10 names; nothing for another number
unfoldable pub toggle_text : Verdict → List ℕ
toggle_text v = cond (eqb v.number 10) ((32 ∷ []) ++ decimal v.output ++ (32 ∷ []) ++ decimal v.toggle) []

unfoldable pub refused_line : Verdict → List ℕ
refused_line v = refused_word ++ decimal v.number ++ (32 ∷ []) ++ decimal v.place ++ (toggle_text v ++ (10 ∷ []))

-- ---- all that is printed

abbrev pub step_line_at : List ℕ → List ℕ → ℕ → List ℕ
step_line_at cs ws i = step_line (get_or cs i 0) (get_or ws i 0)

-- the first steps of two lists, as many as both have
unfoldable pub listing : ℕ → ℕ → List ℕ → List ℕ → List ℕ
listing steps pixels cs ws = head_line steps pixels ++ chunks (min steps (room_of cs ws)) (step_line_at cs ws)

-- a compile's answer beside the two lists
unfoldable pub printed_answer : Compiled → List ℕ → List ℕ → List ℕ
printed_answer c cs ws =
    cond (accepts c.verdict) (listing c.steps c.pixels cs ws) (refused_line c.verdict)

-- what is printed for a script; "has room for 4,096 steps"
unfoldable pub printed_of : Ruleset → Profile → List ℕ
printed_of rules p = printed_answer (compile_answer rules p 4096) (step_counts (field_runs rules p)) (step_words (field_runs rules p))

unfoldable pub printed : Ruleset → List ℕ → List ℕ
printed rules script =
    cond (accepts (read_script rules script).verdict) (printed_of rules (read_script rules script).profile)
    (refused_line (read_script rules script).verdict)

-- ---- stores

-- bytes are stored from a place on, none past the end, and `next` is the place after the last that was stored
pub record Puts (bytes old : List ℕ) (at next : ℕ) (new : List ℕ) : Type 0 where
  pub stored : new ≡ sets old at bytes
  pub ended : next ≡ max at (min (at + length bytes) (length old))

-- a list's size or a refusal's verdict, beside the two lists
abbrev pub told_text : Result ListSize Verdict → List ℕ → List ℕ → List ℕ
told_text (Ok size) cs ws = listing size.steps size.pixels cs ws
told_text (Err verdict) cs ws = refused_line verdict

-- what is printed of a compile and its lists is stored: at most a head line and 16 bytes a step
pub record PutsPrinted (told : Result ListSize Verdict) (cs ws old : List ℕ) (at next : ℕ) (new : List ℕ) : Type 0 where
  pub puts : Puts (told_text told cs ws) old at next new
  pub short : length (told_text told cs ws) ≤ 55 + 16 * room_of cs ws

-- and what is printed for a script by the rules, of at most 4,096 steps
pub record PutsText (rules : Ruleset) (script old : List ℕ) (at next : ℕ) (new : List ℕ) : Type 0 where
  pub puts : Puts (printed rules script) old at next new
  pub short : length (printed rules script) ≤ 55 + 16 * 4096

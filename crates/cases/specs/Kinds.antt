-- What is printed for a payload of each kind: the answer of its entry point, which the crates below define, as lines of text.
-- Assumes nothing.
use Rattle.std.specs.Prelude.{ℕ, ◌+◌, ◌*◌, min, List, [], ◌∷◌, ◌++◌, cond, ◌||◌, eqb, length, drop, Option, Some, None}
use Rattle.profile.specs.Versions.{newest_rules}
use Rattle.profile.specs.Rules.{check_profile}
use Rattle.profile.specs.Script.{read_script}
use Rattle.profile.specs.Upload.{start_upload, upload_answer}
use Rattle.profile.specs.Writing.{write_answer, write_leaves}
use Rattle.profile.specs.Values.{ReadAnswer, Written}
use Rattle.profile.specs.declared.Verdict.{Verdict}
use Rattle.profile.specs.declared.Profile.{Profile}
use Rattle.profile.specs.declared.Ruleset.{Ruleset}
use Rattle.level.specs.Place.{LevelAnswer, Located, Edge, level_answer, locate_answer, next_edge_answer}
use Rattle.level.specs.declared.LinePixel.{LinePixel}
use Rattle.holdlist.specs.Compile.{room_of, compile_answer, compile_counts, compile_words}
use Rattle.holdlist.specs.Demand.{Compiled}
use Rattle.holdlist.specs.Play.{Played, play_answer}
use Rattle.holdlist.specs.Text.{printed}
use Rattle.cases.specs.Raw.{four_at, eight_at, numbers_from, fours_from, raw_length, version_length, versioned_length, rules_at, raw_profile}
use Rattle.cases.specs.Chunked.{upload_at, state_of}
use Rattle.cases.specs.Answer.{after, flag_number, head_text, hex_line, joined_line, profile_line}
use Rattle.cases.specs.declared.answers.Kind.{Kind}
use Rattle.cases.specs.declared.answers.Kind.TheVariants.{Read, Chunked, Stated, Check, Write, Level, NextEdge, Locate, Compile, CompileEdges, Text, Play}

-- ---- lines of an answer

-- a verdict alone, with a number, with two, with three
abbrev pub verdict_text : Verdict → List ℕ
verdict_text v = head_text v ++ (10 ∷ [])

abbrev pub verdict_with : Verdict → ℕ → List ℕ
verdict_with v m = head_text v ++ after m ++ (10 ∷ [])

abbrev pub verdict_with_two : Verdict → ℕ → ℕ → List ℕ
verdict_with_two v m n = head_text v ++ after m ++ after n ++ (10 ∷ [])

abbrev pub verdict_with_three : Verdict → ℕ → ℕ → ℕ → List ℕ
verdict_with_three v m n o = head_text v ++ after m ++ after n ++ after o ++ (10 ∷ [])

-- the numbers of a next edge, and zeros where there is none
abbrev pub edge_numbers : Option LinePixel → List ℕ
edge_numbers (Some there) = 1 ∷ there.line ∷ there.pixel ∷ []
edge_numbers None = 0 ∷ 0 ∷ 0 ∷ []

abbrev pub read_text : ReadAnswer → List ℕ
read_text a = verdict_text a.verdict ++ profile_line a.profile

abbrev pub level_text : LevelAnswer → List ℕ
level_text a = verdict_with a.verdict a.word

abbrev pub edge_text : Edge → List ℕ
edge_text a = verdict_with_three a.verdict (flag_number a.found) a.line a.pixel

abbrev pub locate_text : Located → List ℕ
locate_text a = verdict_with_two a.verdict a.line a.pixel

-- beside the slice at exit
unfoldable pub write_text : Written → List ℕ → List ℕ
write_text a s = verdict_with a.verdict a.length ++ hex_line s

-- beside the lists at exit
unfoldable pub compile_text : Compiled → List ℕ → List ℕ → List ℕ
compile_text a cs ws =
    verdict_with_two a.verdict a.steps a.pixels ++ joined_line cs ++ joined_line ws

abbrev pub play_text : Played → List ℕ
play_text a = verdict_with a.verdict a.word

-- ---- answers to a payload

-- of a profile and the slice that is lent
unfoldable pub write_of : Profile → List ℕ → List ℕ
write_of p s = write_text (write_answer newest_rules p (length s)) (write_leaves newest_rules p s)

-- of a profile and the two lists that are lent, by the rules
unfoldable pub compile_of : Ruleset → Profile → List ℕ → List ℕ → List ℕ
compile_of rules p cs ws =
    compile_text (compile_answer rules p (room_of cs ws)) (compile_counts rules p (room_of cs ws) cs) (compile_words rules p (room_of cs ws) ws)

-- "A list has at most 4,096 entries"
abbrev pub length_at : List ℕ → ℕ → ℕ
length_at b at = min 4096 (four_at b at)

-- c counts from a place on, and w words behind them
unfoldable pub compile_lines : ℕ → ℕ → List ℕ → List ℕ
compile_lines c w b =
    compile_of (rules_at b raw_length) (raw_profile b) (fours_from b (versioned_length + 8) c) (numbers_from b (versioned_length + 8 + 4 * c) w)

unfoldable pub play_lines : ℕ → ℕ → List ℕ → List ℕ
play_lines c w b = play_text (play_answer (fours_from b 24 c) (numbers_from b (24 + 4 * c) w) (eight_at b 8) (eight_at b 16))

-- from the start of an upload, and from a state: the chunks' lengths are counted behind a version, and behind the state
unfoldable pub chunked_text : List ℕ → List ℕ
chunked_text b = read_text (upload_answer (rules_at b 0) (upload_at b version_length start_upload))

unfoldable pub stated_text : List ℕ → List ℕ
stated_text b = read_text (upload_answer (rules_at b raw_length) (upload_at b 848 (state_of b)))

-- R, U, V, C, W, L, E, N, K and J, T, P
unfoldable pub lines_of : ℕ → List ℕ → List ℕ
lines_of kind b =
    cond (eqb kind 82) (read_text (read_script newest_rules b))
    (cond (eqb kind 85) (chunked_text b)
    (cond (eqb kind 86) (stated_text b)
    (cond (eqb kind 67) (verdict_text (check_profile newest_rules (raw_profile b)))
    (cond (eqb kind 87) (write_of (raw_profile b) (drop raw_length b))
    (cond (eqb kind 76) (level_text (level_answer (rules_at b raw_length) (raw_profile b) (eight_at b versioned_length) (eight_at b (versioned_length + 8))))
    (cond (eqb kind 69) (edge_text (next_edge_answer (rules_at b raw_length) (raw_profile b) (eight_at b versioned_length) (eight_at b (versioned_length + 8))))
    (cond (eqb kind 78) (locate_text (locate_answer newest_rules (raw_profile b) (eight_at b raw_length)))
    (cond (eqb kind 75 || eqb kind 74) (compile_lines (length_at b versioned_length) (length_at b (versioned_length + 4)) b)
    (cond (eqb kind 84) (printed (rules_at b 0) (drop version_length b)) (play_lines (length_at b 0) (length_at b 4) b))))))))))

-- the letter of a kind of code
abbrev pub letter_of : Kind → ℕ
letter_of Read = 82
letter_of Chunked = 85
letter_of Stated = 86
letter_of Check = 67
letter_of Write = 87
letter_of Level = 76
letter_of NextEdge = 69
letter_of Locate = 78
letter_of Compile = 75
letter_of CompileEdges = 74
letter_of Text = 84
letter_of Play = 80

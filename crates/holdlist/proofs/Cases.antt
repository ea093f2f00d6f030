-- One table of questions, each asked by a version of the rules, and of their answers, under one statement: W1 to W12 and the bytes of a written script by both
-- versions alike, and 02's example of runs that flip by each. antt computes them from the definitions.
-- Assumes nothing.
use Prim.Native.Nat.{ℕ, ◌+◌, ◌*◌, ◌/◌, ◌%◌, ◌^◌}
use mathlib.Core.Path.{◌≡◌, refl}
use mathlib.Core.List.{List, [], ◌∷◌, ◌++◌, map, flat_map}
use lib.ListN.{replicate}
use Rattle.profile.specs.Lists
use Rattle.profile.specs.Lists.{chunks}
use Rattle.profile.specs.Bytes.{two_bytes, three_bytes}
use Rattle.profile.specs.Values
use Rattle.profile.specs.Versions.{ruleset_of}
use Rattle.profile.specs.Layout
use Rattle.profile.specs.Patterns
use Rattle.profile.specs.Geometry
use Rattle.profile.specs.Ranges
use Rattle.profile.specs.Rules
use Rattle.profile.specs.Script
use Rattle.profile.specs.Script.{read_script}
use Rattle.profile.specs.Writing
use Rattle.profile.specs.Writing.{write_answer}
use Rattle.profile.specs.declared.Profile.{Profile}
use Rattle.profile.specs.declared.Verdict.{Verdict}
use Rattle.level.specs.Line
use Rattle.level.specs.Word
use Rattle.level.specs.Fieldwords
use Rattle.level.specs.Fieldwords.{field_words}
use Rattle.level.specs.Place
use Rattle.level.specs.Place.{level_answer}
use Rattle.holdlist.specs.Runs
use Rattle.holdlist.specs.Compile
use Rattle.holdlist.specs.Compile.{room_of, compile_answer, compile_counts, compile_words}
use Rattle.holdlist.specs.Text
use Rattle.holdlist.specs.Text.{printed}

-- ---- what can be asked of a script

pub data Question : Type 0 where
  -- number, place, output and toggle of the read
  read : Question
  -- the words of all the field's pixels
  words : Question
  -- the levels of output bit k at all the field's pixels
  output : ℕ → Question
  -- the level asked at a line and pixel: verdict, word
  level : ℕ → ℕ → Question
  -- compiled into lent lists: verdict, steps, pixels; counts and words as they are left
  compile : List ℕ → List ℕ → Question
  -- the text that is printed
  print : Question
  -- written into a lent slice of so many bytes: verdict, length
  write : ℕ → Question

abbrev verdict : Verdict → List ℕ
verdict v = v.number ∷ v.place ∷ v.output ∷ v.toggle ∷ []

abbrev profile_of : ℕ → List ℕ → Profile
profile_of v s = (read_script (ruleset_of v) s).profile

-- by a version of the rules
pub ask : ℕ → List ℕ → Question → List (List ℕ)
ask v s read = verdict (read_script (ruleset_of v) s).verdict ∷ []
ask v s words = field_words v (profile_of v s).tables (profile_of v s).field ∷ []
ask v s (output k) = map (λ (w : ℕ). w / 2 ^ k % 2) (field_words v (profile_of v s).tables (profile_of v s).field) ∷ []
ask v s (level line pixel) =
    (verdict (level_answer (ruleset_of v) (profile_of v s) line pixel).verdict ++ ((level_answer (ruleset_of v) (profile_of v s) line pixel).word ∷ [])) ∷ []
ask v s (compile cs ws) =
    (verdict (compile_answer (ruleset_of v) (profile_of v s) (room_of cs ws)).verdict
    ++ ((compile_answer (ruleset_of v) (profile_of v s) (room_of cs ws)).steps ∷ (compile_answer (ruleset_of v) (profile_of v s) (room_of cs ws)).pixels ∷ []))
    ∷ compile_counts (ruleset_of v) (profile_of v s) (room_of cs ws) cs
    ∷ compile_words (ruleset_of v) (profile_of v s) (room_of cs ws) ws
    ∷ []
ask v s print = printed (ruleset_of v) s ∷ []
ask v s (write room) =
    (verdict (write_answer (ruleset_of v) (profile_of v s) room).verdict ++ ((write_answer (ruleset_of v) (profile_of v s) room).length ∷ [])) ∷ []

-- ---- the scripts

abbrev register : ℕ → ℕ → List ℕ
register a v = 0x04 ∷ 0x00 ∷ 0x01 ∷ 0x00 ∷ a ∷ three_bytes v

-- words 2 to 9 of pattern 0: no toggle but V1's first two is used
abbrev unused : List ℕ
unused =
    register 2 0xFFFFFF ++ register 3 0xFFFFFF ++ register 4 0xFFFFFF ++ register 5 0xFFFFFF ++ register 6 0xFFFFFF
    ++ register 7 0xFFFFFF ++ register 8 0xFFFFFF ++ register 9 0xFFFFFF

-- pattern 0's word 0 and word 1
abbrev pattern : ℕ → ℕ → List ℕ
pattern word0 word1 = register 0 word0 ++ register 1 word1

-- pattern 0's freeze 1 and resume 1
abbrev pair : ℕ → ℕ → List ℕ
pair freeze resume = register 10 (freeze + 4096 * resume)

-- a sequence over pattern 0: line length 10; start, repetitions on odd and on even lines, mask
abbrev sequence_at : ℕ → ℕ → ℕ → ℕ → ℕ → List ℕ
sequence_at k start odd even mask = two_bytes (14 ∷ 2 ∷ k ∷ 0 ∷ 10 ∷ start ∷ odd ∷ even ∷ mask ∷ [])

abbrev sequence : ℕ → ℕ → ℕ → ℕ → List ℕ
sequence start odd even mask = sequence_at 0 start odd even mask

-- a field of one region, of so many lines, in a mode; the last line has length 10 too, gate line 0, no second pattern
abbrev field : ℕ → ℕ → List ℕ
field lines mode = two_bytes (16 ∷ 3 ∷ lines ∷ 10 ∷ 0 ∷ 65535 ∷ 1 ∷ 0 ∷ 0 ∷ mode ∷ [])

-- base profile A, and A with a freeze and resume pair under mask 1
abbrev pub a : List ℕ
a = pattern 0x004001 0x003001 ++ unused ++ sequence 2 1 2 0 ++ field 2 0

abbrev masked : ℕ → ℕ → List ℕ
masked freeze resume = pattern 0x004001 0x003001 ++ unused ++ pair freeze resume ++ sequence 2 1 2 1 ++ field 2 0

abbrev sweep : ℕ → List ℕ
sweep times = pattern 0x004001 0x003001 ++ unused ++ sequence 2 times times 0 ++ field 3 1

abbrev multiplier : ℕ → List ℕ
multiplier times = pattern 0x004000 0x005002 ++ unused ++ sequence 1 times times 0 ++ field 3 2

-- A with two gate lines, each a number of two bytes: VSG1 is on with toggles 2 and 5, and SUBCK acts on the line after the gate line, on one line
abbrev two_lines : ℕ → ℕ → List ℕ
two_lines first second =
    pattern 0x004001 0x003001 ++ unused ++ sequence 2 1 2 0 ++ two_bytes (18 ∷ 3 ∷ 3 ∷ 10 ∷ first ∷ second ∷ 65535 ∷ 1 ∷ 0 ∷ 0 ∷ 0 ∷ [])
    ++ two_bytes (10 ∷ 4 ∷ 0 ∷ 1 ∷ 1 ∷ 2 ∷ 5 ∷ []) ++ two_bytes (10 ∷ 5 ∷ 1 ∷ 2 ∷ 5 ∷ 1 ∷ 1 ∷ [])

-- start level 1, length 4, one used toggle at 2, start 0, so many runs on lines of 8, in a mode
abbrev one_toggle : ℕ → ℕ → ℕ → List ℕ
one_toggle times mode lines =
    pattern 0x004001 0xFFF002 ++ unused ++ two_bytes (14 ∷ 2 ∷ 0 ∷ 0 ∷ 8 ∷ 0 ∷ times ∷ times ∷ 0 ∷ [])
    ++ two_bytes (16 ∷ 3 ∷ lines ∷ 8 ∷ 0 ∷ 65535 ∷ 1 ∷ 0 ∷ 0 ∷ mode ∷ [])

-- A with every item that a profile has: ten sequences, seven regions of two lines and two gate lines, five gates, SUBCK, both shutters
abbrev full : List ℕ
full =
    pattern 0x004001 0x003001 ++ unused ++ chunks 10 (λ k. sequence_at k 2 1 2 0)
    ++ two_bytes (54 ∷ 3 ∷ 14 ∷ 10 ∷ 0 ∷ 13 ∷ 65535 ∷ 7 ∷ []) ++ chunks 7 (λ i. two_bytes (2 * i ∷ 0 ∷ 0 ∷ []))
    ++ chunks 5 (λ k. two_bytes (10 ∷ 4 ∷ k ∷ 1 ∷ 1 ∷ 2 ∷ 5 ∷ []))
    ++ two_bytes (10 ∷ 5 ∷ 1 ∷ 2 ∷ 5 ∷ 1 ∷ 1 ∷ [])
    ++ chunks 2 (λ k. two_bytes (12 ∷ 6 ∷ k ∷ 1 ∷ 0 ∷ 0 ∷ 1 ∷ 0 ∷ []))

-- the bytes of A's sequence and field as document 01 prints them
pub as_printed :
    (sequence 2 1 2 0 ++ field 2 0)
    ≡ 0x0E ∷ 0x00 ∷ 0x02 ∷ 0x00 ∷ 0x00 ∷ 0x00 ∷ 0x00 ∷ 0x00 ∷ 0x0A ∷ 0x00 ∷ 0x02 ∷ 0x00 ∷ 0x01 ∷ 0x00 ∷ 0x02 ∷ 0x00 ∷ 0x00 ∷ 0x00
    ∷ 0x10 ∷ 0x00 ∷ 0x03 ∷ 0x00 ∷ 0x02 ∷ 0x00 ∷ 0x0A ∷ 0x00 ∷ 0x00 ∷ 0x00 ∷ 0xFF ∷ 0xFF ∷ 0x01 ∷ 0x00 ∷ 0x00 ∷ 0x00 ∷ 0x00 ∷ 0x00
    ∷ 0x00 ∷ 0x00 ∷ []
as_printed = refl

-- ---- the table

pub record Case : Type 0 where
  pub version : ℕ
  pub script : List ℕ
  pub question : Question
  pub answer : List (List ℕ)

abbrev case : ℕ → List ℕ → Question → List (List ℕ) → Case
case v s q r = record { version = v; script = s; question = q; answer = r }

-- W1: "A prints, whole"
abbrev w1 : List ℕ
w1 =
    -- steps 7 pixels 20
    0x73 ∷ 0x74 ∷ 0x65 ∷ 0x70 ∷ 0x73 ∷ 0x20 ∷ 0x37 ∷ 0x20 ∷ 0x70 ∷ 0x69 ∷ 0x78 ∷ 0x65 ∷ 0x6C ∷ 0x73 ∷ 0x20 ∷ 0x32 ∷ 0x30 ∷ 0x0A ∷
    -- 3 0FC1
    0x33 ∷ 0x20 ∷ 0x30 ∷ 0x46 ∷ 0x43 ∷ 0x31 ∷ 0x0A ∷
    -- 2 0FC0
    0x32 ∷ 0x20 ∷ 0x30 ∷ 0x46 ∷ 0x43 ∷ 0x30 ∷ 0x0A ∷
    -- 8 0FC1
    0x38 ∷ 0x20 ∷ 0x30 ∷ 0x46 ∷ 0x43 ∷ 0x31 ∷ 0x0A ∷
    -- 2 0FC0
    0x32 ∷ 0x20 ∷ 0x30 ∷ 0x46 ∷ 0x43 ∷ 0x30 ∷ 0x0A ∷
    -- 2 0FC1
    0x32 ∷ 0x20 ∷ 0x30 ∷ 0x46 ∷ 0x43 ∷ 0x31 ∷ 0x0A ∷
    -- 2 0FC0
    0x32 ∷ 0x20 ∷ 0x30 ∷ 0x46 ∷ 0x43 ∷ 0x30 ∷ 0x0A ∷
    -- 1 0FC1
    0x31 ∷ 0x20 ∷ 0x30 ∷ 0x46 ∷ 0x43 ∷ 0x31 ∷ 0x0A ∷
    []

-- low at pixels 2 to 4 of a line of 10
abbrev transfer : List ℕ
transfer = replicate 2 1 ++ replicate 3 0 ++ replicate 5 1

-- by every version alike: W1 to W12, the bytes of a written script, and the second gate line
pub alike : ℕ → List Case
alike v =
    -- W1
    case v a print
    (w1 ∷ [])
    ∷ case v a (compile (replicate 8 9) (replicate 8 9))
    ((0 ∷ 0 ∷ 0 ∷ 0 ∷ 7 ∷ 20 ∷ [])
    ∷ (3 ∷ 2 ∷ 8 ∷ 2 ∷ 2 ∷ 2 ∷ 1 ∷ 9 ∷ [])
    ∷ (0x0FC1 ∷ 0x0FC0 ∷ 0x0FC1 ∷ 0x0FC0 ∷ 0x0FC1 ∷ 0x0FC0 ∷ 0x0FC1 ∷ 9 ∷ []) ∷ [])
    ∷ case v a words
    ((replicate 3 0x0FC1 ++ replicate 2 0x0FC0 ++ replicate 8 0x0FC1 ++ replicate 2 0x0FC0 ++ replicate 2 0x0FC1 ++ replicate 2 0x0FC0 ++ replicate 1 0x0FC1) ∷ [])
    -- W2, W3, W4
    ∷ case v (pattern 0x004001 0x003001 ++ sequence 2 1 2 0 ++ field 2 0) read ((10 ∷ 0 ∷ 1 ∷ 3 ∷ []) ∷ [])
    ∷ case v [] read ((6 ∷ 0 ∷ 0 ∷ 0 ∷ []) ∷ [])
    ∷ case v (0x04 ∷ 0x00 ∷ 0x01 ∷ []) read ((2 ∷ 0 ∷ 0 ∷ 0 ∷ []) ∷ [])
    -- W5: line 0 is 1110001111
    ∷ case v (masked 3 6) (output 0)
    ((1 ∷ 1 ∷ 1 ∷ 0 ∷ 0 ∷ 0 ∷ 1 ∷ 1 ∷ 1 ∷ 1 ∷ 1 ∷ 1 ∷ 1 ∷ 0 ∷ 0 ∷ 0 ∷ 1 ∷ 0 ∷ 0 ∷ 1 ∷ []) ∷ [])
    -- W6
    ∷ case v (masked 3 3) read ((11 ∷ 0 ∷ 0 ∷ 0 ∷ []) ∷ [])
    -- W7, W8
    ∷ case v (sweep 7) read ((0 ∷ 0 ∷ 0 ∷ 0 ∷ []) ∷ [])
    ∷ case v (sweep 8) read ((13 ∷ 0 ∷ 0 ∷ 0 ∷ []) ∷ [])
    -- W9: high at field pixels 9 to 20
    ∷ case v (multiplier 5) (output 0) ((replicate 9 0 ++ replicate 12 1 ++ replicate 9 0) ∷ [])
    -- W10
    ∷ case v (multiplier 4) read ((12 ∷ 0 ∷ 0 ∷ 0 ∷ []) ∷ [])
    -- W11
    ∷ case v a (compile (replicate 6 9) (replicate 8 9)) ((18 ∷ 7 ∷ 0 ∷ 0 ∷ 0 ∷ 0 ∷ []) ∷ replicate 6 9 ∷ replicate 8 9 ∷ [])
    -- W12
    ∷ case v a (level 1 10) ((19 ∷ 0 ∷ 0 ∷ 0 ∷ 0 ∷ []) ∷ [])
    -- "its longest script becomes 1,314 bytes", and "at least 998": both are reached
    ∷ case v a (write 998) ((0 ∷ 0 ∷ 0 ∷ 0 ∷ 998 ∷ []) ∷ [])
    ∷ case v full (write 1314) ((0 ∷ 0 ∷ 0 ∷ 0 ∷ 1314 ∷ []) ∷ [])
    ∷ case v full (write 1313) ((18 ∷ 1314 ∷ 0 ∷ 0 ∷ 0 ∷ []) ∷ [])
    -- gate lines 1 and 0 of 3: VSG1 is low at pixels 2 to 4 of both, and SUBCK on line 2, after the one that is named first
    ∷ case v (two_lines 1 0) (output 6) ((transfer ++ transfer ++ replicate 10 1) ∷ [])
    ∷ case v (two_lines 1 0) (output 11) ((replicate 20 1 ++ transfer) ∷ [])
    -- equal ones, one outside, and none
    ∷ case v (two_lines 1 1) read ((14 ∷ 0 ∷ 0 ∷ 0 ∷ []) ∷ [])
    ∷ case v (two_lines 1 3) read ((14 ∷ 0 ∷ 0 ∷ 0 ∷ []) ∷ [])
    ∷ case v (two_lines 1 65535) (output 6) ((replicate 10 1 ++ transfer ++ replicate 10 1) ∷ [])
    ∷ []

-- "start level 1, length 4, one used toggle at 2, start 0, two runs on a line of 8: 01 gives 11001100, the camera gives 11000011"
pub flipping : List Case
flipping =
    case 1 (one_toggle 2 0 1) (output 0) ((1 ∷ 1 ∷ 0 ∷ 0 ∷ 1 ∷ 1 ∷ 0 ∷ 0 ∷ []) ∷ [])
    ∷ case 2 (one_toggle 2 0 1) (output 0) ((1 ∷ 1 ∷ 0 ∷ 0 ∷ 0 ∷ 0 ∷ 1 ∷ 1 ∷ []) ∷ [])
    -- one run on two lines: the level stays after it, and the next line sets the start level again
    ∷ case 1 (one_toggle 1 0 2) (output 0) ((1 ∷ 1 ∷ 0 ∷ 0 ∷ 1 ∷ 1 ∷ 1 ∷ 1 ∷ 1 ∷ 1 ∷ 0 ∷ 0 ∷ 1 ∷ 1 ∷ 1 ∷ 1 ∷ []) ∷ [])
    ∷ case 2 (one_toggle 1 0 2) (output 0) ((1 ∷ 1 ∷ 0 ∷ 0 ∷ 0 ∷ 0 ∷ 0 ∷ 0 ∷ 1 ∷ 1 ∷ 0 ∷ 0 ∷ 0 ∷ 0 ∷ 0 ∷ 0 ∷ []) ∷ [])
    -- three runs of a sweep on two lines: a line's end sets nothing
    ∷ case 1 (one_toggle 3 1 2) (output 0) ((1 ∷ 1 ∷ 0 ∷ 0 ∷ 1 ∷ 1 ∷ 0 ∷ 0 ∷ 1 ∷ 1 ∷ 0 ∷ 0 ∷ 1 ∷ 1 ∷ 1 ∷ 1 ∷ []) ∷ [])
    ∷ case 2 (one_toggle 3 1 2) (output 0) ((1 ∷ 1 ∷ 0 ∷ 0 ∷ 0 ∷ 0 ∷ 1 ∷ 1 ∷ 1 ∷ 1 ∷ 0 ∷ 0 ∷ 0 ∷ 0 ∷ 0 ∷ 0 ∷ []) ∷ [])
    ∷ []

pub table : List Case
table = alike 1 ++ alike 2 ++ flipping

pub cases : map (λ (c : Case). ask c.version c.script c.question) table ≡ map (λ (c : Case). c.answer) table
unfolding ask alike flipping table flat_map
    Lists.all Lists.distinct Lists.chunks Lists.sum Lists.last_start
    Values.empty_field Values.empty_tables
    Layout.half_pattern Layout.half_part
    Patterns.with_part Patterns.pattern_up_to Patterns.pattern_of Patterns.toggle_fault Patterns.highest_used
    Geometry.end_line Geometry.region_of Geometry.length_in Geometry.line_length Geometry.region_pixels Geometry.pixels_before Geometry.pixel_count
    Geometry.has_pixel
    Ranges.sequence_in Ranges.region_in Ranges.head_in Ranges.gate_in Ranges.subck_in Ranges.shutter_in Ranges.in_range
    Rules.first_broken Rules.starts_right Rules.row_right Rules.pairs_right Rules.mask_right Rules.counts_right Rules.ends_right Rules.second_right
    Rules.gate_right Rules.subck_right Rules.shutter_right Rules.entries_at Rules.lines_right Rules.line_entries Rules.rules_of Rules.entries_of Rules.judge Rules.check_profile
    Script.register_fits Script.sequence_fits Script.has_form Script.field_with Script.fits_with Script.gate_fits Script.subck_fits Script.shutter_fits Script.allowed
    Script.fits Script.with_record Script.step Script.records Script.read_script
    Writing.write_script Writing.write_answer
    Line.line_with Line.no_line Line.line_of
    Word.v_word Word.gate_word Word.word_of
    Fieldwords.line_words Fieldwords.field_words
    Place.level_answer
    Runs.flush Runs.pushed Runs.shut Runs.opened Runs.closed Runs.runs
    Compile.hold_verdict Compile.hold_answer Compile.hold_counts Compile.hold_words Compile.compile_answer Compile.compile_counts Compile.compile_words
    Text.leading_in Text.leading Text.decimal Text.head_line Text.step_line Text.listing Text.printed_answer Text.printed_of Text.printed
cases = refl

-- What the program prints: the answer of an entry point to a question about a script, as text.
-- Assumes nothing.
use Rattle.std.specs.Prelude.{ℕ, List, [], ◌∷◌, ◌++◌, cond, ◌&&◌, length, leb, eqb}
use Rattle.profile.specs.Values.{accepts}
use Rattle.profile.specs.Versions.{newest_rules}
use Rattle.profile.specs.Script.{read_script}
use Rattle.profile.specs.Writing.{longest_script, write_script, write_verdict}
use Rattle.profile.specs.declared.Profile.{Profile}
use Rattle.level.specs.Place.{LevelAnswer, Located, Edge, level_answer, locate_answer, next_edge_answer}
use Rattle.holdlist.specs.Text.{decimal, value_of, hex4, refused_line}
use Rattle.ask.specs.declared.figures.Figures.{Figures}
use Rattle.ask.specs.Figures.{figures_of}
use Rattle.ask.specs.Question.{most_line, line_of, script_of, letter_of, numbers_of, first_of, second_of, alone, with_one, with_two}

-- ---- lines

-- "accepted", "none", "word ", "line ", " pixel "
abbrev pub accepted_line : List ℕ
accepted_line = 97 ∷ 99 ∷ 99 ∷ 101 ∷ 112 ∷ 116 ∷ 101 ∷ 100 ∷ 10 ∷ []

abbrev pub none_line : List ℕ
none_line = 110 ∷ 111 ∷ 110 ∷ 101 ∷ 10 ∷ []

abbrev pub word_word : List ℕ
word_word = 119 ∷ 111 ∷ 114 ∷ 100 ∷ 32 ∷ []

abbrev pub line_word : List ℕ
line_word = 108 ∷ 105 ∷ 110 ∷ 101 ∷ 32 ∷ []

abbrev pub pixel_word : List ℕ
pixel_word = 32 ∷ 112 ∷ 105 ∷ 120 ∷ 101 ∷ 108 ∷ 32 ∷ []

-- a word as in a hold list; a line and a pixel; the figures of a refusal
unfoldable pub word_line : ℕ → List ℕ
word_line word = word_word ++ hex4 word ++ (10 ∷ [])

unfoldable pub place_line : ℕ → ℕ → List ℕ
place_line line pixel = line_word ++ decimal line ++ pixel_word ++ decimal pixel ++ (10 ∷ [])

unfoldable pub figures_line : Figures → List ℕ
figures_line f =
    decimal f.first ++ (32 ∷ []) ++ decimal f.second ++ (32 ∷ []) ++ decimal f.third ++ (32 ∷ []) ++ decimal f.fourth
    ++ (10 ∷ [])

-- ---- answers

unfoldable pub level_text : LevelAnswer → List ℕ
level_text a = cond (accepts a.verdict) (word_line a.word) (refused_line a.verdict)

unfoldable pub locate_text : Located → List ℕ
locate_text a = cond (accepts a.verdict) (place_line a.line a.pixel) (refused_line a.verdict)

-- where the next edge is, or that there is none
unfoldable pub edge_text : Edge → List ℕ
edge_text a = cond (accepts a.verdict) (cond a.found (place_line a.line a.pixel) none_line) (refused_line a.verdict)

-- the script as the writer writes it, into room for the longest
unfoldable pub write_text : Profile → List ℕ
write_text p = cond (accepts (write_verdict newest_rules p longest_script)) (write_script p) (refused_line (write_verdict newest_rules p longest_script))

-- of a script: its refusal, or what its profile gives
unfoldable pub of_profile : (Profile → List ℕ) → List ℕ → List ℕ
of_profile text s = cond (accepts (read_script newest_rules s).verdict) (text (read_script newest_rules s).profile) (refused_line (read_script newest_rules s).verdict)

abbrev pub check_asked : List ℕ → List ℕ
check_asked s = of_profile (λ p. accepted_line) s

abbrev pub write_asked : List ℕ → List ℕ
write_asked s = of_profile write_text s

abbrev pub level_asked : ℕ → ℕ → List ℕ → List ℕ
level_asked line pixel s = of_profile (λ p. level_text (level_answer newest_rules p line pixel)) s

abbrev pub locate_asked : ℕ → List ℕ → List ℕ
locate_asked n s = of_profile (λ p. locate_text (locate_answer newest_rules p n)) s

abbrev pub edge_asked : ℕ → ℕ → List ℕ → List ℕ
edge_asked line pixel s = of_profile (λ p. edge_text (next_edge_answer newest_rules p line pixel)) s

abbrev pub figures_asked : List ℕ → List ℕ
figures_asked s = figures_line (figures_of s)

-- C: check. W: write. L line pixel: the level there. N pixel: the place of a field pixel. E line pixel: the next edge after that pixel. F: the
-- figures of a refusal. Nothing is printed for any other line.
unfoldable pub answer_of : List ℕ → List ℕ → List ℕ
answer_of line s =
    cond (eqb (letter_of line) 67 && alone line) (check_asked s)
    (cond (eqb (letter_of line) 87 && alone line) (write_asked s)
    (cond (eqb (letter_of line) 76 && with_two line) (level_asked (value_of (first_of line)) (value_of (second_of line)) s)
    (cond (eqb (letter_of line) 78 && with_one line) (locate_asked (value_of (numbers_of line)) s)
    (cond (eqb (letter_of line) 69 && with_two line) (edge_asked (value_of (first_of line)) (value_of (second_of line)) s)
    (cond (eqb (letter_of line) 70 && alone line) (figures_asked s) [])))))

-- all that is printed for an input
unfoldable pub asked : List ℕ → List ℕ
asked input = cond (leb (length (line_of input)) most_line) (answer_of (line_of input) (script_of input)) []

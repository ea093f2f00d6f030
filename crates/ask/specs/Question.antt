-- The input of the program: a question on its first line, and after that line a script. A question is a letter and, after a space each, its numbers.
-- Assumes nothing.
use Rattle.std.specs.Prelude.{ℕ, ◌+◌, List, [], ◌∷◌, Bool, cond, ◌&&◌, length, get_or, take, drop, leb, eqb}
use Rattle.std.specs.List.{list_all}

-- where the byte c stands first; the length where it does not stand
unfoldable pub end_of : ℕ → List ℕ → ℕ
end_of c [] = 0
end_of c (x ∷ xs) = cond (eqb x c) 0 (1 + end_of c xs)

-- what comes before the first byte c, and what comes after it
abbrev pub before : ℕ → List ℕ → List ℕ
before c s = take (end_of c s) s

abbrev pub after : ℕ → List ℕ → List ℕ
after c s = drop (end_of c s + 1) s

-- the question, and the script
abbrev pub line_of : List ℕ → List ℕ
line_of input = before 10 input

abbrev pub script_of : List ℕ → List ℕ
script_of input = after 10 input

-- the most bytes of a question: a letter and two numbers of up to 60 digits
abbrev pub most_line : ℕ
most_line = 123

-- a decimal number: digits, one at least
abbrev pub is_digit : ℕ → Bool
is_digit d = leb 48 d && leb d 57

unfoldable pub is_number : List ℕ → Bool
is_number ds = leb 1 (length ds) && list_all is_digit ds

-- the letter, and what is behind the space after it: the first number and, behind another space, the second
abbrev pub letter_of : List ℕ → ℕ
letter_of line = get_or line 0 0

abbrev pub numbers_of : List ℕ → List ℕ
numbers_of line = drop 2 line

abbrev pub first_of : List ℕ → List ℕ
first_of line = before 32 (numbers_of line)

abbrev pub second_of : List ℕ → List ℕ
second_of line = after 32 (numbers_of line)

-- a letter alone, with one number, with two
unfoldable pub alone : List ℕ → Bool
alone line = eqb (length line) 1

unfoldable pub with_one : List ℕ → Bool
with_one line = eqb (get_or line 1 0) 32 && is_number (numbers_of line)

unfoldable pub with_two : List ℕ → Bool
with_two line = eqb (get_or line 1 0) 32 && (is_number (first_of line) && is_number (second_of line))

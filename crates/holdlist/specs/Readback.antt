-- The printed text read back: its lines, the fields of a line, and the numbers that they tell. That what is printed tells S, P and each step, or the
-- verdict of a refusal, and that no other text tells the same, are theorems (proofs/Readback.antt).
-- Assumes nothing.
use Rattle.std.specs.Prelude.{ℕ, ◌+◌, ◌*◌, ◌-◌, ◌≤◌, ◌<◌, ◌≡◌, ◌⊎◌, List, [], ◌∷◌, ◌++◌, cond, length, get_or, ltb, eqb}
use Rattle.profile.specs.declared.Verdict.{Verdict}
use Rattle.holdlist.specs.Text.{value_of}

-- ---- lines and fields

-- the parts of a text between the bytes c, one more than there are such bytes; the first goes on from the bytes in front
unfoldable pub parts_after : ℕ → List ℕ → List ℕ → List (List ℕ)
parts_after c front [] = front ∷ []
parts_after c front (x ∷ xs) = cond (eqb x c) (front ∷ parts_after c [] xs) (parts_after c (front ++ (x ∷ [])) xs)

-- "LF ends each line": what is past the last LF is a part too, and empty
abbrev pub lines_of : List ℕ → List (List ℕ)
lines_of text = parts_after 10 [] text

pub record Lines (text : List ℕ) (n : ℕ) : Type 0 where
  pub many : length (lines_of text) ≡ n + 1
  pub ended : get_or (lines_of text) n [] ≡ []

-- the fields of line i, with one space between each, and field k of them
abbrev pub fields_of : List ℕ → ℕ → List (List ℕ)
fields_of text i = parts_after 32 [] (get_or (lines_of text) i [])

abbrev pub field_at : List ℕ → ℕ → ℕ → List ℕ
field_at text i k = get_or (fields_of text i) k []

-- ---- numbers

-- "decimal": digits alone, and no zero before another digit
pub record Decimal (ds : List ℕ) (n : ℕ) : Type 0 where
  pub some : 1 ≤ length ds
  pub digits : (i : ℕ) → i < length ds → (48 ≤ get_or ds i 0) × (get_or ds i 0 ≤ 57)
  pub no_zero_first : 1 < length ds → 49 ≤ get_or ds 0 0
  pub value : value_of ds ≡ n

-- the number that upper-case hex digits tell after the number a, and that they tell
abbrev pub hex_digit_value : ℕ → ℕ
hex_digit_value d = cond (ltb d 58) (d - 48) (d - 55)

unfoldable pub hex_after : ℕ → List ℕ → ℕ
hex_after a [] = a
hex_after a (d ∷ ds) = hex_after (16 * a + hex_digit_value d) ds

abbrev pub hex_value_of : List ℕ → ℕ
hex_value_of ds = hex_after 0 ds

-- 0 to 9 or A to F
abbrev pub HexDigit : ℕ → Type 0
HexDigit d = ((48 ≤ d) × (d ≤ 57)) ⊎ ((65 ≤ d) × (d ≤ 70))

-- "four upper-case hex digits"
pub record Hex (ds : List ℕ) (word : ℕ) : Type 0 where
  pub four : length ds ≡ 4
  pub digits : (i : ℕ) → i < 4 → HexDigit (get_or ds i 0)
  pub value : hex_value_of ds ≡ word

-- ---- what a text tells

-- "`steps S pixels P`, then each step as decimal count, space, four upper-case hex digits", and nothing else
pub record Tells (text : List ℕ) (steps pixels : ℕ) (counts words : List ℕ) : Type 0 where
  pub lines : Lines text (1 + steps)
  pub head : length (fields_of text 0) ≡ 4
  pub begins : field_at text 0 0 ≡ 115 ∷ 116 ∷ 101 ∷ 112 ∷ 115 ∷ []
  pub steps_told : Decimal (field_at text 0 1) steps
  pub between : field_at text 0 2 ≡ 112 ∷ 105 ∷ 120 ∷ 101 ∷ 108 ∷ 115 ∷ []
  pub pixels_told : Decimal (field_at text 0 3) pixels
  pub step : (i : ℕ) → i < steps → length (fields_of text (1 + i)) ≡ 2
  pub count_told : (i : ℕ) → i < steps → Decimal (field_at text (1 + i) 0) (get_or counts i 0)
  pub word_told : (i : ℕ) → i < steps → Hex (field_at text (1 + i) 1) (get_or words i 0)

-- "or `refused N P` alone", and for 10 "`refused 10 P O T`"
pub record TellsRefusal (text : List ℕ) (v : Verdict) : Type 0 where
  pub lines : Lines text 1
  pub head : length (fields_of text 0) ≡ cond (eqb v.number 10) 5 3
  pub begins : field_at text 0 0 ≡ 114 ∷ 101 ∷ 102 ∷ 117 ∷ 115 ∷ 101 ∷ 100 ∷ []
  pub number_told : Decimal (field_at text 0 1) v.number
  pub place_told : Decimal (field_at text 0 2) v.place
  pub output_told : v.number ≡ 10 → Decimal (field_at text 0 3) v.output
  pub toggle_told : v.number ≡ 10 → Decimal (field_at text 0 4) v.toggle

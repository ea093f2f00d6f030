-- What each of the 240 half registers holds, 01's layout, and what the numbers of the constant table name.
-- Half registers are counted by address, low half first: those of address a are 2a and 2a + 1.
-- Assumes nothing.
use Rattle.std.specs.Prelude.{ℕ, ◌/◌, ◌%◌, ◌≤◌, ◌<◌, ◌≡◌, List, [], ◌∷◌, cond, length, get_or, eqb}
use Rattle.profile.specs.declared.layout.Part.{Part}
use Rattle.profile.specs.declared.layout.Part.TheVariants.{Levels, Length, Toggle, Freeze, Resume}

-- ---- the layout

-- a pattern's 12 registers, half by half: "Word 0: .. start levels .., length. Words 1..9: the 18 toggles V1 first to V6 third, low half .. then
-- high half .. Words 10, 11: freeze 1, resume 1, freeze 2, resume 2."
abbrev pub parts : List Part
parts =
    Levels ∷ Length
    ∷ Toggle 1 1 ∷ Toggle 1 2 ∷ Toggle 1 3
    ∷ Toggle 2 1 ∷ Toggle 2 2 ∷ Toggle 2 3
    ∷ Toggle 3 1 ∷ Toggle 3 2 ∷ Toggle 3 3
    ∷ Toggle 4 1 ∷ Toggle 4 2 ∷ Toggle 4 3
    ∷ Toggle 5 1 ∷ Toggle 5 2 ∷ Toggle 5 3
    ∷ Toggle 6 1 ∷ Toggle 6 2 ∷ Toggle 6 3
    ∷ Freeze 1 ∷ Resume 1 ∷ Freeze 2 ∷ Resume 2
    ∷ []

-- "Pattern k has 12 registers from address 12k", so 24 halves: the pattern of half register i, and its part of it
unfoldable pub half_pattern : ℕ → ℕ
half_pattern i = i / 24

unfoldable pub half_part : ℕ → Part
half_part i = get_or parts (i % 24) Levels

-- a part that a pattern has: six outputs of three toggles, two pairs
abbrev pub IsPart : Part → Type 0
IsPart Levels = Unit {0}
IsPart Length = Unit {0}
IsPart (Toggle output toggle) = (1 ≤ output) × (output ≤ 6) × (1 ≤ toggle) × (toggle ≤ 3)
IsPart (Freeze pair) = (1 ≤ pair) × (pair ≤ 2)
IsPart (Resume pair) = (1 ≤ pair) × (pair ≤ 2)

-- the most that a part can be: start levels have bits 0..5, "bits 6..11 must be 0"; the other parts have twelve bits
abbrev pub part_limit : Part → ℕ
part_limit Levels = 63
part_limit Length = 4095
part_limit (Toggle output toggle) = 4095
part_limit (Freeze pair) = 4095
part_limit (Resume pair) = 4095

abbrev pub half_limit : ℕ → ℕ
half_limit i = part_limit (half_part i)

-- ---- the table

-- the meaning of an entry: four digits to base 16. The first is the pattern.
abbrev pub pattern_named : ℕ → ℕ
pattern_named entry = entry / 4096

-- The second is the part: 1 start levels, 2 length, 3 toggle, 4 freeze, any other (5 in the table) resume; the third is a toggle's output, the last
-- the number of the toggle or of the pair.
abbrev pub part_by : ℕ → ℕ → ℕ → Part
part_by part output number =
    cond (eqb part 1) Levels
    (cond (eqb part 2) Length (cond (eqb part 3) (Toggle output number) (cond (eqb part 4) (Freeze number) (Resume number))))

abbrev pub part_named : ℕ → Part
part_named entry = part_by (entry / 256 % 16) (entry / 16 % 16) (entry % 16)

-- a table that names, at every half register, the pattern and the part that the layout has there
pub record Follows (table : List ℕ) : Type 0 where
  pub size : length table ≡ 240
  pub pattern : (i : ℕ) → i < 240 → pattern_named (get_or table i 0) ≡ half_pattern i
  pub part : (i : ℕ) → i < 240 → part_named (get_or table i 0) ≡ half_part i

-- a table in which exactly one entry names a part of a pattern
pub record OneEntry (table : List ℕ) (k : ℕ) (a : Part) : Type 0 where
  pub at : ℕ
  pub within : at < 240
  pub pattern : pattern_named (get_or table at 0) ≡ k
  pub part : part_named (get_or table at 0) ≡ a
  pub only : (i : ℕ) → i < 240 → pattern_named (get_or table i 0) ≡ k → part_named (get_or table i 0) ≡ a → i ≡ at

-- every part of every pattern has exactly one entry
abbrev pub EachOnce : List ℕ → Type 0
EachOnce table = (k : ℕ) → k < 10 → (a : Part) → IsPart a → OneEntry table k a

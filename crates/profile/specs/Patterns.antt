-- A pattern out of the half registers, which of its toggles are used by mode, their order, and the highest of them.
-- Assumes nothing.
use Rattle.std.specs.Prelude.{ℕ, zero, suc, ◌+◌, ◌-◌, ◌*◌, max, List, [], ◌∷◌, Bool, true, false, cond, Option, None, Some, not, ◌&&◌, ◌||◌, get_or, set, replicate, ltb, eqb}
use Rattle.profile.specs.Layout.{half_pattern, half_part}
use Rattle.profile.specs.declared.layout.Part.{Part}
use Rattle.profile.specs.declared.layout.Part.TheVariants.{Levels, Length, Toggle, Freeze, Resume}
use Rattle.profile.specs.declared.Mode.{Mode}
use Rattle.profile.specs.declared.Mode.TheVariants.{Plain, Sweep, Multiplier}
use Rattle.profile.specs.declared.Pattern.{Pattern}

-- a pattern of its parts
abbrev pub of_parts : ℕ → ℕ → List ℕ → ℕ → ℕ → ℕ → ℕ → Pattern
of_parts levels length toggles f1 r1 f2 r2 =
    record { levels = levels; length = length; toggles = toggles; freeze1 = f1; resume1 = r1; freeze2 = f2; resume2 = r2 }

-- all zeros
abbrev pub empty_pattern : Pattern
empty_pattern = of_parts 0 0 (replicate 18 0) 0 0 0 0

-- "the 18 toggles V1 first to V6 third": where those of output k stand, V1 being output 0
abbrev pub row_start : ℕ → ℕ
row_start k = 3 * k

-- toggles with one replaced, output and toggle counted from 1
abbrev pub with_toggle : ℕ → ℕ → ℕ → List ℕ → List ℕ
with_toggle output toggle x toggles = set toggles (row_start (output - 1) + (toggle - 1)) x

-- a pattern with one part replaced; a pair other than the first is the second
unfoldable pub with_part : Part → ℕ → Pattern → Pattern
with_part Levels x a = of_parts x a.length a.toggles a.freeze1 a.resume1 a.freeze2 a.resume2
with_part Length x a = of_parts a.levels x a.toggles a.freeze1 a.resume1 a.freeze2 a.resume2
with_part (Toggle output toggle) x a =
    of_parts a.levels a.length (with_toggle output toggle x a.toggles) a.freeze1 a.resume1 a.freeze2 a.resume2
with_part (Freeze pair) x a =
    cond (eqb pair 1)
    (of_parts a.levels a.length a.toggles x a.resume1 a.freeze2 a.resume2)
    (of_parts a.levels a.length a.toggles a.freeze1 a.resume1 x a.resume2)
with_part (Resume pair) x a =
    cond (eqb pair 1)
    (of_parts a.levels a.length a.toggles a.freeze1 x a.freeze2 a.resume2)
    (of_parts a.levels a.length a.toggles a.freeze1 a.resume1 a.freeze2 x)

-- pattern k out of the first n half registers: each that is of pattern k goes into its part
unfoldable pub pattern_up_to : List ℕ → ℕ → ℕ → Pattern
pattern_up_to registers k zero = empty_pattern
pattern_up_to registers k (suc n) =
    cond (eqb (half_pattern n) k) (with_part (half_part n) (get_or registers n 0) (pattern_up_to registers k n)) (pattern_up_to registers k n)

-- out of all
unfoldable pub pattern_of : List ℕ → ℕ → Pattern
pattern_of registers k = pattern_up_to registers k 240

-- "A pattern is six outputs of three toggles each": the three toggles of output k
abbrev pub row_of : List ℕ → ℕ → List ℕ
row_of toggles k = get_or toggles (row_start k) 0 ∷ get_or toggles (row_start k + 1) 0 ∷ get_or toggles (row_start k + 2) 0 ∷ []

-- all six
abbrev pub rows_of : List ℕ → List (List ℕ)
rows_of toggles =
    row_of toggles 0 ∷ row_of toggles 1 ∷ row_of toggles 2 ∷ row_of toggles 3 ∷ row_of toggles 4 ∷ row_of toggles 5 ∷ []

abbrev pub is_plain : Mode → Bool
is_plain Plain = true
is_plain Sweep = false
is_plain Multiplier = false

-- "Multiplier and second pattern: 4095 is unused, and nothing else."
abbrev pub not4095 : ℕ → Bool
not4095 x = not (eqb x 4095)

-- "plain and sweep: a toggle at or above the pattern length is unused"
abbrev pub used : Mode → ℕ → ℕ → Bool
used Plain length x = ltb x length
used Sweep length x = ltb x length
used Multiplier length x = not4095 x

-- toggle y may follow toggle x: it is unused, or both are used and rise
abbrev pub follows : (ℕ → Bool) → ℕ → ℕ → Bool
follows uses x y = not (uses y) || uses x && ltb x y

-- toggle j, 2 or 3, of an output's three is in order: it may follow the one before
abbrev pub in_order : (ℕ → Bool) → List ℕ → ℕ → Bool
in_order uses row j = follows uses (get_or row (j - 2) 0) (get_or row (j - 1) 0)

-- "For each output, used toggles come first and rise strictly": 0, or the first used toggle out of order, 2 or 3
unfoldable pub toggle_fault : (ℕ → Bool) → List ℕ → ℕ
toggle_fault uses row = cond (in_order uses row 2) (cond (in_order uses row 3) 0 3) 2

-- the toggle that a fault names, where there is one
abbrev pub fault_named : ℕ → Option ℕ
fault_named fault = cond (eqb fault 0) None (Some fault)

-- a toggle that multiplier uses; an unused one counts as 0
abbrev pub used_or0 : ℕ → ℕ
used_or0 x = cond (not4095 x) x 0

-- the highest used toggle of an output, 0 if none
abbrev pub highest_in : List ℕ → ℕ
highest_in row = max (max (used_or0 (get_or row 0 0)) (used_or0 (get_or row 1 0))) (used_or0 (get_or row 2 0))

-- the highest used toggle of the first n outputs, 0 if none
unfoldable pub highest_used : (ℕ → List ℕ) → ℕ → ℕ
highest_used row zero = 0
highest_used row (suc n) = max (highest_used row n) (highest_in (row n))

-- The rules over a profile as one ordered list of entries, and the first that does not hold.
-- Assumes nothing.
use Rattle.std.specs.Prelude.{ℕ, ◌+◌, ◌-◌, ◌*◌, ◌/◌, ◌%◌, ◌^◌, Bool, true, cond, not, ◌&&◌, ◌||◌, ltb, leb, eqb}
use mathlib.Core.List.{List, [], ◌∷◌, ◌++◌, map, flat_map}
use Rattle.profile.specs.Lists.{all, distinct, chunks}
use Rattle.profile.specs.Values.{none, accepted, refused, refused_toggle}
use Rattle.profile.specs.Patterns.{pattern_of, row_of, is_plain, not4095, used, in_order, toggle_fault, highest_used}
use Rattle.profile.specs.Geometry.{
  region_count,
  region_at,
  first_line,
  region_of,
  gate_of,
  shutter_of,
  sequence_at,
  pattern_at,
  line_length,
  region_size,
  has_pixel,
  repetitions,
  gate_lines,
}
use Rattle.profile.specs.Ranges.{in_range}
use Rattle.profile.specs.declared.Mode.{Mode}
use Rattle.profile.specs.declared.Mode.TheVariants.{Plain, Sweep, Multiplier}
use Rattle.profile.specs.declared.Sequence.{Sequence}
use Rattle.profile.specs.declared.Pattern.{Pattern}
use Rattle.profile.specs.declared.Gate.{Gate}
use Rattle.profile.specs.declared.Subck.{Subck}
use Rattle.profile.specs.declared.Shutter.{Shutter}
use Rattle.profile.specs.declared.Tables.{Tables}
use Rattle.profile.specs.declared.Field.{Field}
use Rattle.profile.specs.declared.Profile.{Profile}
use Rattle.profile.specs.declared.Verdict.{Verdict}
use Rattle.profile.specs.declared.Ruleset.{Ruleset}

-- a rule at a place: what is answered where it does not hold, and whether it does
pub record Entry : Type 0 where
  pub verdict : Verdict
  pub holds : Bool

abbrev pub rule : ℕ → ℕ → Bool → Entry
rule number place holds = record { verdict = refused number place; holds = holds }

-- the verdict of the first entry that does not hold
unfoldable pub first_broken : List Entry → Verdict
first_broken [] = accepted
first_broken (e ∷ es) = cond e.holds (first_broken es) e.verdict

-- 7: "the first region starts at line 0, starts rise strictly, each is below the line count"
unfoldable pub starts_right : Field → ℕ → Bool
starts_right f i =
    ltb (first_line f i) f.lines
    && cond (eqb i 0) (eqb (first_line f i) 0) (ltb (first_line f (i - 1)) (first_line f i))

-- all toggles of one output, in the order of 10: what 14 asks of each output of a second pattern
unfoldable pub row_right : (ℕ → Bool) → List ℕ → Bool
row_right uses row = eqb (toggle_fault uses row) 0

-- 11: "a mask bit turns on its pair (bit 0 pair 1, bit 1 pair 2) of the region's pattern"
abbrev pub pair_on : ℕ → ℕ → Bool
pair_on mask pair = eqb (mask / 2 ^ (pair - 1) % 2) 1

-- 11, plain: "Each pair turned on has freeze below resume; with both, resume 1 is at most freeze 2."
unfoldable pub pairs_right : ℕ → Pattern → Bool
pairs_right mask a =
    (not (pair_on mask 1) || ltb a.freeze1 a.resume1)
    && (not (pair_on mask 2) || ltb a.freeze2 a.resume2)
    && (not (pair_on mask 1 && pair_on mask 2) || leb a.resume1 a.freeze2)

-- 11: "A mask is 0 in sweep and multiplier."
unfoldable pub mask_right : Mode → ℕ → Pattern → Bool
mask_right Plain mask a = pairs_right mask a
mask_right Sweep mask a = eqb mask 0
mask_right Multiplier mask a = eqb mask 0

-- 12: "sweep: both counts are equal. Multiplier: both equal the highest used toggle of all six outputs, 0 if none"
unfoldable pub counts_right : Mode → Sequence → Pattern → Bool
counts_right Plain s a = true
counts_right Sweep s a = eqb s.odd s.even
counts_right Multiplier s a =
    eqb s.odd (highest_used (row_of a.toggles) 6) && eqb s.even (highest_used (row_of a.toggles) 6)

-- 13: "sweep and multiplier: start + repetitions × length is at most the region's size"
unfoldable pub ends_right : Mode → Sequence → Pattern → ℕ → Bool
ends_right Plain s a size = true
ends_right Sweep s a size = leb (s.start + s.odd * a.length) size
ends_right Multiplier s a size = leb (s.start + s.odd * a.length) size

-- 14: "if that line's repetitions r are not 0, start + r × first length is at most the second's length"
abbrev pub first_ends : Sequence → ℕ → ℕ → ℕ → Bool
first_ends s line firstLength secondLength =
    eqb (repetitions s line) 0 || leb (s.start + repetitions s line * firstLength) secondLength

-- 14: a second pattern a on gate line g: "its line lies in a plain region, its length is not 0, its toggles obey 10, its length is below
-- the gate line's length", and the first pattern has ended
unfoldable pub second_right : Tables → Field → Pattern → ℕ → Bool
second_right t f a g =
    is_plain (region_at f (region_of f g)).mode
    && not (eqb a.length 0)
    && all (chunks 6 (λ k. row_right not4095 (row_of a.toggles k) ∷ []))
    && ltb a.length (line_length t f g)
    && first_ends (sequence_at t f (region_of f g)) g (pattern_at t f (region_of f g)).length a.length

-- whether the field has a second pattern: "65,535 for none"
abbrev pub has_second : Field → Bool
has_second f = not (eqb f.second none)

abbrev pub second_of : Tables → Field → Pattern
second_of t f = pattern_of t.registers f.second

-- 15: "a gate that is on has toggle 1 below toggle 2 below the gate line's length"
abbrev pub gate_on : Gate → Bool
gate_on g = g.present && eqb g.on 1

unfoldable pub gate_right : Gate → ℕ → Bool
gate_right g length = not (gate_on g) || ltb g.toggle1 g.toggle2 && ltb g.toggle2 length

-- 16: "toggle 1 below toggle 2, suppressed lines at least 1"
unfoldable pub subck_right : Subck → Bool
subck_right s = not s.present || ltb s.toggle1 s.toggle2 && leb 1 s.suppressed

-- one place comes before another: "line, then pixel"
abbrev pub comes_before : ℕ → ℕ → ℕ → ℕ → Bool
comes_before line pixel line' pixel' = ltb line line' || eqb line line' && ltb pixel pixel'

-- 17: "both places exist in the field, and on comes before off"
unfoldable pub shutter_right : Tables → Field → Shutter → Bool
shutter_right t f s =
    not s.present
    || has_pixel t f s.on_line s.on_pixel
    && has_pixel t f s.off_line s.off_pixel
    && comes_before s.on_line s.on_pixel s.off_line s.off_pixel

-- "7 for all regions"
abbrev pub order_entries : Field → ℕ → List Entry
order_entries f i = rule 7 i (starts_right f i) ∷ []

-- 10 of region i at toggle j of output k, V1 being output 0, whose three toggles are a row; where it does not hold, the output, counted from 1,
-- and the toggle are answered with it
abbrev pub toggle_rule : ℕ → (ℕ → Bool) → List ℕ → ℕ → ℕ → Entry
toggle_rule i uses row k j = record { verdict = refused_toggle i (k + 1) j; holds = in_order uses row j }

-- 10 of one output: its second toggle, then its third
abbrev pub row_entries : ℕ → (ℕ → Bool) → List ℕ → ℕ → List Entry
row_entries i uses row k = toggle_rule i uses row k 2 ∷ toggle_rule i uses row k 3 ∷ []

-- "the lowest output first"
abbrev pub toggle_entries : ℕ → Mode → Pattern → ℕ → List Entry
toggle_entries i m a k = row_entries i (used m a.length) (row_of a.toggles k) k

-- 11 to 13 of region i
abbrev pub run_entries : ℕ → Mode → Sequence → Pattern → ℕ → List Entry
run_entries i m s a size =
    rule 11 i (mask_right m s.mask a)
    ∷ rule 12 i (counts_right m s a)
    ∷ rule 13 i (ends_right m s a size)
    ∷ []

-- 8 to 13 of region i, with its mode, its sequence, that sequence's pattern and its size
unfoldable pub entries_at : ℕ → Mode → Sequence → Pattern → ℕ → List Entry
entries_at i m s a size =
    rule 8 i s.present ∷ rule 9 i (not (eqb a.length 0)) ∷ chunks 6 (toggle_entries i m a) ++ run_entries i m s a size

-- "then, region by region, 8 to 13"
abbrev pub region_entries : Tables → Field → ℕ → List Entry
region_entries t f i = entries_at i (region_at f i).mode (sequence_at t f i) (pattern_at t f i) (region_size t f i)

-- 14: the gate lines "must differ and lie in the field"
unfoldable pub lines_right : Field → Bool
lines_right f = all (map (λ (g : ℕ). ltb g f.lines) (gate_lines f)) && distinct (gate_lines f)

-- "then 14": the gate lines are right, and the second pattern is right on each
unfoldable pub line_entries : Tables → Field → List Entry
line_entries t f =
    rule 14 0 (lines_right f)
    ∷ rule 14 0 (not (has_second f) || all (map (second_right t f (second_of t f)) (gate_lines f)))
    ∷ []

-- "15 by gate", on every gate line
abbrev pub gate_entries : Tables → Field → ℕ → List Entry
gate_entries t f k =
    rule 15 k (all (map (λ (g : ℕ). gate_right (gate_of t k) (line_length t f g)) (gate_lines f))) ∷ []

abbrev pub subck_entries : Tables → List Entry
subck_entries t = rule 16 0 (subck_right t.subck) ∷ []

-- "17 (MSHUT first)"
abbrev pub shutter_entries : Tables → Field → ℕ → List Entry
shutter_entries t f k = rule 17 k (shutter_right t f (shutter_of t k)) ∷ []

-- 7 to 17 of a field; by every version of the rules the same (proofs/Alike.antt)
unfoldable pub rules_of : Ruleset → Tables → Field → List Entry
rules_of rules t f =
    chunks (region_count f) (order_entries f)
    ++ chunks (region_count f) (region_entries t f)
    ++ line_entries t f
    ++ chunks 5 (gate_entries t f)
    ++ subck_entries t
    ++ chunks 2 (shutter_entries t f)

-- the fields of a frame's places: there is one place
abbrev pub fields_of : Profile → List Field
fields_of p = p.field ∷ []

-- "then 6", for each place; then 7 to 17 of each place's field
unfoldable pub entries_of : Ruleset → Profile → List Entry
entries_of rules p = map (λ (f : Field). rule 6 0 f.present) (fields_of p) ++ flat_map (rules_of rules p.tables) (fields_of p)

-- what is judged of a profile whose numbers are in range
unfoldable pub judge : Ruleset → Profile → Verdict
judge rules p = first_broken (entries_of rules p)

-- a profile handed in: 5, then 6 to 17
unfoldable pub check_profile : Ruleset → Profile → Verdict
check_profile rules p = cond (in_range p) (judge rules p) (refused 5 0)

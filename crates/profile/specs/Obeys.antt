-- The ranges and the rules once more, as propositions in document 01's own words (10, 14 and 15 in 02's): its table "Numbers of refusal", 5 to 17, as one row
-- a number, with the verdicts that name it and its sentence, and the order of the verdicts. That a profile is accepted exactly where every row holds, and
-- is refused with the verdict of the first that does not, is a theorem (proofs/Accepted.antt), so that no rule can be missing from the list of
-- tests (specs/Rules.antt), and none can have another number, place, output, toggle or turn there.
-- Assumes nothing.
use Rattle.std.specs.Prelude.{ℕ, ◌+◌, ◌-◌, ◌*◌, ◌/◌, ◌%◌, ◌^◌, ◌≤◌, ◌<◌, ◌≡◌, ◌⊎◌, List, [], ◌∷◌, Bool, true, false, cond, ◌&&◌, length, get_or, ltb, leb}
use Rattle.profile.specs.Lists.{Each}
use Rattle.profile.specs.Values.{none, empty_region, empty_sequence, empty_gate, empty_subck, empty_shutter, refused}
use Rattle.profile.specs.Layout.{half_part}
use Rattle.profile.specs.Patterns.{row_of}
use Rattle.profile.specs.Geometry.{
  region_count,
  region_at,
  first_line,
  region_of,
  sequence_of,
  gate_of,
  shutter_of,
  sequence_at,
  pattern_at,
  line_length,
  region_size,
  repetitions,
  gate_lines,
}
use Rattle.profile.specs.Rules.{second_of, fields_of}
use Rattle.profile.specs.declared.layout.Part.TheVariants.{Levels}
use Rattle.profile.specs.declared.Mode.{Mode}
use Rattle.profile.specs.declared.Mode.TheVariants.{Plain, Sweep, Multiplier}
use Rattle.profile.specs.declared.Region.{Region}
use Rattle.profile.specs.declared.Sequence.{Sequence}
use Rattle.profile.specs.declared.Pattern.{Pattern}
use Rattle.profile.specs.declared.Gate.{Gate}
use Rattle.profile.specs.declared.Subck.{Subck}
use Rattle.profile.specs.declared.Shutter.{Shutter}
use Rattle.profile.specs.declared.Tables.{Tables}
use Rattle.profile.specs.declared.Field.{Field}
use Rattle.profile.specs.declared.Profile.{Profile}
use Rattle.profile.specs.declared.Verdict.{Verdict}
use Rattle.profile.specs.declared.Ruleset.{Ruleset}

-- ---- ranges: what a record can carry; an absent item is all zeros

-- number x as half register i: it has twelve bits; of start levels "bits 6..11 must be 0"
pub record HalfRanged (i x : ℕ) : Type 0 where
  pub bits : x ≤ 4095
  pub levels : half_part i ≡ Levels → x ≤ 63

pub record SequenceRanged (s : Sequence) : Type 0 where
  pub pattern : s.pattern ≤ 9
  pub shortest : 1 ≤ s.length
  pub longest : s.length ≤ 4095
  pub start : s.start ≤ 4095
  pub odd : s.odd ≤ 4095
  pub even : s.even ≤ 4095
  pub mask : s.mask ≤ 3

pub record FieldRanged (f : Field) : Type 0 where
  pub second_line : (f.gate2 ≡ none) ⊎ (f.gate2 ≤ 4094)
  pub second : (f.second ≡ none) ⊎ (f.second ≤ 9)
  pub some_lines : 1 ≤ f.lines
  pub most_lines : f.lines ≤ 4095
  pub shortest : 1 ≤ f.last
  pub longest : f.last ≤ 4095
  pub gate : f.gate ≤ 4094
  pub some_regions : 1 ≤ f.count
  pub most_regions : f.count ≤ 7

pub record GateRanged (g : Gate) : Type 0 where
  pub on : g.on ≤ 1
  pub level : g.level ≤ 1
  pub toggle1 : g.toggle1 ≤ 4095
  pub toggle2 : g.toggle2 ≤ 4095

pub record SubckRanged (s : Subck) : Type 0 where
  pub level : s.level ≤ 1
  pub toggle1 : s.toggle1 ≤ 4095
  pub toggle2 : s.toggle2 ≤ 4095
  pub suppressed : s.suppressed ≤ 4095
  pub count : s.count ≤ 4095

pub record ShutterRanged (s : Shutter) : Type 0 where
  pub active : s.active ≤ 1
  pub on_line : s.on_line ≤ 4095
  pub on_pixel : s.on_pixel ≤ 4095
  pub off_line : s.off_line ≤ 4095
  pub off_pixel : s.off_pixel ≤ 4095

pub record RegionRanged (r : Region) : Type 0 where
  pub first : r.first ≤ 4094
  pub sequence : r.sequence ≤ 9

-- "a number no record can carry, or an absent item (a region past n too) that is not all zeros" is out of range: what holds of an item that is
-- present, and of one that is absent
abbrev pub Given : Bool → Type 0 → Type 0 → Type 0
Given present Carried Empty = (present ≡ true → Carried) × (present ≡ false → Empty)

-- a field and its regions: a region is present where its number is below n
pub record FieldIn (f : Field) : Type 0 where
  pub head : Given f.present (FieldRanged f)
      ((f.lines ≡ 0) × (f.last ≡ 0) × (f.gate ≡ 0) × (f.gate2 ≡ 0) × (f.second ≡ 0) × (f.count ≡ 0))
  pub regions : (i : ℕ) → i < 7 → Given (ltb i f.count) (RegionRanged (region_at f i)) (region_at f i ≡ empty_region)

abbrev pub SequenceIn : Sequence → Type 0
SequenceIn s = Given s.present (SequenceRanged s) (s ≡ empty_sequence)

abbrev pub GateIn : Gate → Type 0
GateIn g = Given g.present (GateRanged g) (g ≡ empty_gate)

abbrev pub SubckIn : Subck → Type 0
SubckIn s = Given s.present (SubckRanged s) (s ≡ empty_subck)

abbrev pub ShutterIn : Shutter → Type 0
ShutterIn s = Given s.present (ShutterRanged s) (s ≡ empty_shutter)

pub record Ranged (p : Profile) : Type 0 where
  pub halves : (i : ℕ) → i < 240 → HalfRanged i (get_or p.tables.registers i 0)
  pub sequences : (k : ℕ) → k < 10 → SequenceIn (sequence_of p.tables k)
  pub gates : (k : ℕ) → k < 5 → GateIn (gate_of p.tables k)
  pub subck : SubckIn p.tables.subck
  pub shutters : (k : ℕ) → k < 2 → ShutterIn (shutter_of p.tables k)
  pub field : FieldIn p.field

-- ---- rules

-- "Multiplier and second pattern: 4095 is unused, and nothing else."
abbrev pub Not4095 : ℕ → Type 0
Not4095 x = x ≡ 4095 → ⊥

-- "plain and sweep: a toggle at or above the pattern length is unused"
abbrev pub Used : Mode → ℕ → ℕ → Type 0
Used Plain length x = x < length
Used Sweep length x = x < length
Used Multiplier length x = Not4095 x

-- "For each output, used toggles come first and rise strictly": of one output's three toggles
abbrev pub Rises : (ℕ → Type 0) → List ℕ → Type 0
Rises Uses row =
    (i j : ℕ) → i < j → j < 3 → Uses (get_or row j 0) → Uses (get_or row i 0) × (get_or row i 0 < get_or row j 0)

-- and of one toggle, 2 or 3, of the three: it is not "after an unused one, or not above the one before"
abbrev pub InOrder : (ℕ → Type 0) → List ℕ → ℕ → Type 0
InOrder Uses row j = Uses (get_or row (j - 1) 0) → Uses (get_or row (j - 2) 0) × (get_or row (j - 2) 0 < get_or row (j - 1) 0)

-- "a mask bit turns on its pair. Each pair turned on has freeze below resume; with both, resume 1 is at most freeze 2. A mask is 0 in sweep
-- and multiplier."
abbrev pub PairOn : ℕ → ℕ → Type 0
PairOn mask pair = mask / 2 ^ (pair - 1) % 2 ≡ 1

abbrev pub Masks : Mode → ℕ → Pattern → Type 0
Masks Plain mask a =
    (PairOn mask 1 → a.freeze1 < a.resume1) × (PairOn mask 2 → a.freeze2 < a.resume2)
    × (PairOn mask 1 → PairOn mask 2 → a.resume1 ≤ a.freeze2)
Masks Sweep mask a = mask ≡ 0
Masks Multiplier mask a = mask ≡ 0

-- "the highest used toggle of all six outputs, 0 if none": toggle j of output k
pub record Highest (a : Pattern) (h : ℕ) : Type 0 where
  pub above : (k j : ℕ) → k < 6 → j < 3 → Not4095 (get_or (row_of a.toggles k) j 0) → get_or (row_of a.toggles k) j 0 ≤ h
  pub is : (h ≡ 0) ⊎ ((k : ℕ) × (j : ℕ) × (k < 6) × (j < 3) × Not4095 h × (get_or (row_of a.toggles k) j 0 ≡ h))

-- "sweep: both counts are equal. Multiplier: both equal the highest used toggle of all six outputs, 0 if none"
abbrev pub Counts : Mode → Sequence → Pattern → Type 0
Counts Plain s a = Unit {0}
Counts Sweep s a = s.odd ≡ s.even
Counts Multiplier s a = Highest a s.odd × Highest a s.even

-- "sweep and multiplier: start + repetitions × length is at most the region's size"
abbrev pub Ends : Mode → Sequence → Pattern → ℕ → Type 0
Ends Plain s a size = Unit {0}
Ends Sweep s a size = s.start + s.odd * a.length ≤ size
Ends Multiplier s a size = s.start + s.odd * a.length ≤ size

-- "its line lies in a plain region, its length is not 0, its toggles obey 10, its length is below the gate line's length, and if that line's
-- repetitions r are not 0, start + r × first length is at most the second's length"
pub record Seconds (t : Tables) (f : Field) (a : Pattern) (line : ℕ) : Type 0 where
  pub plain : (region_at f (region_of f line)).mode ≡ Plain
  pub length : a.length ≡ 0 → ⊥
  pub toggles : (k : ℕ) → k < 6 → Rises Not4095 (row_of a.toggles k)
  pub shorter : a.length < line_length t f line
  pub first_ended : (repetitions (sequence_at t f (region_of f line)) line ≡ 0 → ⊥)
      → (sequence_at t f (region_of f line)).start
      + repetitions (sequence_at t f (region_of f line)) line * (pattern_at t f (region_of f line)).length
      ≤ a.length

-- a place exists in the field, and one comes before another: "line, then pixel"
abbrev pub Exists : Tables → Field → ℕ → ℕ → Type 0
Exists t f line pixel = (line < f.lines) × (pixel < line_length t f line)

abbrev pub Before : ℕ → ℕ → ℕ → ℕ → Type 0
Before line pixel line' pixel' = (line < line') ⊎ ((line ≡ line') × (pixel < pixel'))

abbrev pub Shuts : Tables → Field → Shutter → Type 0
Shuts t f s =
    Exists t f s.on_line s.on_pixel × Exists t f s.off_line s.off_pixel
    × Before s.on_line s.on_pixel s.off_line s.off_pixel

-- 7 at region i: "the first region starts at line 0, starts rise strictly, each is below the line count"
abbrev pub Starts : Field → ℕ → Type 0
Starts f i = (first_line f i < f.lines) × (i ≡ 0 → first_line f i ≡ 0) × ((i ≡ 0 → ⊥) → first_line f (i - 1) < first_line f i)

-- two numbers of a list, at any two places, differ
abbrev pub Differ : List ℕ → Type 0
Differ l = (i j : ℕ) → i < j → j < length l → get_or l i 0 ≡ get_or l j 0 → ⊥

-- 14: the gate lines "must differ and lie in the field", and the second pattern, on each gate line
pub record Transfers (t : Tables) (f : Field) : Type 0 where
  pub inside : Each (λ g. g < f.lines) (gate_lines f)
  pub differ : Differ (gate_lines f)
  pub second : (f.second ≡ none → ⊥) → Each (Seconds t f (second_of t f)) (gate_lines f)

-- 15: "a gate that is on has toggle 1 below toggle 2 below the gate line's length"
abbrev pub Pulses : Gate → ℕ → Type 0
Pulses g length = g.present ≡ true → g.on ≡ 1 → (g.toggle1 < g.toggle2) × (g.toggle2 < length)

-- 16: "toggle 1 below toggle 2, suppressed lines at least 1"
abbrev pub Suppresses : Subck → Type 0
Suppresses s = s.present ≡ true → (s.toggle1 < s.toggle2) × (1 ≤ s.suppressed)

-- the rule of a field that verdict v names holds: a row a number, with the verdicts that name it and what it says there; no other verdict
-- names anything
pub record FieldRule (rules : Ruleset) (t : Tables) (f : Field) (v : Verdict) : Type 0 where
  pub region_order : (i : ℕ) → v ≡ refused 7 i → i < region_count f → Starts f i
  pub sequence_given : (i : ℕ) → v ≡ refused 8 i → i < region_count f → (sequence_at t f i).present ≡ true
  pub pattern-length : (i : ℕ) → v ≡ refused 9 i → i < region_count f → (pattern_at t f i).length ≡ 0 → ⊥
  pub toggle_order : (i k j : ℕ) → v ≡ record { number = 10; place = i; output = k + 1; toggle = j } → i < region_count f → k < 6
      → (j ≡ 2) ⊎ (j ≡ 3)
      → InOrder (Used (region_at f i).mode (pattern_at t f i).length) (row_of (pattern_at t f i).toggles k) j
  pub mask : (i : ℕ) → v ≡ refused 11 i → i < region_count f → Masks (region_at f i).mode (sequence_at t f i).mask (pattern_at t f i)
  pub repetitions : (i : ℕ) → v ≡ refused 12 i → i < region_count f → Counts (region_at f i).mode (sequence_at t f i) (pattern_at t f i)
  pub run_ends : (i : ℕ) → v ≡ refused 13 i → i < region_count f
      → Ends (region_at f i).mode (sequence_at t f i) (pattern_at t f i) (region_size t f i)
  pub gate_line : v ≡ refused 14 0 → Transfers t f
  pub gate_pulse : (k : ℕ) → v ≡ refused 15 k → k < 5 → Each (λ g. Pulses (gate_of t k) (line_length t f g)) (gate_lines f)
  pub subck : v ≡ refused 16 0 → Suppresses t.subck
  pub shutter : (k : ℕ) → v ≡ refused 17 k → k < 2 → (shutter_of t k).present ≡ true → Shuts t f (shutter_of t k)

-- the rule of a profile that verdict v names holds
pub record Rule (rules : Ruleset) (p : Profile) (v : Verdict) : Type 0 where
  pub values : v ≡ refused 5 0 → Ranged p
  pub field_given : v ≡ refused 6 0 → Each (λ f. f.present ≡ true) (fields_of p)
  pub fields : Each (λ f. FieldRule rules p.tables f v) (fields_of p)

-- "then 6; then 7 for all regions; then, region by region, 8 to 13; then 14; 15 by gate; 16; 17 (MSHUT first)": by turn, where 8 to 13 have one,
-- then by place, then by number; and of 10 "the lowest output first", then its lowest toggle
abbrev pub turn : ℕ → ℕ
turn n = cond (leb 8 n && leb n 13) 8 n

abbrev pub rank : Verdict → List ℕ
rank v = turn v.number ∷ v.place ∷ v.number ∷ v.output ∷ v.toggle ∷ []

-- one list is ahead of another of its length: where they first differ, it has the lower number
abbrev pub Ahead : List ℕ → List ℕ → Type 0
Ahead [] ys = ⊥
Ahead (x ∷ xs) [] = ⊥
Ahead (x ∷ xs) (y ∷ ys) = (x < y) ⊎ ((x ≡ y) × Ahead xs ys)

-- the rule that w names comes before the one that v names
abbrev pub Earlier : Verdict → Verdict → Type 0
Earlier w v = Ahead (rank w) (rank v)

-- the rule that v names is the first that does not hold
pub record FirstBroken (rules : Ruleset) (p : Profile) (v : Verdict) : Type 0 where
  pub broken : Rule rules p v → ⊥
  pub before : (w : Verdict) → Earlier w v → Rule rules p w

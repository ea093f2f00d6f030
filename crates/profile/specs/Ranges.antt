-- What a record can carry: the ranges of each item, of a record read and of a profile handed in.
-- Assumes nothing.
use Rattle.std.specs.Prelude.{ℕ, List, [], ◌∷◌, map, Bool, cond, ◌&&◌, ◌||◌, get_or, ltb, leb, eqb}
use Rattle.profile.specs.Lists.{all, chunks}
use Rattle.profile.specs.Values.{none, empty_sequence, empty_gate, empty_shutter}
use Rattle.profile.specs.Layout.{half_limit}
use Rattle.profile.specs.Patterns.{is_plain}
use Rattle.profile.specs.Geometry.{region_at}
use Rattle.profile.specs.declared.Region.{Region}
use Rattle.profile.specs.declared.Sequence.{Sequence}
use Rattle.profile.specs.declared.Field.{Field}
use Rattle.profile.specs.declared.Gate.{Gate}
use Rattle.profile.specs.declared.Subck.{Subck}
use Rattle.profile.specs.declared.Shutter.{Shutter}
use Rattle.profile.specs.declared.Profile.{Profile}

-- Kind 2: "pattern 0..9, line length 1..4095, start 0..4095, odd repetitions 0..4095, even repetitions 0..4095, mask 0..3"
abbrev pub sequence_range : Sequence → List Bool
sequence_range s =
    leb s.pattern 9
    ∷ leb 1 s.length
    ∷ leb s.length 4095
    ∷ leb s.start 4095
    ∷ leb s.odd 4095
    ∷ leb s.even 4095
    ∷ leb s.mask 3
    ∷ []

-- Kind 3: "lines 1..4095, last-line length 1..4095, gate line 0..4094, second pattern 0..9 or 65,535 for none, n = 1..7"; second gate line
-- "0..4094, or 65,535 for none"
abbrev pub field_range : Field → List Bool
field_range f =
    (eqb f.gate2 none || leb f.gate2 4094)
    ∷ (eqb f.second none || leb f.second 9)
    ∷ leb 1 f.lines
    ∷ leb f.lines 4095
    ∷ leb 1 f.last
    ∷ leb f.last 4095
    ∷ leb f.gate 4094
    ∷ leb 1 f.count
    ∷ leb f.count 7
    ∷ []

-- "first line 0..4094, sequence 0..9"; a Mode is always one of the three
abbrev pub region_range : Region → List Bool
region_range r = leb r.first 4094 ∷ leb r.sequence 9 ∷ []

-- Kind 4: "on 0..1, start level 0..1, toggle 1, toggle 2 (each 0..4095)"
abbrev pub gate_range : Gate → List Bool
gate_range g = leb g.on 1 ∷ leb g.level 1 ∷ leb g.toggle1 4095 ∷ leb g.toggle2 4095 ∷ []

-- Kind 5: "start level 0..1, toggle 1, toggle 2, suppressed lines, count (each 0..4095)"
abbrev pub subck_range : Subck → List Bool
subck_range s =
    leb s.level 1
    ∷ leb s.toggle1 4095
    ∷ leb s.toggle2 4095
    ∷ leb s.suppressed 4095
    ∷ leb s.count 4095
    ∷ []

-- Kind 6: "active level 0..1, on line, on pixel, off line, off pixel (each 0..4095)"
abbrev pub shutter_range : Shutter → List Bool
shutter_range s =
    leb s.active 1
    ∷ leb s.on_line 4095
    ∷ leb s.on_pixel 4095
    ∷ leb s.off_line 4095
    ∷ leb s.off_pixel 4095
    ∷ []

-- "all zeros"
abbrev pub zeros : List ℕ → List Bool
zeros l = map (λ (x : ℕ). eqb x 0) l

-- "a number no record can carry, or an absent item (a region past n too) that is not all zeros": an item's ranges where it is present, its
-- zeros where it is absent
abbrev pub item_in : Bool → List Bool → List Bool → Bool
item_in present range empty = cond present (all range) (all empty)

unfoldable pub sequence_in : Sequence → Bool
sequence_in s =
    item_in s.present (sequence_range s)
    (zeros (s.pattern ∷ s.length ∷ s.start ∷ s.odd ∷ s.even ∷ s.mask ∷ []))

unfoldable pub gate_in : Gate → Bool
gate_in g = item_in g.present (gate_range g) (zeros (g.on ∷ g.level ∷ g.toggle1 ∷ g.toggle2 ∷ []))

unfoldable pub subck_in : Subck → Bool
subck_in s =
    item_in s.present (subck_range s)
    (zeros (s.level ∷ s.toggle1 ∷ s.toggle2 ∷ s.suppressed ∷ s.count ∷ []))

unfoldable pub shutter_in : Shutter → Bool
shutter_in s =
    item_in s.present (shutter_range s)
    (zeros (s.active ∷ s.on_line ∷ s.on_pixel ∷ s.off_line ∷ s.off_pixel ∷ []))

-- a region is present where its number is below n; mode 0 is plain
unfoldable pub region_in : Field → ℕ → Bool
region_in f i =
    item_in (ltb i f.count) (region_range (region_at f i))
    (is_plain (region_at f i).mode ∷ zeros ((region_at f i).first ∷ (region_at f i).sequence ∷ []))

-- a field's numbers before its regions
unfoldable pub head_in : Field → Bool
head_in f =
    item_in f.present (field_range f) (zeros (f.lines ∷ f.last ∷ f.gate ∷ f.gate2 ∷ f.second ∷ f.count ∷ []))

-- the tests of each array's items
abbrev pub half_tests : List ℕ → ℕ → List Bool
half_tests registers i = leb (get_or registers i 0) (half_limit i) ∷ []

abbrev pub sequence_tests : List Sequence → ℕ → List Bool
sequence_tests ss i = sequence_in (get_or ss i empty_sequence) ∷ []

abbrev pub gate_tests : List Gate → ℕ → List Bool
gate_tests gs i = gate_in (get_or gs i empty_gate) ∷ []

abbrev pub shutter_tests : List Shutter → ℕ → List Bool
shutter_tests ss i = shutter_in (get_or ss i empty_shutter) ∷ []

abbrev pub region_tests : Field → ℕ → List Bool
region_tests f i = region_in f i ∷ []

-- a field and its regions
abbrev pub field_in : Field → Bool
field_in f = head_in f && all (chunks 7 (region_tests f))

-- "A profile handed in directly is held to the same ranges first"
unfoldable pub in_range : Profile → Bool
in_range p =
    all (chunks 240 (half_tests p.tables.registers))
    && all (chunks 10 (sequence_tests p.tables.sequences))
    && all (chunks 5 (gate_tests p.tables.gates))
    && subck_in p.tables.subck
    && all (chunks 2 (shutter_tests p.tables.shutters))
    && field_in p.field

-- Regions, lines and their lengths, and sums of line lengths.
-- Assumes nothing.
use Rattle.std.specs.Prelude.{ℕ, ◌+◌, ◌-◌, ◌*◌, ◌%◌, ◌<◌, min, ◌≡◌, List, [], ◌∷◌, map, Bool, cond, not, ◌&&◌, get_or, ltb, leb, eqb}
use Rattle.profile.specs.Lists.{least, sum, last_start}
use Rattle.profile.specs.Values.{none, empty_region, empty_sequence, empty_gate, empty_shutter}
use Rattle.profile.specs.Patterns.{pattern_of}
use Rattle.profile.specs.declared.Region.{Region}
use Rattle.profile.specs.declared.Sequence.{Sequence}
use Rattle.profile.specs.declared.Gate.{Gate}
use Rattle.profile.specs.declared.Shutter.{Shutter}
use Rattle.profile.specs.declared.Field.{Field}
use Rattle.profile.specs.declared.Tables.{Tables}
use Rattle.profile.specs.declared.Pattern.{Pattern}

-- how many regions there are: seven at most, whatever the field's number says
abbrev pub region_count : Field → ℕ
region_count f = min f.count 7

abbrev pub region_at : Field → ℕ → Region
region_at f i = get_or f.regions i empty_region

abbrev pub first_line : Field → ℕ → ℕ
first_line f i = (region_at f i).first

-- the line after a region's last: where the next region starts, or the field ends
unfoldable pub end_line : Field → ℕ → ℕ
end_line f i = cond (ltb (i + 1) (region_count f)) (first_line f (i + 1)) f.lines

-- regions whose lines follow one another, as rule 7 has them: "the first region starts at line 0, starts rise strictly, each is below the line count"
pub record Ordered (f : Field) : Type 0 where
  pub some : 0 < region_count f
  pub zero : first_line f 0 ≡ 0
  pub rise : (i : ℕ) → i + 1 < region_count f → first_line f i < first_line f (i + 1)
  pub below : (i : ℕ) → i < region_count f → first_line f i < f.lines

-- the region in which a line lies: the last that starts at or before it
unfoldable pub region_of : Field → ℕ → ℕ
region_of f line = last_start (first_line f) (region_count f) line

abbrev pub sequence_of : Tables → ℕ → Sequence
sequence_of t k = get_or t.sequences k empty_sequence

-- gate k, VSG1 being gate 0, and shutter k: "0 MSHUT, 1 STROBE"
abbrev pub gate_of : Tables → ℕ → Gate
gate_of t k = get_or t.gates k empty_gate

abbrev pub shutter_of : Tables → ℕ → Shutter
shutter_of t k = get_or t.shutters k empty_shutter

-- a region's sequence and its pattern
abbrev pub sequence_at : Tables → Field → ℕ → Sequence
sequence_at t f i = sequence_of t (region_at f i).sequence

abbrev pub pattern_at : Tables → Field → ℕ → Pattern
pattern_at t f i = pattern_of t.registers (sequence_at t f i).pattern

-- "A line has its region's sequence length; the field's last line has the last-line length instead."
unfoldable pub length_in : Tables → Field → ℕ → ℕ → ℕ
length_in t f i line = cond (eqb (line + 1) f.lines) f.last (sequence_at t f i).length

unfoldable pub line_length : Tables → Field → ℕ → ℕ
line_length t f line = length_in t f (region_of f line) line

-- the pixels of a region's lines before a line; "A region's size is the sum of its line lengths."
unfoldable pub region_pixels : Tables → Field → ℕ → ℕ → ℕ
region_pixels t f i line = sum (length_in t f i) (first_line f i) (line - first_line f i)

-- the product that code computes for that sum (proofs/Lines.antt, size-product): a region's lines from the first, before a line
unfoldable pub product_pixels : ℕ → ℕ → ℕ → ℕ → ℕ → ℕ
product_pixels first lines last length line =
    cond (ltb first lines && leb lines line) ((line - first - 1) * length + last) ((line - first) * length)

abbrev pub region_size : Tables → Field → ℕ → ℕ
region_size t f i = region_pixels t f i (end_line f i)

-- the pixels of the field's lines before a line; "the field's pixel count (the sum of its line lengths)"
unfoldable pub pixels_before : Tables → Field → ℕ → ℕ
pixels_before t f line = sum (line_length t f) 0 line

unfoldable pub pixel_count : Tables → Field → ℕ
pixel_count t f = pixels_before t f f.lines

-- the sum over regions that code computes for it (proofs/Lines.antt, regions-pixels): the same of a field whose regions rule 7 orders
unfoldable pub regions_pixels : Tables → Field → ℕ
regions_pixels t f = sum (region_size t f) 0 (region_count f)

-- there is such a line and pixel
unfoldable pub has_pixel : Tables → Field → ℕ → ℕ → Bool
has_pixel t f line pixel = ltb line f.lines && ltb pixel (line_length t f line)

-- "lines 0, 2, 4 and so on take the odd count (line 0 is the first), lines 1, 3, 5 the even one"
abbrev pub repetitions : Sequence → ℕ → ℕ
repetitions s line = cond (eqb (line % 2) 0) s.odd s.even

-- whether the field has a second gate line: "65,535 for none"
abbrev pub has_second_line : Field → Bool
has_second_line f = not (eqb f.gate2 none)

-- the lines on which gates and the second pattern act, one or two, in the order in which they are named; SUBCK counts from the first of them
abbrev pub gate_lines : Field → List ℕ
gate_lines f = f.gate ∷ cond (has_second_line f) (f.gate2 ∷ []) []

-- the length of the shortest gate line
unfoldable pub gate_length : Tables → Field → ℕ
gate_length t f = least (map (line_length t f) (gate_lines f))

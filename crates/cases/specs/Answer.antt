-- The text of the answers of tests/cases/FORMAT.md: decimal numbers parted by single spaces, bytes as upper-case hex, LF at each line's end.
-- Assumes nothing.
use Rattle.std.specs.Prelude.{ℕ, List, [], ◌∷◌, ◌++◌, Bool, true, false, cond, ◌&&◌, eqb, length, get_or}
use Rattle.profile.specs.Lists.{chunks}
use Rattle.profile.specs.Values.{mode_number, empty_region, empty_sequence, empty_gate, empty_shutter}
use Rattle.profile.specs.declared.Region.{Region}
use Rattle.profile.specs.declared.Sequence.{Sequence}
use Rattle.profile.specs.declared.Field.{Field}
use Rattle.profile.specs.declared.Gate.{Gate}
use Rattle.profile.specs.declared.Subck.{Subck}
use Rattle.profile.specs.declared.Shutter.{Shutter}
use Rattle.profile.specs.declared.Tables.{Tables}
use Rattle.profile.specs.declared.Profile.{Profile}
use Rattle.profile.specs.declared.Verdict.{Verdict}
use Rattle.holdlist.specs.Text.{decimal, hex2}

-- ---- numbers of a line

-- a number after another, and one that may stand at a line's front
abbrev pub after : ℕ → List ℕ
after n = (32 ∷ []) ++ decimal n

unfoldable pub number_text : Bool → ℕ → List ℕ
number_text front n = cond front (decimal n) (after n)

-- numbers, of which the first may stand at a line's front
unfoldable pub numbers_text : Bool → List ℕ → List ℕ
numbers_text front ns = chunks (length ns) (λ i. number_text (front && eqb i 0) (get_or ns i 0))

-- those of a line from its front, and those after another
abbrev pub joined : List ℕ → List ℕ
joined ns = numbers_text true ns

abbrev pub afters : List ℕ → List ℕ
afters ns = numbers_text false ns

abbrev pub joined_line : List ℕ → List ℕ
joined_line ns = joined ns ++ (10 ∷ [])

-- ---- bytes

abbrev pub hex_line : List ℕ → List ℕ
hex_line bs = chunks (length bs) (λ i. hex2 (get_or bs i 0)) ++ (10 ∷ [])

-- ---- a profile as its 381 numbers

abbrev pub flag_number : Bool → ℕ
flag_number false = 0
flag_number true = 1

abbrev pub sequence_numbers : Sequence → List ℕ
sequence_numbers s =
    flag_number s.present ∷ s.pattern ∷ s.length ∷ s.start ∷ s.odd ∷ s.even ∷ s.mask ∷ []

abbrev pub gate_numbers : Gate → List ℕ
gate_numbers g = flag_number g.present ∷ g.on ∷ g.level ∷ g.toggle1 ∷ g.toggle2 ∷ []

abbrev pub subck_numbers : Subck → List ℕ
subck_numbers s = flag_number s.present ∷ s.level ∷ s.toggle1 ∷ s.toggle2 ∷ s.suppressed ∷ s.count ∷ []

abbrev pub shutter_numbers : Shutter → List ℕ
shutter_numbers s =
    flag_number s.present ∷ s.active ∷ s.on_line ∷ s.on_pixel ∷ s.off_line ∷ s.off_pixel ∷ []

abbrev pub region_numbers : Region → List ℕ
region_numbers r = r.first ∷ r.sequence ∷ mode_number r.mode ∷ []

abbrev pub field_numbers : Field → List ℕ
field_numbers f = flag_number f.present ∷ f.lines ∷ f.last ∷ f.gate ∷ f.gate2 ∷ f.second ∷ f.count ∷ []

abbrev pub sequences_text : List Sequence → List ℕ
sequences_text ss = chunks 10 (λ i. afters (sequence_numbers (get_or ss i empty_sequence)))

abbrev pub gates_text : List Gate → List ℕ
gates_text gs = chunks 5 (λ i. afters (gate_numbers (get_or gs i empty_gate)))

abbrev pub regions_text : List Region → List ℕ
regions_text rs = chunks 7 (λ i. afters (region_numbers (get_or rs i empty_region)))

unfoldable pub tables_text : Tables → List ℕ
tables_text t =
    joined t.registers ++ sequences_text t.sequences ++ gates_text t.gates ++ afters (subck_numbers t.subck)
    ++ afters (shutter_numbers (get_or t.shutters 0 empty_shutter)) ++ afters (shutter_numbers (get_or t.shutters 1 empty_shutter))

abbrev pub field_text : Field → List ℕ
field_text f = afters (field_numbers f) ++ regions_text f.regions

abbrev pub profile_line : Profile → List ℕ
profile_line p = tables_text p.tables ++ field_text p.field ++ (10 ∷ [])

-- ---- first lines

abbrev pub head_text : Verdict → List ℕ
head_text v = decimal v.number ++ after v.place ++ after v.output ++ after v.toggle

-- a verdict and the numbers after it
abbrev pub verdict_line : Verdict → List ℕ → List ℕ
verdict_line v ns = head_text v ++ chunks (length ns) (λ i. after (get_or ns i 0)) ++ (10 ∷ [])

-- "CASE k KIND"
abbrev pub case_line : ℕ → ℕ → List ℕ
case_line k kind = (67 ∷ 65 ∷ 83 ∷ 69 ∷ []) ++ after k ++ (32 ∷ kind ∷ 10 ∷ [])

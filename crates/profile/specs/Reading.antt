-- Nobody has to believe this file: it names the answers of the readers' parts in code by the definitions of Script and Upload, and proofs/Readers.antt,
-- proofs/Takes.antt, proofs/OneRecord.antt and proofs/Uploads.antt show that they are the same.
-- Assumes nothing.
use Rattle.std.specs.Prelude.{ℕ, ◌+◌, ◌-◌, List, [], ◌∷◌, ◌++◌, Bool, true, cond, not, Option, Some, None, Result, Ok, Err, length, drop, replicate, ltb, eqb}
use Rattle.profile.specs.Lists.{all, chunks}
use Rattle.profile.specs.Bytes.{number_at}
use Rattle.profile.specs.Values.{none, empty_region, set_tables, set_field, accepted, refused}
use Rattle.profile.specs.Script.{
  head_length,
  register_fits,
  with_register,
  sequence_fits,
  with_sequence,
  region_from,
  regions_from,
  count_from,
  field_from,
  region_fits,
  field_fits,
  gate_fits,
  with_gate,
  subck_fits,
  with_subck,
  shutter_fits,
  with_shutter,
  known,
  allowed,
  Stepped,
  step,
  stop,
  next,
}
use Rattle.profile.specs.Upload.{Reached}
use Rattle.profile.specs.declared.Region.{Region}
use Rattle.profile.specs.declared.Field.{Field}
use Rattle.profile.specs.declared.Profile.{Profile}
use Rattle.profile.specs.declared.Verdict.{Verdict}
use Rattle.profile.specs.declared.refusal.Refusal.{Refusal}
use Rattle.profile.specs.declared.refusal.Refusal.TheVariants as refusal
use Rattle.profile.specs.declared.records.Kind.{Kind}
use Rattle.profile.specs.declared.records.Kind.TheVariants.{Register, Sequence, Field as FieldKind, Gate, Subck, Shutter}
use Rattle.profile.specs.declared.records.Fault.{Fault}
use Rattle.profile.specs.declared.records.Fault.TheVariants.{Cut, UnknownKind, WrongLength, OutOfRange}
use Rattle.profile.specs.declared.records.Found.{Found}
use Rattle.profile.specs.declared.records.Taken.{Taken}
use Rattle.profile.specs.declared.records.Stop.{Stop}
use Rattle.profile.specs.declared.upload.Arrival.{Arrival}
use Rattle.profile.specs.declared.upload.Filled.{Filled}

-- ---- the numbers of kinds and faults

abbrev pub kind_number : Kind → ℕ
kind_number Register = 1
kind_number Sequence = 2
kind_number FieldKind = 3
kind_number Gate = 4
kind_number Subck = 5
kind_number Shutter = 6

abbrev pub fault_number : Fault → ℕ
fault_number Cut = 2
fault_number UnknownKind = 3
fault_number WrongLength = 4
fault_number OutOfRange = 5

-- 0 is no fault
abbrev pub fault_in : Option Fault → ℕ
fault_in None = 0
fault_in (Some fault) = fault_number fault

-- the kind of a number, as a search for a record has it
abbrev pub kind_of : ℕ → Result Kind Fault
kind_of n =
    cond (eqb n 1) (Ok Register)
    (cond (eqb n 2) (Ok Sequence)
    (cond (eqb n 3) (Ok FieldKind)
    (cond (eqb n 4) (Ok Gate) (cond (eqb n 5) (Ok Subck) (cond (eqb n 6) (Ok Shutter) (Err UnknownKind))))))

-- ---- a body

-- what passed its tests
abbrev pub when : {A : Type 0} → Bool → A → Option A
when fits x = cond fits (Some x) None

abbrev pub register_answer : List ℕ → Profile → Option Profile
register_answer b p = when (register_fits b) (set_tables (with_register b p.tables) p)

abbrev pub sequence_answer : List ℕ → Profile → Option Profile
sequence_answer b p = when (sequence_fits b) (set_tables (with_sequence b p.tables) p)

abbrev pub field_answer : List ℕ → Profile → Option Profile
field_answer b p = when (field_fits b) (set_field (field_from b) p)

abbrev pub gate_answer : List ℕ → Profile → Option Profile
gate_answer b p = when (gate_fits b) (set_tables (with_gate b p.tables) p)

abbrev pub subck_answer : List ℕ → Profile → Option Profile
subck_answer b p = when (subck_fits b) (set_tables (with_subck b p.tables) p)

abbrev pub shutter_answer : List ℕ → Profile → Option Profile
shutter_answer b p = when (shutter_fits b) (set_tables (with_shutter b p.tables) p)

-- the numbers of a field's body before its regions
abbrev pub head_from : Bool → List ℕ → Field
head_from two b =
    record {
      present = true;
      lines = number_at b 0;
      last = number_at b 2;
      gate = number_at b 4;
      gate2 = cond two (number_at b 6) none;
      second = number_at b (head_length two - 4);
      count = count_from (head_length two) b;
      regions = replicate 7 empty_region;
    }

-- region i of a body, after a head of so many bytes, and the first n of seven
abbrev pub region_answer : ℕ → List ℕ → ℕ → Option Region
region_answer head b i = when (all (region_fits head b i)) (region_from head b i)

abbrev pub regions_answer : ℕ → List ℕ → ℕ → Option (List Region)
regions_answer head b n = when (all (chunks n (region_fits head b))) (regions_from head b n ++ replicate (7 - n) empty_region)

-- ---- one record

-- a search for a record by its numbers: 0 or that of the fault, then the number of its kind, where its body starts and ends
pub record Sought : Type 0 where
  pub number : ℕ
  pub kind : ℕ
  pub start : ℕ
  pub end : ℕ

-- a record that is refused before its values are read
abbrev pub unfound : ℕ → Sought
unfound n = record { number = n; kind = 0; start = 0; end = 0 }

abbrev pub found_told : Result Found Fault → Sought
found_told (Ok f) = record { number = 0; kind = kind_number f.kind; start = f.start; end = f.end }
found_told (Err fault) = unfound (fault_number fault)

-- the record at the front of s, which stands at the offset at: its kind, where its body starts and ends
unfoldable pub found_front : ℕ → List ℕ → Sought
found_front at s =
    cond (ltb (length s) 4) (unfound 2)
    (cond (not (known (number_at s 2))) (unfound 3)
    (cond (not (allowed (number_at s 2) (number_at s 0))) (unfound 4)
    (cond (ltb (length s) (4 + number_at s 0)) (unfound 2)
    (record { number = 0; kind = number_at s 2; start = at + 4; end = at + (4 + number_at s 0) }))))

abbrev pub found_at : List ℕ → ℕ → Sought
found_at s at = found_front at (drop at s)

-- how far reading went, by numbers: 0 or that of the fault, the offset of the next record, the profile
pub record Gone : Type 0 where
  pub number : ℕ
  pub next : ℕ
  pub profile : Profile

abbrev pub taken_told : ℕ → Profile → Result Taken Fault → Gone
taken_told at p (Ok t) = record { number = 0; next = t.next; profile = t.profile }
taken_told at p (Err fault) = record { number = fault_number fault; next = at; profile = p }

abbrev pub stop_told : Stop → Gone
stop_told s = record { number = fault_in s.fault; next = s.at; profile = s.profile }

-- what a step at an offset leaves: 0 or the number of its refusal, the offset of the next record, the profile
abbrev pub step_answer : ℕ → Profile → Stepped → Gone
step_answer at p (stop n) = record { number = n; next = at; profile = p }
step_answer at p (next len q) = record { number = 0; next = at + (4 + len); profile = q }

-- The answer of the record at an offset of a script.
abbrev pub record_answer : List ℕ → ℕ → Profile → Gone
record_answer s at p = step_answer at p (step (drop at s) p)

-- The answer of the records from an offset of a script on: the place at which reading stops is the length less what is left.
abbrev pub reached_answer : List ℕ → Reached → Gone
reached_answer s r = record { number = r.number; next = length s - length r.rest; profile = r.profile }

-- 0 is no refusal
abbrev pub verdict_at : ℕ → ℕ → Verdict
verdict_at number place = cond (eqb number 0) accepted (refused number place)

-- ---- a record that arrives in parts

-- whether the bytes of a record so far say that it is cut
abbrev pub cut_front : List ℕ → Bool
cut_front s = eqb (found_front 0 s).number 2

-- a record with as many of the bytes that follow as it waits for
unfoldable pub filled : List ℕ → List ℕ → List ℕ
filled h [] = h
filled h (x ∷ xs) = cond (cut_front h) (filled (h ++ x ∷ []) xs) h

abbrev pub filled_answer : List ℕ → List ℕ → Filled
filled_answer old h = record { held = length h; bytes = h ++ drop (length h) old; cut = cut_front h }

-- what has arrived where so many bytes came and a record waits for more
abbrev pub filled_arrival : ℕ → Filled → Arrival
filled_arrival total f = record { length = total; number = 0; place = 0; held = f.held; bytes = f.bytes }

-- the refusal that a state holds: 3, 4 or 5
abbrev pub held_refusal : Arrival → Option Refusal
held_refusal a =
    cond (eqb a.number 3) (Some (refusal.UnknownKind a.place))
    (cond (eqb a.number 4) (Some (refusal.WrongLength a.place)) (cond (eqb a.number 5) (Some (refusal.OutOfRange a.place)) None))

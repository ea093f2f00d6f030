-- What stands for none, the numbers of the modes, the empty profile ("nothing present, all zeros"), verdicts and the answer of a read.
-- Assumes nothing.
use Rattle.std.specs.Prelude.{ℕ, ◌≤◌, ◌≡◌, ◌⊎◌, List, Bool, false, cond, length, replicate, eqb}
use Rattle.profile.specs.declared.Mode.{Mode}
use Rattle.profile.specs.declared.Mode.TheVariants.{Plain, Sweep, Multiplier}
use Rattle.profile.specs.declared.Region.{Region}
use Rattle.profile.specs.declared.Sequence.{Sequence}
use Rattle.profile.specs.declared.Field.{Field}
use Rattle.profile.specs.declared.Gate.{Gate}
use Rattle.profile.specs.declared.Subck.{Subck}
use Rattle.profile.specs.declared.Shutter.{Shutter}
use Rattle.profile.specs.declared.Tables.{Tables}
use Rattle.profile.specs.declared.Profile.{Profile}
use Rattle.profile.specs.declared.Verdict.{Verdict}

-- "65,535 for none": of a second gate line and of a second pattern
abbrev pub none : ℕ
none = 65535

-- "mode 0 plain, 1 sweep, 2 multiplier"
abbrev pub mode_number : Mode → ℕ
mode_number Plain = 0
mode_number Sweep = 1
mode_number Multiplier = 2

abbrev pub mode_of : ℕ → Mode
mode_of n = cond (eqb n 0) Plain (cond (eqb n 1) Sweep Multiplier)

abbrev pub empty_region : Region
empty_region = record { first = 0; sequence = 0; mode = Plain }

abbrev pub empty_sequence : Sequence
empty_sequence = record { present = false; pattern = 0; length = 0; start = 0; odd = 0; even = 0; mask = 0 }

abbrev pub empty_gate : Gate
empty_gate = record { present = false; on = 0; level = 0; toggle1 = 0; toggle2 = 0 }

abbrev pub empty_subck : Subck
empty_subck = record { present = false; level = 0; toggle1 = 0; toggle2 = 0; suppressed = 0; count = 0 }

abbrev pub empty_shutter : Shutter
empty_shutter = record { present = false; active = 0; on_line = 0; on_pixel = 0; off_line = 0; off_pixel = 0 }

unfoldable pub empty_field : Field
empty_field =
    record { present = false; lines = 0; last = 0; gate = 0; gate2 = 0; second = 0; count = 0; regions = replicate 7 empty_region }

unfoldable pub empty_tables : Tables
empty_tables =
    record {
      registers = replicate 240 0;
      sequences = replicate 10 empty_sequence;
      gates = replicate 5 empty_gate;
      subck = empty_subck;
      shutters = replicate 2 empty_shutter;
    }

abbrev pub empty_profile : Profile
empty_profile = record { tables = empty_tables; field = empty_field }

-- tables with one of their parts replaced
abbrev pub set_registers : List ℕ → Tables → Tables
set_registers r t =
    record { registers = r; sequences = t.sequences; gates = t.gates; subck = t.subck; shutters = t.shutters }

abbrev pub set_sequences : List Sequence → Tables → Tables
set_sequences s t =
    record { registers = t.registers; sequences = s; gates = t.gates; subck = t.subck; shutters = t.shutters }

abbrev pub set_gates : List Gate → Tables → Tables
set_gates g t =
    record { registers = t.registers; sequences = t.sequences; gates = g; subck = t.subck; shutters = t.shutters }

abbrev pub set_subck : Subck → Tables → Tables
set_subck s t =
    record { registers = t.registers; sequences = t.sequences; gates = t.gates; subck = s; shutters = t.shutters }

abbrev pub set_shutters : List Shutter → Tables → Tables
set_shutters s t =
    record { registers = t.registers; sequences = t.sequences; gates = t.gates; subck = t.subck; shutters = s }

-- a profile with its tables, with its field replaced
abbrev pub set_tables : Tables → Profile → Profile
set_tables t p = record { tables = t; field = p.field }

abbrev pub set_field : Field → Profile → Profile
set_field f p = record { tables = p.tables; field = f }

-- the lengths of a profile's arrays: what the types say in code, and what a theorem over any lists has to ask
pub record Sized (p : Profile) : Type 0 where
  pub registers : length p.tables.registers ≡ 240
  pub sequences : length p.tables.sequences ≡ 10
  pub gates : length p.tables.gates ≡ 5
  pub shutters : length p.tables.shutters ≡ 2
  pub regions : length p.field.regions ≡ 7

abbrev pub accepted : Verdict
accepted = record { number = 0; place = 0; output = 0; toggle = 0 }

abbrev pub refused : ℕ → ℕ → Verdict
refused n at = record { number = n; place = at; output = 0; toggle = 0 }

-- refusal 10 also names an output, 1 to 6, and the toggle of it that is out of order, 2 or 3
abbrev pub refused_toggle : ℕ → ℕ → ℕ → Verdict
refused_toggle at output toggle = record { number = 10; place = at; output = output; toggle = toggle }

-- what a verdict says of toggles: refusal 10 "returns output 1..6 and toggle", 2 or 3; "all other answers return 0 for both"
pub record Names (v : Verdict) : Type 0 where
  pub output : v.number ≡ 10 → (1 ≤ v.output) × (v.output ≤ 6)
  pub toggle : v.number ≡ 10 → (v.toggle ≡ 2) ⊎ (v.toggle ≡ 3)
  pub others : (v.number ≡ 10 → ⊥) → (v.output ≡ 0) × (v.toggle ≡ 0)

-- whether a verdict accepts
abbrev pub accepts : Verdict → Bool
accepts v = eqb v.number 0

-- what a read answers
pub record ReadAnswer : Type 0 where
  pub verdict : Verdict
  pub profile : Profile

-- "A refused read gives the empty profile"
abbrev pub read_answer : Verdict → Profile → ReadAnswer
read_answer v p = record { verdict = v; profile = cond (accepts v) p empty_profile }

-- what a write says: accepted, and how many bytes the script has; or why not, and 0
pub record Written : Type 0 where
  pub verdict : Verdict
  pub length : ℕ

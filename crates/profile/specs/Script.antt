-- What reading a script gives: the records (2 to 5), the length test (1), the judging (6 to 17).
-- Assumes nothing.
use Rattle.std.specs.Prelude.{ℕ, zero, suc, ◌+◌, ◌-◌, ◌*◌, ◌/◌, ◌%◌, List, [], ◌∷◌, ◌++◌, Bool, true, false, cond, not, ◌&&◌, ◌||◌, length, get_or, take, drop, set, replicate, ltb, leb, eqb}
use Rattle.profile.specs.Lists.{all, chunks}
use Rattle.profile.specs.Bytes.{number_at, data_at}
use Rattle.profile.specs.Values.{
  none,
  mode_of,
  empty_region,
  empty_profile,
  set_registers,
  set_sequences,
  set_gates,
  set_subck,
  set_shutters,
  set_tables,
  set_field,
  accepted,
  refused,
  accepts,
  read_answer,
}
use Rattle.profile.specs.Layout.{half_limit}
use Rattle.profile.specs.Ranges.{sequence_range, field_range, region_range, gate_range, subck_range, shutter_range}
use Rattle.profile.specs.Rules.{judge}
use Rattle.profile.specs.declared.Region.{Region}
use Rattle.profile.specs.declared.Sequence.{Sequence}
use Rattle.profile.specs.declared.Field.{Field}
use Rattle.profile.specs.declared.Gate.{Gate}
use Rattle.profile.specs.declared.Subck.{Subck}
use Rattle.profile.specs.declared.Shutter.{Shutter}
use Rattle.profile.specs.declared.Tables.{Tables}
use Rattle.profile.specs.declared.Profile.{Profile}
use Rattle.profile.specs.Values.{ReadAnswer}
use Rattle.profile.specs.declared.Ruleset.{Ruleset}

-- the kinds are 1 to 6
abbrev pub kinds : ℕ
kinds = 6

-- Kind 3, field: the numbers before the regions, "body 12 + 6n" with a second gate line among them, "the old 10 + 6n form" without; and each region
abbrev pub head_length : Bool → ℕ
head_length two = cond two 12 10

abbrev pub region_length : ℕ
region_length = 6

-- "script over 16,384 bytes" is refusal 1
abbrev pub most_bytes : ℕ
most_bytes = 16384

-- Kind 1, register: "address byte, 3 data bytes": "low half (bits 0..11) then high half (bits 12..23)"
abbrev pub low_from : List ℕ → ℕ
low_from b = data_at b 1 % 4096

abbrev pub high_from : List ℕ → ℕ
high_from b = data_at b 1 / 4096

-- "Address 0x00 to 0x77", and each half at most what its part can be (of start levels "bits 6..11 must be 0 (else 5)")
unfoldable pub register_fits : List ℕ → Bool
register_fits b =
    all (
    leb (get_or b 0 0) 0x77
    ∷ leb (low_from b) (half_limit (2 * get_or b 0 0))
    ∷ leb (high_from b) (half_limit (2 * get_or b 0 0 + 1))
    ∷ []
    )

abbrev pub with_register : List ℕ → Tables → Tables
with_register b t = set_registers (set (set t.registers (2 * get_or b 0 0) (low_from b)) (2 * get_or b 0 0 + 1) (high_from b)) t

-- Kind 2, sequence: "number 0..9, pattern, line length, start, odd repetitions, even repetitions, mask"
abbrev pub sequence_from : List ℕ → Sequence
sequence_from b =
    record {
      present = true;
      pattern = number_at b 2;
      length = number_at b 4;
      start = number_at b 6;
      odd = number_at b 8;
      even = number_at b 10;
      mask = number_at b 12;
    }

unfoldable pub sequence_fits : List ℕ → Bool
sequence_fits b = all (leb (number_at b 0) 9 ∷ sequence_range (sequence_from b))

abbrev pub with_sequence : List ℕ → Tables → Tables
with_sequence b t = set_sequences (set t.sequences (number_at b 0) (sequence_from b)) t

-- Kind 3, field, in two forms: "lines, last-line length, gate line, second pattern, n, then n regions: first line, sequence, mode", and with "a
-- second gate line after the first". Which it is follows from the length: 10 + 6n and 12 + 6n never meet.

-- a body of this length has the form with, or without, a second gate line, "n = 1..7"
unfoldable pub has_form : Bool → ℕ → Bool
has_form two len =
    leb (head_length two + region_length * 1) len
    && leb len (head_length two + region_length * 7)
    && eqb ((len - head_length two) % region_length) 0

-- where region i stands in a body: after the head, of so many bytes, and the i regions before it
abbrev pub region_start : ℕ → ℕ → ℕ
region_start head i = head + region_length * i

abbrev pub region_from : ℕ → List ℕ → ℕ → Region
region_from head b i =
    record {
      first = number_at b (region_start head i);
      sequence = number_at b (region_start head i + 2);
      mode = mode_of (number_at b (region_start head i + 4));
    }

abbrev pub regions_from : ℕ → List ℕ → ℕ → List Region
regions_from head b n = chunks n (λ i. region_from head b i ∷ [])

-- the head's last two numbers: "second pattern, n"
abbrev pub count_from : ℕ → List ℕ → ℕ
count_from head b = number_at b (head - 2)

-- a field of either form: one without a second gate line "means none"
unfoldable pub field_with : Bool → List ℕ → Field
field_with two b =
    record {
      present = true;
      lines = number_at b 0;
      last = number_at b 2;
      gate = number_at b 4;
      gate2 = cond two (number_at b 6) none;
      second = number_at b (head_length two - 4);
      count = count_from (head_length two) b;
      regions =
          regions_from (head_length two) b (count_from (head_length two) b)
          ++ replicate (7 - count_from (head_length two) b) empty_region;
    }

abbrev pub field_from : List ℕ → Field
field_from b = field_with (has_form true (length b)) b

-- the tests of region i of a body
abbrev pub region_fits : ℕ → List ℕ → ℕ → List Bool
region_fits head b i = leb (number_at b (region_start head i + 4)) 2 ∷ region_range (region_from head b i)

-- "An n that disagrees with the length is refusal 5."
unfoldable pub fits_with : Bool → List ℕ → Bool
fits_with two b =
    all (eqb (head_length two + region_length * count_from (head_length two) b) (length b) ∷ field_range (field_with two b))
    && all (chunks (count_from (head_length two) b) (region_fits (head_length two) b))

abbrev pub field_fits : List ℕ → Bool
field_fits b = fits_with (has_form true (length b)) b

-- Kind 4, gate: "number 0..4, on, start level, toggle 1, toggle 2"
abbrev pub gate_from : List ℕ → Gate
gate_from b =
    record { present = true; on = number_at b 2; level = number_at b 4; toggle1 = number_at b 6; toggle2 = number_at b 8 }

unfoldable pub gate_fits : List ℕ → Bool
gate_fits b = all (leb (number_at b 0) 4 ∷ gate_range (gate_from b))

abbrev pub with_gate : List ℕ → Tables → Tables
with_gate b t = set_gates (set t.gates (number_at b 0) (gate_from b)) t

-- Kind 5, SUBCK: "start level, toggle 1, toggle 2, suppressed lines, count"
abbrev pub subck_from : List ℕ → Subck
subck_from b =
    record {
      present = true;
      level = number_at b 0;
      toggle1 = number_at b 2;
      toggle2 = number_at b 4;
      suppressed = number_at b 6;
      count = number_at b 8;
    }

unfoldable pub subck_fits : List ℕ → Bool
subck_fits b = all (subck_range (subck_from b))

abbrev pub with_subck : List ℕ → Tables → Tables
with_subck b t = set_subck (subck_from b) t

-- Kind 6, shutter: "which (0 MSHUT, 1 STROBE), active level, on line, on pixel, off line, off pixel"
abbrev pub shutter_from : List ℕ → Shutter
shutter_from b =
    record {
      present = true;
      active = number_at b 2;
      on_line = number_at b 4;
      on_pixel = number_at b 6;
      off_line = number_at b 8;
      off_pixel = number_at b 10;
    }

unfoldable pub shutter_fits : List ℕ → Bool
shutter_fits b = all (leb (number_at b 0) 1 ∷ shutter_range (shutter_from b))

abbrev pub with_shutter : List ℕ → Tables → Tables
with_shutter b t = set_shutters (set t.shutters (number_at b 0) (shutter_from b)) t

-- one of six things by the kind of a record
abbrev pub by_kind : {A : Type 0} → ℕ → A → A → A → A → A → A → A
by_kind kind a b c d e f =
    cond (eqb kind 1) a (cond (eqb kind 2) b (cond (eqb kind 3) c (cond (eqb kind 4) d (cond (eqb kind 5) e f))))

abbrev pub known : ℕ → Bool
known kind = leb 1 kind && leb kind kinds

-- "Kind 3, field, 10 + 6n bytes", and "body 12 + 6n"
abbrev pub field_length : ℕ → Bool
field_length len = has_form false len || has_form true len

-- the body lengths that a kind allows
unfoldable pub allowed : ℕ → ℕ → Bool
allowed kind len = by_kind kind (eqb len 4) (eqb len 14) (field_length len) (eqb len 10) (eqb len 10) (eqb len 12)

unfoldable pub fits : ℕ → List ℕ → Bool
fits kind b = by_kind kind (register_fits b) (sequence_fits b) (field_fits b) (gate_fits b) (subck_fits b) (shutter_fits b)

-- "A later record for the same item replaces the earlier."
unfoldable pub with_record : ℕ → List ℕ → Profile → Profile
with_record kind b p =
    by_kind kind
    (set_tables (with_register b p.tables) p)
    (set_tables (with_sequence b p.tables) p)
    (set_field (field_from b) p)
    (set_tables (with_gate b p.tables) p)
    (set_tables (with_subck b p.tables) p)
    (set_tables (with_shutter b p.tables) p)

-- one record at the front of s: refused with a number, or a body of so many bytes taken, and the profile with it
pub data Stepped : Type 0 where
  stop : ℕ → Stepped
  next : ℕ → Profile → Stepped

-- the body of the record at the front of s
abbrev pub body_of : List ℕ → List ℕ
body_of s = take (number_at s 0) (drop 4 s)

-- "header cut (2), kind (3), length (4), body cut (2), values (5)"
unfoldable pub step : List ℕ → Profile → Stepped
step s p =
    cond (ltb (length s) 4) (stop 2)
    (cond (not (known (number_at s 2))) (stop 3)
    (cond (not (allowed (number_at s 2) (number_at s 0))) (stop 4)
    (cond (ltb (length s) (4 + number_at s 0)) (stop 2)
    (cond (fits (number_at s 2) (body_of s)) (next (number_at s 0) (with_record (number_at s 2) (body_of s) p)) (stop 5)))))

-- how many bytes of a record come after its first: three of its header, and its body of len bytes
abbrev pub after_first : ℕ → ℕ
after_first len = 3 + len

-- "record by record": reading the bytes that are left of a script, with the profile of the records taken so far.
-- skip: how many of these bytes still belong to the record that was taken last; where it is 0 the next record starts here.
-- at: the offset in the script of the first of these bytes, and so of a record that starts here.
unfoldable pub records : ℕ → ℕ → List ℕ → Profile → ReadAnswer
records skip at [] p = read_answer accepted p
records zero at (x ∷ xs) p =
    elim (step (x ∷ xs) p) [ stop n ↦ read_answer (refused n at) p | next len q ↦ records (after_first len) (at + 1) xs q ]
records (suc skip) at (x ∷ xs) p = records skip (at + 1) xs p

-- "then 6; then 7 ..", where the records were taken
abbrev pub judged : Ruleset → ReadAnswer → ReadAnswer
judged rules r = cond (accepts r.verdict) (read_answer (judge rules r.profile) r.profile) r

-- 1, the length, comes first
unfoldable pub read_script : Ruleset → List ℕ → ReadAnswer
read_script rules s = cond (leb (length s) most_bytes) (judged rules (records 0 0 s empty_profile)) (read_answer (refused 1 0) empty_profile)

-- Before there was a second gate line: the definitions as they were, which do not look at it. A profile without one is ranged, judged and written as
-- it was, and a script is read as it was, but for one that was refused by 4: it may have a record of the new length.
-- Assumes nothing.
use Prim.Native.Nat.{ℕ, ◌+◌, ◌-◌, ◌*◌, ◌%◌}
use native.Mathlib.Omega.{arith}
use mathlib.Core.Path.{◌≡◌, refl, sym, ap, subst, ◌∙◌}
use mathlib.Core.Logic.{inl, inr, ⊎_elim}
use mathlib.Core.Bool.{Bool, true, false, cond, not, ◌&&◌, ◌||◌, false≢true}
use mathlib.Core.List.{List, [], ◌∷◌, ◌++◌}
use borrow.Author.Tests.{eq-eqb, eqb-true, ltb-false}
use lib.Dec.{ltb, leb, eqb}
use lib.ListN.{length, drop, replicate, length-drop}
use lib.Seq.{length-take-le}
use Rattle.profile.specs.Lists.{all, distinct, chunks}
use Rattle.profile.specs.Bytes.{Bytes, number_at, two_bytes, record_of}
use Rattle.profile.specs.Values.{none, mode_of, empty_region, empty_field, set_tables, set_field, refused, accepts, Written}
use Rattle.profile.specs.Geometry.{region_count, gate_of, line_length, gate_lines}
use Rattle.profile.specs.Ranges.{
  region_range,
  zeros,
  item_in,
  half_tests,
  sequence_tests,
  gate_tests,
  subck_in,
  shutter_tests,
  region_tests,
  head_in,
  in_range,
}
use Rattle.profile.specs.Rules.{
  Entry,
  rule,
  first_broken,
  second_right,
  has_second,
  second_of,
  gate_right,
  lines_right,
  order_entries,
  region_entries,
  line_entries,
  gate_entries,
  subck_entries,
  shutter_entries,
  rules_of,
  judge,
  check_profile,
}
use Rattle.profile.specs.Script.{
  register_fits,
  with_register,
  sequence_fits,
  with_sequence,
  gate_fits,
  with_gate,
  subck_fits,
  with_subck,
  shutter_fits,
  with_shutter,
  has_form,
  field_with,
  fits_with,
  by_kind,
  allowed,
  fits,
  with_record,
  body_of,
  Stepped,
  step,
  read_script,
}
use Rattle.profile.specs.Writing.{
  register_chunk,
  sequence_chunk,
  region_bytes,
  gate_chunk,
  subck_chunk,
  shutter_chunk,
  write_script,
  write_answer,
  write_leaves,
}
use Rattle.profile.specs.Obeys.{Given}
use Rattle.profile.specs.declared.Region.{Region}
use Rattle.profile.specs.declared.Tables.{Tables}
use Rattle.profile.specs.declared.Field.{Field}
use Rattle.profile.specs.declared.Profile.{Profile}
use Rattle.profile.specs.declared.Verdict.{Verdict}
use Rattle.profile.specs.Values.{ReadAnswer}
use Rattle.profile.specs.declared.Ruleset.{Ruleset}
use Rattle.profile.proofs.Laws.{by_cases, all_one, chunks_ext}
use Rattle.profile.proofs.Checked.{judge_entries, check_number}
use Rattle.profile.proofs.Accepted.{accepted-field}
use Rattle.profile.proofs.Forms.{says_form}
use Rattle.profile.proofs.Takes.{step-taken}
use Rattle.profile.proofs.Replay.{step_by, read_by, read_by_lem, write_by, leaves_by, Alike, alike, read-agree}

-- a field without a second gate line: "65,535 for none" in one that is given, 0 in an absent one
abbrev pub OneLine : Field → Type 0
OneLine f = Given f.present (f.gate2 ≡ none) (f.gate2 ≡ 0)

pub one_line : (f : Field) → f.gate2 ≡ none → gate_lines f ≡ f.gate ∷ []
one_line f e = rw (eq-eqb f.gate2 none e)

-- ---- ranges

abbrev range_before : Field → List Bool
range_before f =
    (eqb f.second 65535 || leb f.second 9)
    ∷ leb 1 f.lines
    ∷ leb f.lines 4095
    ∷ leb 1 f.last
    ∷ leb f.last 4095
    ∷ leb f.gate 4094
    ∷ leb 1 f.count
    ∷ leb f.count 7
    ∷ []

pub head_before : Field → Bool
head_before f = item_in f.present (range_before f) (zeros (f.lines ∷ f.last ∷ f.gate ∷ f.second ∷ f.count ∷ []))

pub in_range_before : Profile → Bool
in_range_before p =
    all (chunks 240 (half_tests p.tables.registers))
    && all (chunks 10 (sequence_tests p.tables.sequences))
    && all (chunks 5 (gate_tests p.tables.gates))
    && subck_in p.tables.subck
    && all (chunks 2 (shutter_tests p.tables.shutters))
    && (head_before p.field && all (chunks 7 (region_tests p.field)))

head-before : (f : Field) → OneLine f → head_in f ≡ head_before f
unfolding head_in head_before all
head-before f h =
    by_cases f.present
    (λ e. rw (e, eq-eqb f.gate2 none (h.0 e)))
    (λ e. rw (e, eq-eqb f.gate2 0 (h.1 e)))

pub range_before_lem : (p : Profile) → OneLine p.field → in_range p ≡ in_range_before p
unfolding in_range in_range_before
range_before_lem p h = rw (head-before p.field h)

-- ---- the check

-- "the gate line is below the line count", and the second pattern on it
line_entries_before : Tables → Field → List Entry
line_entries_before t f =
    rule 14 0 (ltb f.gate f.lines)
    ∷ rule 14 0 (not (has_second f) || second_right t f (second_of t f) f.gate)
    ∷ []

gate_entries_before : Tables → Field → ℕ → List Entry
gate_entries_before t f k = rule 15 k (gate_right (gate_of t k) (line_length t f f.gate)) ∷ []

rules_before : Tables → Field → List Entry
rules_before t f =
    chunks (region_count f) (order_entries f)
    ++ chunks (region_count f) (region_entries t f)
    ++ line_entries_before t f
    ++ chunks 5 (gate_entries_before t f)
    ++ subck_entries t
    ++ chunks 2 (shutter_entries t f)

pub judge_before : Profile → Verdict
judge_before p = first_broken (rule 6 0 p.field.present ∷ rules_before p.tables p.field)

pub check_before : Profile → Verdict
check_before p = cond (in_range_before p) (judge_before p) (refused 5 0)

lines_before : (f : Field) → f.gate2 ≡ none → lines_right f ≡ ltb f.gate f.lines
unfolding lines_right distinct all
lines_before f e = rw (eq-eqb f.gate2 none e) (by_cases (ltb f.gate f.lines) (λ h. rw h) (λ h. rw h))

module _ (t : Tables) (f : Field) (e : f.gate2 ≡ none) where
  line_entries_lem : line_entries t f ≡ line_entries_before t f
  unfolding line_entries line_entries_before
  line_entries_lem = rw (lines_before f e, eq-eqb f.gate2 none e, all_one)

  gate_entries_lem : (k : ℕ) → gate_entries t f k ≡ gate_entries_before t f k
  unfolding gate_entries_before
  gate_entries_lem k = rw (eq-eqb f.gate2 none e, all_one)

  rules_before_lem : (rules : Ruleset) → rules_of rules t f ≡ rules_before t f
  unfolding rules_of rules_before
  rules_before_lem rules = rw (line_entries_lem, chunks_ext 5 (gate_entries t f) (gate_entries_before t f) (λ k h. gate_entries_lem k))

pub judge-before : (rules : Ruleset) (p : Profile) → OneLine p.field → judge rules p ≡ judge_before p
unfolding judge_before first_broken
judge-before rules p h =
    judge_entries rules p
    ∙ by_cases p.field.present
    (λ e. ap (λ (es : List Entry). first_broken (rule 6 0 p.field.present ∷ es)) (rules_before_lem p.tables p.field (h.0 e) rules))
    (λ e. rw e)

pub check_before_lem : (rules : Ruleset) (p : Profile) → OneLine p.field → check_profile rules p ≡ check_before p
unfolding check_profile check_before
check_before_lem rules p h = rw (range_before_lem p h, judge-before rules p h)

-- what is accepted has a field, so that its second gate line is none
pub accepted_one : (rules : Ruleset) (p : Profile) → OneLine p.field → accepts (check_profile rules p) ≡ true → p.field.gate2 ≡ none
accepted_one rules p h a = h.0 (accepted-field rules p (check_number rules p (eqb-true (check_profile rules p).number 0 a)))

-- ---- the writer

field_record_before : Field → List ℕ
field_record_before f =
    record_of 3 (two_bytes (f.lines ∷ f.last ∷ f.gate ∷ f.second ∷ f.count ∷ []) ++ chunks (region_count f) (region_bytes f))

pub script_before : Profile → List ℕ
script_before p =
    chunks 120 (register_chunk p.tables.registers)
    ++ chunks 10 (sequence_chunk p.tables.sequences)
    ++ cond p.field.present (field_record_before p.field) []
    ++ chunks 5 (gate_chunk p.tables.gates)
    ++ subck_chunk p.tables.subck
    ++ chunks 2 (shutter_chunk p.tables.shutters)

pub script_before_lem : (p : Profile) → OneLine p.field → write_script p ≡ script_before p
unfolding write_script script_before field_record_before
script_before_lem p h =
    by_cases p.field.present
    (λ e. rw (eq-eqb p.field.gate2 none (h.0 e)))
    (λ e. rw e)

pub write_before : Profile → ℕ → Written
write_before p room = write_by (check_before p) (script_before p) room

pub leaves_before : Profile → List ℕ → List ℕ
leaves_before p out = leaves_by (check_before p) (script_before p) out

pub write_before_lem : (rules : Ruleset) (p : Profile) (room : ℕ) → OneLine p.field → write_answer rules p room ≡ write_before p room
unfolding write_answer write_before
write_before_lem rules p room h = rw (check_before_lem rules p h, script_before_lem p h)

pub leaves_before_lem : (rules : Ruleset) (p : Profile) (out : List ℕ) → OneLine p.field → write_leaves rules p out ≡ leaves_before p out
unfolding write_leaves leaves_before
leaves_before_lem rules p out h = rw (check_before_lem rules p h, script_before_lem p h)

-- ---- reading

-- "Kind 3, field, 10 + 6n bytes, n = 1..7: lines, last-line length, gate line, second pattern, n, then n regions: first line, sequence, mode"
abbrev length_before : ℕ → Bool
length_before len = leb 16 len && leb len 52 && eqb ((len - 10) % 6) 0

abbrev region_before : List ℕ → ℕ → Region
region_before b i =
    record {
      first = number_at b (10 + 6 * i);
      sequence = number_at b (10 + 6 * i + 2);
      mode = mode_of (number_at b (10 + 6 * i + 4));
    }

field_before : List ℕ → Field
field_before b =
    record {
      present = true;
      lines = number_at b 0;
      last = number_at b 2;
      gate = number_at b 4;
      gate2 = none;
      second = number_at b 6;
      count = number_at b 8;
      regions = chunks (number_at b 8) (λ i. region_before b i ∷ []) ++ replicate (7 - number_at b 8) empty_region;
    }

field_fits_before : List ℕ → Bool
field_fits_before b =
    all (eqb (10 + 6 * number_at b 8) (length b) ∷ range_before (field_before b))
    && all (chunks (number_at b 8) (λ i. leb (number_at b (10 + 6 * i + 4)) 2 ∷ region_range (region_before b i)))

abbrev allowed_before : ℕ → ℕ → Bool
allowed_before kind len = by_kind kind (eqb len 4) (eqb len 14) (length_before len) (eqb len 10) (eqb len 10) (eqb len 12)

abbrev fits_before : ℕ → List ℕ → Bool
fits_before kind b = by_kind kind (register_fits b) (sequence_fits b) (field_fits_before b) (gate_fits b) (subck_fits b) (shutter_fits b)

abbrev with_before : ℕ → List ℕ → Profile → Profile
with_before kind b p =
    by_kind kind
    (set_tables (with_register b p.tables) p)
    (set_tables (with_sequence b p.tables) p)
    (set_field (field_before b) p)
    (set_tables (with_gate b p.tables) p)
    (set_tables (with_subck b p.tables) p)
    (set_tables (with_shutter b p.tables) p)

abbrev step_before : List ℕ → Profile → Stepped
step_before = step_by allowed_before fits_before with_before

pub read_before : List ℕ → ReadAnswer
read_before = read_by step_before judge_before

-- a body of the old form is taken as it was
form_before : (len : ℕ) → has_form false len ≡ length_before len
unfolding has_form
form_before len = refl

not_new : (len : ℕ) → length_before len ≡ true → has_form true len ≡ false
not_new len e =
    by_cases (has_form true len)
    (λ h.
    let w = (says_form true len).0 h in
    let v = (says_form false len).0 (form_before len ∙ e) in
    absurd (omega (arith, w.1, v.1, w.0.0)))
    (λ h. h)

fits_before_lem : (b : List ℕ) → fits_with false b ≡ field_fits_before b
unfolding fits_with field_fits_before field_with field_before all
fits_before_lem b = refl

field-before : (b : List ℕ) → field_with false b ≡ field_before b
unfolding field_with field_before
field-before b = refl

-- a field that was read, or was there, has one gate line
field_one : (b : List ℕ) → OneLine (field_before b)
unfolding field_before
field_one b = ((λ e. refl), λ e. absurd (false≢true (sym e)))

other-field : (kind : ℕ) (b : List ℕ) (p : Profile) → eqb kind 3 ≡ false → (with_record kind b p).field ≡ p.field
unfolding with_record
other-field kind b p e =
    rw e
    (by_cases (eqb kind 1) (λ k. rw k)
    (λ k.
    rw k (by_cases (eqb kind 2) (λ k. rw k) (λ k. rw k (by_cases (eqb kind 4) (λ k. rw k) (λ k. rw k (by_cases (eqb kind 5) (λ k. rw k) (λ k. rw k))))))))

-- a record of kind 3 of the old form, of kind 3 of another length, of another kind
abbrev With : Profile → Type 0
With p = OneLine p.field

abbrev StepAlike : Stepped → Stepped → Type 0
StepAlike = Alike With (λ n. n ≡ 4)

field_alike : (s : List ℕ) (p : Profile) → number_at s 2 ≡ 3 → length_before (number_at s 0) ≡ true → StepAlike (step s p) (step_before s p)
unfolding step step_by allowed fits with_record has_form
field_alike s p k e =
    by_cases (ltb (length s) 4) (λ a. rw a (inl refl))
    (λ a.
    by_cases (ltb (length s) (4 + number_at s 0)) (λ c. rw (a, k, e, c) (inl refl))
    (λ c.
    let size : length (body_of s) ≡ number_at s 0 =
    length-take-le (number_at s 0) (drop 4 s) (omega (arith, ltb-false (length s) (4 + number_at s 0) c, length-drop 4 s)) in
    let form : has_form true (length (body_of s)) ≡ false = ap (has_form true) size ∙ not_new (number_at s 0) e in
    rw (a, k, e, c, form, fits_before_lem (body_of s), field-before (body_of s))
    (by_cases (field_fits_before (body_of s)) (λ q. rw q (refl, field_one (body_of s))) (λ q. rw q (inl refl)))))

field-new : (s : List ℕ) (p : Profile) → number_at s 2 ≡ 3 → length_before (number_at s 0) ≡ false → StepAlike (step s p) (step_before s p)
unfolding step step_by
field-new s p k e = by_cases (ltb (length s) 4) (λ a. rw a (inl refl)) (λ a. rw (a, k, e) (inr refl))

other_alike : (s : List ℕ) (p : Profile) → With p → eqb (number_at s 2) 3 ≡ false → StepAlike (step s p) (step_before s p)
unfolding step step_by allowed fits with_record
other_alike s p h k =
    alike With (λ n. n ≡ 4) (step s p) (step_before s p) (rw k)
    (λ len q e. subst OneLine (sym (other-field (number_at s 2) (body_of s) p k) ∙ ap (λ (q : Profile). q.field) (step-taken s p len q e).gives) h)

step_alike : (s : List ℕ) (p : Profile) → Bytes s → With p → StepAlike (step s p) (step_before s p)
step_alike s p bytes h =
    by_cases (eqb (number_at s 2) 3)
    (λ k. by_cases (length_before (number_at s 0)) (field_alike s p (eqb-true (number_at s 2) 3 k)) (field-new s p (eqb-true (number_at s 2) 3 k)))
    (other_alike s p h)

-- every script but one that was refused by 4
pub read_before_lem : (rules : Ruleset) (s : List ℕ) → Bytes s → ((read_before s).verdict.number ≡ 4 → ⊥) → read_script rules s ≡ read_before s
unfolding read_before empty_field
read_before_lem rules s bytes n =
    read_by_lem rules s
    ∙ ⊎_elim (λ e. e) (λ e. absurd (n e))
    (read-agree With (λ n. n ≡ 4) step step_before ((λ e. absurd (false≢true e)), λ e. refl) step_alike (judge rules) judge_before (judge-before rules)
    (λ e. absurd (omega arith)) s bytes)

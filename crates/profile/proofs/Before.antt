-- The definitions before the table, as they were, which say where a part stands by 12k, 24k and an offset: they give the same pattern, ranges and
-- answers of the check, the writer and a read. A pattern's 24 half registers, put in one after the other, are the record of before, and the others are
-- skipped; all else rests on how a pattern is read and on the limit of a half register.
-- Assumes nothing.
use Prim.Native.Nat.{ℕ, zero, suc, ◌+◌, ◌-◌, ◌*◌, ◌/◌, ◌%◌, ◌≤◌, ◌<◌}
use native.Mathlib.Nat.{add-zero, add-suc}
use native.Mathlib.Omega.{arith}
use mathlib.Core.Path.{◌≡◌, refl, sym, ap, ◌∙◌}
use mathlib.Core.Logic.{⊎_elim}
use mathlib.Core.Bool.{Bool, true, cond, not, ◌&&◌, ◌||◌}
use mathlib.Core.List.{List, [], ◌∷◌, ◌++◌, map, flat_map}
use borrow.Author.Tests.{eq-eqb, ne_eqb, eqb-true, eqb-false, ltb-true, ltb-false, le-leb, lt-leb}
use lib.Dec.{ltb, leb, eqb}
use lib.ListN.{length, get_or, get_or-eq_default}
use Rattle.profile.specs.Lists.{all, chunks}
use Rattle.profile.specs.Bytes.{Bytes, number_at, data_at}
use Rattle.profile.specs.Values.{Sized, refused, Written}
use Rattle.profile.specs.Layout.{parts, half_pattern, half_part, part_limit, half_limit}
use Rattle.profile.specs.Patterns.{empty_pattern, with_part, pattern_up_to, pattern_of, row_of, is_plain, not4095}
use Rattle.profile.specs.Geometry.{region_count, region_at, region_of, sequence_at, line_length, region_size, gate_lines}
use Rattle.profile.specs.Ranges.{sequence_tests, gate_tests, subck_in, shutter_tests, field_in, in_range}
use Rattle.profile.specs.Rules.{
  Entry,
  rule,
  first_broken,
  row_right,
  first_ends,
  second_right,
  lines_right,
  has_second,
  order_entries,
  entries_at,
  line_entries,
  gate_entries,
  subck_entries,
  shutter_entries,
  rules_of,
  fields_of,
  entries_of,
  judge,
  check_profile,
}
use Rattle.profile.specs.Script.{
  register_fits,
  sequence_fits,
  field_fits,
  gate_fits,
  subck_fits,
  shutter_fits,
  by_kind,
  allowed,
  fits,
  with_record,
  Stepped,
  body_of,
  step,
  read_script,
}
use Rattle.profile.specs.Writing.{write_script, write_answer, write_leaves}
use Rattle.profile.specs.declared.layout.Part.TheVariants.{Levels}
use Rattle.profile.specs.declared.Pattern.{Pattern}
use Rattle.profile.specs.declared.Tables.{Tables}
use Rattle.profile.specs.declared.Field.{Field}
use Rattle.profile.specs.declared.Profile.{Profile}
use Rattle.profile.specs.declared.Verdict.{Verdict}
use Rattle.profile.specs.Values.{ReadAnswer}
use Rattle.profile.specs.declared.Ruleset.{Ruleset}
use Rattle.profile.proofs.Laws.{by_cases, image_at}
use Rattle.profile.proofs.ByteRange.{bytes_part}
use Rattle.profile.proofs.Reading.{empty_sized, step_sized}
use Rattle.profile.proofs.Replay.{step_by, read_by, read_by_lem, write_by, leaves_by, alike, read-agree}

-- ---- patterns

-- half register j of pattern k: "Pattern k has 12 registers from address 12k", so 24 halves from 24k, low half first
abbrev pub half_of : List ℕ → ℕ → ℕ → ℕ
half_of registers k j = get_or registers (24 * k + j) 0

-- "Word 0: bits 0..5 start levels, bits 12..23 length. Words 1..9: the 18 toggles. Words 10, 11: freeze 1, resume 1, freeze 2, resume 2."
abbrev pub pattern_from : (ℕ → ℕ) → Pattern
pattern_from half =
    record {
      levels = half 0;
      length = half 1;
      toggles =
          half 2 ∷ half 3 ∷ half 4 ∷ half 5 ∷ half 6 ∷ half 7
          ∷ half 8 ∷ half 9 ∷ half 10 ∷ half 11 ∷ half 12 ∷ half 13
          ∷ half 14 ∷ half 15 ∷ half 16 ∷ half 17 ∷ half 18 ∷ half 19 ∷ [];
      freeze1 = half 20;
      resume1 = half 21;
      freeze2 = half 22;
      resume2 = half 23;
    }

unfoldable pub pattern_before : List ℕ → ℕ → Pattern
pattern_before registers k = pattern_from (half_of registers k)

-- half registers that are not of pattern k leave it
skipped : (l : List ℕ) (k n m : ℕ) → ((i : ℕ) → n ≤ i → i < n + m → half_pattern i ≡ k → ⊥) → pattern_up_to l k (n + m) ≡ pattern_up_to l k n
unfolding pattern_up_to
skipped l k n zero f = ap (pattern_up_to l k) (add-zero n)
skipped l k n (suc m) f =
    rw (add-suc, ne_eqb (half_pattern (n + m)) k (f (n + m) (omega arith) (omega arith))) (skipped l k n m (λ i u v. f i u (omega arith)))

-- the 24 that are, one after the other
built : (ℕ → ℕ) → ℕ → Pattern
built half zero = empty_pattern
built half (suc j) = with_part (get_or parts j Levels) (half j) (built half j)

built_all : (half : ℕ → ℕ) → built half 24 ≡ pattern_from half
unfolding built with_part
built_all half = refl

in_order_lem : (l : List ℕ) (k j : ℕ) → j ≤ 24 → pattern_up_to l k (24 * k + j) ≡ built (half_of l k) j
unfolding pattern_up_to half_pattern half_part built
in_order_lem l k zero h =
    let z : 24 * k + 0 ≡ 0 + 24 * k = omega arith in
    ap (pattern_up_to l k) z ∙ skipped l k 0 (24 * k) (λ i u v e. omega (arith, e))
in_order_lem l k (suc j) h =
    let d : (24 * k + j) / 24 ≡ k = omega arith in
    let m : (24 * k + j) % 24 ≡ j = omega arith in
    rw (add-suc, eq-eqb _ _ d, m) (ap (with_part (get_or parts j Levels) (half_of l k j)) (in_order_lem l k j (omega arith)))

-- past the tenth there is none
before-none : (l : List ℕ) (k : ℕ) → length l ≤ 24 * k → empty_pattern ≡ pattern_before l k
unfolding pattern_before
before-none l k h =
    λ i.
    record {
      levels = z 0 i;
      length = z 1 i;
      toggles =
          z 2 i ∷ z 3 i ∷ z 4 i ∷ z 5 i ∷ z 6 i ∷ z 7 i ∷ z 8 i ∷ z 9 i ∷ z 10 i ∷ z 11 i ∷ z 12 i ∷ z 13 i ∷ z 14 i ∷ z 15 i ∷ z 16 i
          ∷ z 17 i ∷ z 18 i ∷ z 19 i ∷ [];
      freeze1 = z 20 i;
      resume1 = z 21 i;
      freeze2 = z 22 i;
      resume2 = z 23 i;
    }
  where
    z : (j : ℕ) → 0 ≡ half_of l k j
    z j = sym (get_or-eq_default l 0 (omega arith))

pub pattern_before_lem : (l : List ℕ) → length l ≡ 240 → (k : ℕ) → pattern_of l k ≡ pattern_before l k
unfolding pattern_of pattern_up_to half_pattern pattern_before
pattern_before_lem l e k =
    by_cases (ltb k 10)
    (λ q.
    let h = ltb-true k 10 q in
    let n : 240 ≡ 24 * k + 24 + (240 - (24 * k + 24)) = omega arith in
    ap (pattern_up_to l k) n ∙ skipped l k (24 * k + 24) (240 - (24 * k + 24)) (λ i u v w. omega (arith, w))
    ∙ in_order_lem l k 24 (omega arith) ∙ built_all (half_of l k))
    (λ q.
    let h = ltb-false k 10 q in
    skipped l k 0 240 (λ i u v w. omega (arith, w)) ∙ before-none l k (omega arith))

-- ---- ranges

-- half register i: 12 bits, and the start levels' half 6
abbrev pub limit_before : ℕ → ℕ
limit_before i = cond (eqb (i % 24) 0) 63 4095

pub limit_before_lem : (i : ℕ) → half_limit i ≡ limit_before i
unfolding half_part chunks
limit_before_lem i = image_at part_limit parts 24 (λ j. cond (eqb j 0) 63 4095) Levels refl (i % 24) (omega arith)

-- the ranges of a profile, with a limit of each half register
abbrev in_range_by : (ℕ → ℕ) → Profile → Bool
in_range_by limit p =
    all (chunks 240 (λ i. leb (get_or p.tables.registers i 0) (limit i) ∷ []))
    && all (chunks 10 (sequence_tests p.tables.sequences))
    && all (chunks 5 (gate_tests p.tables.gates))
    && subck_in p.tables.subck
    && all (chunks 2 (shutter_tests p.tables.shutters))
    && field_in p.field

pub in_range_before : Profile → Bool
in_range_before = in_range_by limit_before

pub range_before_lem : (p : Profile) → in_range p ≡ in_range_before p
unfolding in_range in_range_before
range_before_lem p = ap (λ (limit : ℕ → ℕ). in_range_by limit p) (λ i k. limit_before_lem k i)

-- ---- the check

-- the rules that look at a pattern, over patterns that are read by their number
module _ (pattern : ℕ → Pattern) (t : Tables) (f : Field) where
  abbrev pattern_at_by : ℕ → Pattern
  pattern_at_by i = pattern (sequence_at t f i).pattern

  second_right_by : Pattern → ℕ → Bool
  second_right_by a g =
      is_plain (region_at f (region_of f g)).mode
      && not (eqb a.length 0)
      && all (chunks 6 (λ k. row_right not4095 (row_of a.toggles k) ∷ []))
      && ltb a.length (line_length t f g)
      && first_ends (sequence_at t f (region_of f g)) g (pattern_at_by (region_of f g)).length a.length

  abbrev region_entries_by : ℕ → List Entry
  region_entries_by i = entries_at i (region_at f i).mode (sequence_at t f i) (pattern_at_by i) (region_size t f i)

  line_entries_by : List Entry
  line_entries_by =
      rule 14 0 (lines_right f)
      ∷ rule 14 0 (not (has_second f) || all (map (second_right_by (pattern f.second)) (gate_lines f)))
      ∷ []

  rules_by : List Entry
  rules_by =
      chunks (region_count f) (order_entries f)
      ++ chunks (region_count f) region_entries_by
      ++ line_entries_by
      ++ chunks 5 (gate_entries t f)
      ++ subck_entries t
      ++ chunks 2 (shutter_entries t f)

judge_by : (ℕ → Pattern) → Profile → Verdict
judge_by pattern p =
    first_broken (map (λ (f : Field). rule 6 0 f.present) (fields_of p) ++ flat_map (rules_by pattern p.tables) (fields_of p))

pub judge_before : Profile → Verdict
judge_before p = judge_by (pattern_before p.tables.registers) p

pub check_before : Profile → Verdict
check_before p = cond (in_range_before p) (judge_before p) (refused 5 0)

judge_by_lem : (rules : Ruleset) (p : Profile) → judge rules p ≡ judge_by (pattern_of p.tables.registers) p
unfolding judge entries_of rules_of line_entries second_right judge_by rules_by line_entries_by second_right_by
judge_by_lem rules p = refl

pub judge-before : (rules : Ruleset) (p : Profile) → Sized p → judge rules p ≡ judge_before p
unfolding judge_before
judge-before rules p z =
    judge_by_lem rules p ∙ ap (λ (pattern : ℕ → Pattern). judge_by pattern p) (λ i k. pattern_before_lem p.tables.registers z.registers k i)

pub check_before_lem : (rules : Ruleset) (p : Profile) → Sized p → check_profile rules p ≡ check_before p
unfolding check_profile check_before
check_before_lem rules p z = rw (range_before_lem p, judge-before rules p z)

-- ---- the writer: its bytes have their definition still; its answer and what it leaves go by the check's verdict

pub write_before : Profile → ℕ → Written
write_before p room = write_by (check_before p) (write_script p) room

pub leaves_before : Profile → List ℕ → List ℕ
leaves_before p out = leaves_by (check_before p) (write_script p) out

pub write_before_lem : (rules : Ruleset) (p : Profile) (room : ℕ) → Sized p → write_answer rules p room ≡ write_before p room
unfolding write_answer write_before
write_before_lem rules p room z = rw (check_before_lem rules p z)

pub leaves_before_lem : (rules : Ruleset) (p : Profile) (out : List ℕ) → Sized p → write_leaves rules p out ≡ leaves_before p out
unfolding write_leaves leaves_before
leaves_before_lem rules p out z = rw (check_before_lem rules p z)

-- ---- reading

-- of a pattern's word 0 "bits 6..11 must be 0 (else 5)"
pub register_before : List ℕ → Bool
register_before b = all (leb (get_or b 0 0) 0x77 ∷ (not (eqb (get_or b 0 0 % 12) 0) || eqb (data_at b 1 / 64 % 64) 0) ∷ [])

low_part : (u x : ℕ) → u < 4096 → (u + 4096 * x) % 4096 ≡ u
low_part u x h = omega arith

-- the lowest 12 bits of a number are its lowest 6 and bits 6..11
six_bits : (v : ℕ) → v % 4096 ≡ v % 64 + 64 * (v / 64 % 64)
six_bits v =
    let q : v ≡ v % 64 + 64 * (v / 64 % 64) + 4096 * (v / 64 / 64) = omega arith in
    ap (λ (w : ℕ). w % 4096) q ∙ low_part (v % 64 + 64 * (v / 64 % 64)) (v / 64 / 64) (omega arith)

twelves : (q : ℕ) → (12 * q) % 12 ≡ 0
twelves q = omega arith

-- half 0 of a pattern is of its word 0
word_zero : (a : ℕ) → (2 * a) % 24 ≡ 0 → a % 12 ≡ 0
word_zero a e = let q : a ≡ 12 * (2 * a / 24) = omega arith in ap (λ (x : ℕ). x % 12) q ∙ twelves (2 * a / 24)

low-before : (a v : ℕ) → leb (v % 4096) (limit_before (2 * a)) ≡ not (eqb (a % 12) 0) || eqb (v / 64 % 64) 0
low-before a v =
    by_cases (eqb (a % 12) 0)
    (λ e.
    let z : (2 * a) % 24 ≡ 0 = omega (arith, eqb-true (a % 12) 0 e) in
    rw (e, eq-eqb ((2 * a) % 24) 0 z)
    (by_cases (eqb (v / 64 % 64) 0)
    (λ u. rw u (le-leb (v % 4096) 63 (omega (arith, six_bits v, eqb-true (v / 64 % 64) 0 u))))
    (λ u. rw u (lt-leb (v % 4096) 63 (omega (arith, six_bits v, eqb-false (v / 64 % 64) 0 u))))))
    (λ e.
    let z : (2 * a) % 24 ≡ 0 → ⊥ = λ z. eqb-false (a % 12) 0 e (word_zero a z) in
    rw (e, ne_eqb ((2 * a) % 24) 0 z) (le-leb (v % 4096) 4095 (omega arith)))

high_before : (a v : ℕ) → v < 16777216 → leb (v / 4096) (limit_before (2 * a + 1)) ≡ true
high_before a v h =
    let z : (2 * a + 1) % 24 ≡ 0 → ⊥ = omega arith in
    rw (ne_eqb ((2 * a + 1) % 24) 0 z) (le-leb (v / 4096) 4095 (omega arith))

pub register-before : (b : List ℕ) → Bytes b → register_fits b ≡ register_before b
unfolding register_fits register_before all
register-before b bytes =
    let a = get_or b 0 0 in
    let v = data_at b 1 in
    let h : v < 16777216 = omega (arith, bytes.at 1, bytes.at 2, bytes.at 3) in
    let low = ap (leb (v % 4096)) (limit_before_lem (2 * a)) ∙ low-before a v in
    let high = ap (leb (v / 4096)) (limit_before_lem (2 * a + 1)) ∙ high_before a v h in
    rw (low, high)

abbrev fits_before : ℕ → List ℕ → Bool
fits_before kind b = by_kind kind (register_before b) (sequence_fits b) (field_fits b) (gate_fits b) (subck_fits b) (shutter_fits b)

abbrev step_before : List ℕ → Profile → Stepped
step_before = step_by allowed fits_before with_record

pub read_before : List ℕ → ReadAnswer
read_before = read_by step_before judge_before

step_before_lem : (s : List ℕ) (p : Profile) → Bytes s → step s p ≡ step_before s p
unfolding step step_by fits
step_before_lem s p bytes = rw (register-before (body_of s) (bytes_part s (number_at s 0) 4 bytes))

pub read_before_lem : (rules : Ruleset) (s : List ℕ) → Bytes s → read_script rules s ≡ read_before s
unfolding read_before
read_before_lem rules s bytes =
    read_by_lem rules s
    ∙ ⊎_elim (λ e. e) (λ e. absurd e)
    (read-agree Sized (λ n. ⊥) step step_before empty_sized
    (λ s p w z. alike Sized (λ n. ⊥) (step s p) (step_before s p) (step_before_lem s p w) (λ len q. step_sized s p len q z))
    (judge rules) judge_before (judge-before rules) (λ e. e) s bytes)

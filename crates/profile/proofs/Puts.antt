-- A record whose values fit leaves a profile of the same array lengths, and in range where it was.
-- One item changes, and the record's tests are its ranges.
-- Assumes nothing.
use mathlib.Core.Path.{◌≡◌, ap, ◌∙◌}
use mathlib.Core.Bool.{Bool, true, false, cond}
use mathlib.Core.List.{List, ◌∷◌}
use Prim.Native.Nat.{ℕ, ◌+◌, ◌-◌, ◌*◌, ◌≤◌, ◌<◌}
use native.Mathlib.Omega.{arith}
use borrow.Author.Tests.{ltb-true, ltb-false, eqb-true, eqb-false}
use lib.Dec.{ltb, leb, eqb}
use lib.ListN.{length, get_or, set, length-set}
use lib.Seq.{set_out, get_or-set_same, get_or-set_other}
use Rattle.profile.specs.Lists.{all}
use Rattle.profile.specs.Bytes.{number_at}
use Rattle.profile.specs.Values.{Sized, empty_region, empty_sequence, empty_gate, empty_shutter, set_tables, set_field}
use Rattle.profile.specs.Layout.{half_limit}
use Rattle.profile.specs.Ranges.{
  sequence_range,
  field_range,
  region_range,
  gate_range,
  shutter_range,
  sequence_in,
  region_in,
  head_in,
  gate_in,
  subck_in,
  shutter_in,
}
use Rattle.profile.specs.Script.{
  head_length,
  region_length,
  count_from,
  field_with,
  fits_with,
  low_from,
  high_from,
  register_fits,
  with_register,
  sequence_from,
  sequence_fits,
  with_sequence,
  region_from,
  region_fits,
  field_from,
  field_fits,
  gate_from,
  gate_fits,
  with_gate,
  subck_from,
  subck_fits,
  with_subck,
  shutter_from,
  shutter_fits,
  with_shutter,
  by_kind,
  fits,
  with_record,
}
use Rattle.profile.specs.declared.Region.{Region}
use Rattle.profile.specs.declared.Sequence.{Sequence}
use Rattle.profile.specs.declared.Gate.{Gate}
use Rattle.profile.specs.declared.Shutter.{Shutter}
use Rattle.profile.specs.declared.Profile.{Profile}
use Rattle.profile.proofs.Laws.{by_cases, and_left, and_right, passed, all-passed, all-chunks}
use Rattle.profile.proofs.Items.{Items, field_count, region_inside, region_past}
use Rattle.profile.proofs.FieldBody.{padded_front, padded_past, length_padded}

-- ---- one thing of six by the kind

-- what holds of each of two choices by kind, side by side, holds of the chosen
pub by_kind_lem : {A B : Type 0} (Q : A → B → Type 0) (kind : ℕ) {a1 a2 a3 a4 a5 a6 : A} {b1 b2 b3 b4 b5 b6 : B}
    → Q a1 b1 → Q a2 b2 → Q a3 b3 → Q a4 b4 → Q a5 b5 → Q a6 b6
    → Q (by_kind kind a1 a2 a3 a4 a5 a6) (by_kind kind b1 b2 b3 b4 b5 b6)
by_kind_lem Q kind {a1} {a2} {a3} {a4} {a5} {a6} {b1} {b2} {b3} {b4} {b5} {b6} q1 q2 q3 q4 q5 q6 =
    pick (eqb kind 1) (eqb kind 2) (eqb kind 3) (eqb kind 4) (eqb kind 5)
  where
    pick : (c1 c2 c3 c4 c5 : Bool)
        → Q (cond c1 a1 (cond c2 a2 (cond c3 a3 (cond c4 a4 (cond c5 a5 a6)))))
        (cond c1 b1 (cond c2 b2 (cond c3 b3 (cond c4 b4 (cond c5 b5 b6)))))
    pick true c2 c3 c4 c5 = q1
    pick false true c3 c4 c5 = q2
    pick false false true c4 c5 = q3
    pick false false false true c5 = q4
    pick false false false false true = q5
    pick false false false false false = q6

-- ---- an array with one item stored

-- what held of each item, and of the one that is stored, holds of each after
stored : {A : Type 0} (P : ℕ → A → Type 0) (n : ℕ) (l : List A) (k : ℕ) (v d : A) → P k v → ((i : ℕ) → i < n → P i (get_or l i d))
    → (i : ℕ) → i < n → P i (get_or (set l k v) i d)
stored P n l k v d new old i h =
    by_cases (eqb i k)
    (λ e.
    let q = eqb-true i k e in
    by_cases (ltb k (length l))
    (λ u. rw (q, get_or-set_same l k v d (ltb-true k (length l) u)) new)
    (λ u. rw (set_out l k v (ltb-false k (length l) u)) (old i h)))
    (λ e. rw (get_or-set_other l k i v d (eqb-false i k e)) (old i h))

-- ---- kind 3

-- in either form
module _ (two : Bool) (b : List ℕ) (e : fits_with two b ≡ true) where
  abbrev head : ℕ
  head = head_length two

  field_tests : all (field_range (field_with two b)) ≡ true
  unfolding fits_with
  field_tests =
      let t = eqb (head + region_length * count_from head b) (length b) ∷ field_range (field_with two b) in
      all-passed (field_range (field_with two b)) (passed t (and_left (all t) _ e)).1

  count_high : count_from head b ≤ 7
  unfolding field_with
  count_high = (field_count (field_with two b) field_tests).1

  length_regions : length (field_with two b).regions ≡ 7
  unfolding field_with
  length_regions =
      omega (arith, length_padded (count_from head b) (7 - count_from head b) (region_from head b) empty_region, count_high)

  field_ranged : head_in (field_with two b) ≡ true
  unfolding field_with head_in
  field_ranged = field_tests

  region_ranged : (i : ℕ) → i < 7 → region_in (field_with two b) i ≡ true
  unfolding fits_with field_with
  region_ranged i h =
      let n = count_from head b in
      let c = and_right (all (eqb (head + region_length * n) (length b) ∷ field_range (field_with two b))) _ e in
      by_cases (ltb i n)
      (λ u.
      let l = ltb-true i n u in
      let r = all-passed (region_range (region_from head b i)) (passed (region_fits head b i) (all-chunks n (region_fits head b) c i l)).1 in
      region_inside (field_with two b) i l
      (ap (λ (r : Region). all (region_range r)) (padded_front n (7 - n) (region_from head b) empty_region i l) ∙ r))
      (λ u.
      let l = ltb-false i n u in
      region_past (field_with two b) i l (padded_past n (7 - n) (region_from head b) empty_region i l))

-- ---- kind 1

-- the two halves of its word, at most what their parts can be
module _ (b : List ℕ) (e : register_fits b ≡ true) where
  halves_ranged : (l : List ℕ) → ((i : ℕ) → i < 240 → leb (get_or l i 0) (half_limit i) ≡ true)
      → (i : ℕ) → i < 240
      → leb (get_or (set (set l (2 * get_or b 0 0) (low_from b)) (2 * get_or b 0 0 + 1) (high_from b)) i 0) (half_limit i) ≡ true
  unfolding register_fits
  halves_ranged l old =
      let w = passed _ e in
      let in-limit : ℕ → ℕ → Type 0 = λ i x. leb x (half_limit i) ≡ true in
      stored in-limit 240 (set l (2 * get_or b 0 0) (low_from b)) (2 * get_or b 0 0 + 1) (high_from b) 0 w.1.1.0
      (stored in-limit 240 l (2 * get_or b 0 0) (low_from b) 0 w.1.0 old)

-- ---- kinds 2, 4, 5, 6: a present item, whose tests are the record's

sequence_ranged : (b : List ℕ) → sequence_fits b ≡ true → sequence_in (sequence_from b) ≡ true
unfolding sequence_fits sequence_in
sequence_ranged b e = all-passed (sequence_range (sequence_from b)) (passed _ e).1

gate_ranged : (b : List ℕ) → gate_fits b ≡ true → gate_in (gate_from b) ≡ true
unfolding gate_fits gate_in
gate_ranged b e = all-passed (gate_range (gate_from b)) (passed _ e).1

subck_ranged : (b : List ℕ) → subck_fits b ≡ true → subck_in (subck_from b) ≡ true
unfolding subck_fits subck_in
subck_ranged b e = e

shutter_ranged : (b : List ℕ) → shutter_fits b ≡ true → shutter_in (shutter_from b) ≡ true
unfolding shutter_fits shutter_in
shutter_ranged b e = all-passed (shutter_range (shutter_from b)) (passed _ e).1

-- ---- a record put

-- what holds of the profile with each kind's item, where the record fits, holds of the profile with the record
with_case : (Q : Profile → Type 0) (kind : ℕ) (b : List ℕ) (p : Profile)
    → (register_fits b ≡ true → Q (set_tables (with_register b p.tables) p))
    → (sequence_fits b ≡ true → Q (set_tables (with_sequence b p.tables) p))
    → (field_fits b ≡ true → Q (set_field (field_from b) p))
    → (gate_fits b ≡ true → Q (set_tables (with_gate b p.tables) p))
    → (subck_fits b ≡ true → Q (set_tables (with_subck b p.tables) p))
    → (shutter_fits b ≡ true → Q (set_tables (with_shutter b p.tables) p))
    → fits kind b ≡ true → Q (with_record kind b p)
unfolding fits with_record
with_case Q kind b p = by_kind_lem (λ (f : Bool) (q : Profile). f ≡ true → Q q) kind

-- by its parts, one a table
sized : {p : Profile} → length p.tables.registers ≡ 240 → length p.tables.sequences ≡ 10 → length p.tables.gates ≡ 5
    → length p.tables.shutters ≡ 2 → length p.field.regions ≡ 7 → Sized p
sized h s g u r = record { registers = h; sequences = s; gates = g; shutters = u; regions = r }

pub with_sized : (kind : ℕ) (b : List ℕ) (p : Profile) → Sized p → fits kind b ≡ true → Sized (with_record kind b p)
with_sized kind b p z =
    with_case Sized kind b p
    (λ f. sized (simp length-set z.registers) z.sequences z.gates z.shutters z.regions)
    (λ f. sized z.registers (simp length-set z.sequences) z.gates z.shutters z.regions)
    (λ f. sized z.registers z.sequences z.gates z.shutters (length_regions _ b f))
    (λ f. sized z.registers z.sequences (simp length-set z.gates) z.shutters z.regions)
    (λ f. sized z.registers z.sequences z.gates z.shutters z.regions)
    (λ f. sized z.registers z.sequences z.gates (simp length-set z.shutters) z.regions)

-- a profile whose tables are in range, and whose field is
ranged : (p : Profile) → ((i : ℕ) → i < 240 → leb (get_or p.tables.registers i 0) (half_limit i) ≡ true)
    → ((k : ℕ) → k < 10 → sequence_in (get_or p.tables.sequences k empty_sequence) ≡ true)
    → ((k : ℕ) → k < 5 → gate_in (get_or p.tables.gates k empty_gate) ≡ true) → subck_in p.tables.subck ≡ true
    → ((k : ℕ) → k < 2 → shutter_in (get_or p.tables.shutters k empty_shutter) ≡ true) → head_in p.field ≡ true
    → ((i : ℕ) → i < 7 → region_in p.field i ≡ true) → Items p
ranged p h s g c u f r = record { halves = h; sequences = s; gates = g; subck = c; shutters = u; field = f; regions = r }

pub with_items : (kind : ℕ) (b : List ℕ) (p : Profile) → Items p → fits kind b ≡ true → Items (with_record kind b p)
with_items kind b p r =
    let t = p.tables in
    with_case Items kind b p
    (λ f.
    ranged _ (halves_ranged b f t.registers r.halves) r.sequences r.gates r.subck r.shutters r.field r.regions)
    (λ f.
    let s =
    stored (λ (i : ℕ) (s : Sequence). sequence_in s ≡ true) 10 t.sequences (number_at b 0) (sequence_from b) empty_sequence
    (sequence_ranged b f) r.sequences in
    ranged _ r.halves s r.gates r.subck r.shutters r.field r.regions)
    (λ f. ranged _ r.halves r.sequences r.gates r.subck r.shutters (field_ranged _ b f) (region_ranged _ b f))
    (λ f.
    let g =
    stored (λ (i : ℕ) (g : Gate). gate_in g ≡ true) 5 t.gates (number_at b 0) (gate_from b) empty_gate (gate_ranged b f) r.gates in
    ranged _ r.halves r.sequences g r.subck r.shutters r.field r.regions)
    (λ f. ranged _ r.halves r.sequences r.gates (subck_ranged b f) r.shutters r.field r.regions)
    (λ f.
    let u =
    stored (λ (i : ℕ) (s : Shutter). shutter_in s ≡ true) 2 t.shutters (number_at b 0) (shutter_from b) empty_shutter
    (shutter_ranged b f) r.shutters in
    ranged _ r.halves r.sequences r.gates r.subck u r.field r.regions)

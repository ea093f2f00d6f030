-- Laws of the readers in code: a test before others, a body's answer, items with a number, a register, a field and its regions.
-- Assumes nothing.
use Rattle.std.proofs.Common.{Some, None}
use mathlib.Core.Path.{◌≡◌, refl, sym, ◌∙◌}
use mathlib.Core.Bool.{Bool, true, false, ◌&&◌, false≢true}
use mathlib.Core.List.{List, [], ◌∷◌, ◌++◌, append_assoc}
use Prim.Native.Nat.{ℕ, suc, ◌+◌, ◌-◌, ◌*◌, ◌/◌, ◌%◌, ◌≤◌, ◌<◌}
use native.Mathlib.Omega.{arith}
use borrow.Author.Tests.{leb-true, le-leb, lt-leb, eqb-true}
use lib.Dec.{leb, eqb}
use lib.ListN.{length, get_or, set, replicate, length-set}
use lib.Seq.{set_at}
use Rattle.profile.specs.Lists.{all, chunks}
use Rattle.profile.specs.Values.{mode_of, empty_region, set_tables, set_field, set_registers, set_sequences, set_gates, set_subck, set_shutters}
use Rattle.profile.specs.Bytes.{number_at, data_at}
use Rattle.profile.specs.Layout.{half_limit}
use Rattle.profile.specs.Ranges.{sequence_range, gate_range, subck_range, shutter_range, field_range, region_range}
use Rattle.profile.specs.Script.{head_length, region_length, region_start, register_fits, with_register, sequence_from, sequence_fits, with_sequence, gate_from, gate_fits, with_gate, subck_from, subck_fits, with_subck, shutter_from, shutter_fits, with_shutter, region_from, regions_from, has_form, count_from, field_with, region_fits, fits_with, field_fits}
use Rattle.profile.specs.Reading.{when, field_answer, head_from, region_answer, regions_answer}
use Rattle.profile.specs.declared.Sequence.{Sequence}
use Rattle.profile.specs.declared.Gate.{Gate}
use Rattle.profile.specs.declared.Subck.{Subck}
use Rattle.profile.specs.declared.Shutter.{Shutter}
use Rattle.profile.specs.declared.Tables.{Tables}
use Rattle.profile.specs.declared.Field.{Field}
use Rattle.profile.specs.declared.Mode.{Mode}
use Rattle.profile.specs.declared.Region.{Region}
use Rattle.profile.specs.declared.Profile.{Profile}
use Rattle.profile.proofs.Laws.{by_cases, and_left, and_right, all_append, all-chunks, chunks_more, length_ones}
use Rattle.profile.proofs.Tested.{joined-all}
use Rattle.profile.proofs.Items.{field_count}

-- ---- tests

-- one test before all others
pub all-front : (a : Bool) (l : List Bool) → a && all l ≡ all (a ∷ l)
unfolding all
all-front true l = refl
all-front false l = refl

-- an item's number that passed its test, which was joined with those of the item
pub passed-below : (n k m : ℕ) (r : Bool) → leb n k && r ≡ true → suc k ≡ m → n < m
passed-below n k m r e h = omega (arith, leb-true n k (and_left (leb n k) r e))

-- ---- what passed its tests

module _ {A : Type 0} {fits t : Bool} (h : t ≡ fits) where
  pub when_no : (x : A) → t ≡ false → None ≡ when fits x
  when_no x e = rw (← h, e)

  pub when_yes : {x y : A} → t ≡ true → y ≡ x → Some y ≡ when fits x
  when_yes e f = rw (← h, e, f)

-- and back
module _ {A : Type 0} where
  pub when_some : (fits : Bool) {x y : A} → Some y ≡ when fits x → (fits ≡ true) × (y ≡ x)
  when_some true e = (refl, cc)
  when_some false e = cc

  pub when_none : (fits : Bool) (x : A) → None ≡ when fits x → fits ≡ false
  when_none true x e = cc
  when_none false x e = refl

-- ---- a body

-- an item with a number, as the code has them, that are those of the body: the test of the number before the item's ranges
item_test : {A : Type 0} (range : A → List Bool) (top : ℕ) {n n' : ℕ} {s s' : A} {r : Bool} → n ≡ n' → s ≡ s' → r ≡ all (range s)
    → leb n top && r ≡ all (leb n' top ∷ range s')
item_test range top en es er = rw (er, es, en) (all-front _ _)

-- the tests in code are those of the definition
module _ (b : List ℕ) {n : ℕ} {r : Bool} where
  pub sequence_test : {s : Sequence} → n ≡ number_at b 0 → s ≡ sequence_from b → r ≡ all (sequence_range s) → leb n 9 && r ≡ sequence_fits b
  unfolding sequence_fits
  sequence_test = item_test sequence_range 9

  pub gate_test : {s : Gate} → n ≡ number_at b 0 → s ≡ gate_from b → r ≡ all (gate_range s) → leb n 4 && r ≡ gate_fits b
  unfolding gate_fits
  gate_test = item_test gate_range 4

  pub shutter_test : {s : Shutter} → n ≡ number_at b 0 → s ≡ shutter_from b → r ≡ all (shutter_range s) → leb n 1 && r ≡ shutter_fits b
  unfolding shutter_fits
  shutter_test = item_test shutter_range 1

pub subck_test : (b : List ℕ) {s : Subck} {r : Bool} → s ≡ subck_from b → r ≡ all (subck_range s) → r ≡ subck_fits b
unfolding subck_fits
subck_test b es er = er ∙ rw es

-- an item in the tables is that of the body
module _ (b : List ℕ) (p : Profile) where
  abbrev t : Tables
  t = p.tables

  module _ (n : ℕ) where
    pub sequence-set : (s : Sequence) → n ≡ number_at b 0 → s ≡ sequence_from b
        → set_tables (set_sequences (set t.sequences n s) t) p ≡ set_tables (with_sequence b t) p
    sequence-set s en es = rw (en, es)

    pub gate_set : (s : Gate) → n ≡ number_at b 0 → s ≡ gate_from b → set_tables (set_gates (set t.gates n s) t) p ≡ set_tables (with_gate b t) p
    gate_set s en es = rw (en, es)

    pub shutter_set : (s : Shutter) → n ≡ number_at b 0 → s ≡ shutter_from b
        → set_tables (set_shutters (set t.shutters n s) t) p ≡ set_tables (with_shutter b t) p
    shutter_set s en es = rw (en, es)

  pub subck_set : (s : Subck) → s ≡ subck_from b → set_tables (set_subck s t) p ≡ set_tables (with_subck b t) p
  subck_set s es = rw es

-- a register: its address, then its halves
pub register_past : (b : List ℕ) (a : ℕ) → a ≡ get_or b 0 0 → 119 < a → register_fits b ≡ false
unfolding register_fits all
register_past b a ea h = rw (← ea, lt-leb a 119 h)

pub register_test : (b : List ℕ) (a v : ℕ) {x y : Bool} → a ≡ get_or b 0 0 → v ≡ data_at b 1 → a ≤ 119 → x ≡ leb (v % 4096) (half_limit (2 * a))
    → y ≡ leb (v / 4096) (half_limit (2 * a + 1)) → x && y ≡ register_fits b
unfolding register_fits all
register_test b a v ea ev h ex ey = rw (ex, ey, ← ea, ← ev, le-leb a 119 h)
    (joined-all (leb (v % 4096) (half_limit (2 * a))) (leb (v / 4096) (half_limit (2 * a + 1)) ∷ []))

pub register-set : (b : List ℕ) (p : Profile) (a v : ℕ) → a ≡ get_or b 0 0 → v ≡ data_at b 1
    → set_tables (set_registers (set (set p.tables.registers (2 * a) (v % 4096)) (2 * a + 1) (v / 4096)) p.tables) p
    ≡ set_tables (with_register b p.tables) p
register-set b p a v ea ev = rw (ea, ev)

pub ruleset reading = (passed-below, when_no, when_yes, sequence-set, gate_set, shutter_set, subck_set, sequence_test, gate_test, shutter_test, subck_test)

-- ---- a field's regions

-- region i, of numbers that are the body's, and its tests
module _ (b : List ℕ) (head i : ℕ) {first sequence number : ℕ} {mode : Mode} (ef : first ≡ number_at b (region_start head i))
    (es : sequence ≡ number_at b (region_start head i + 2)) (en : number ≡ number_at b (region_start head i + 4)) (em : mode ≡ mode_of number) where
  pub region_made : record { first = first; sequence = sequence; mode = mode } ≡ region_from head b i
  region_made = rw (em, ef, es, en)

  pub region_test : {r : Bool} → r ≡ all (region_range (record { first = first; sequence = sequence; mode = mode }))
      → leb number 2 && r ≡ all (region_fits head b i)
  region_test er = item_test region_range 2 en region_made er

-- an array filled from the front: one element more
padded_more : {A : Type 0} (n i : ℕ) (f : ℕ → A) (d : A) → i < n
    → set (chunks i (λ k. f k ∷ []) ++ replicate (n - i) d) i (f i) ≡ chunks (i + 1) (λ k. f k ∷ []) ++ replicate (n - (i + 1)) d
padded_more n i f d h =
    let k : n - i ≡ suc (n - (i + 1)) = omega arith in
    rw (k, set_at (chunks i (λ k. f k ∷ [])) d (replicate (n - (i + 1)) d) (f i) i (length_ones i f), chunks_more, append_assoc)

-- the first i regions are read, they are in range, and the rest are empty
pub record Filled (head : ℕ) (b : List ℕ) (regions : List Region) (i : ℕ) : Type 0 where
  pub long : length regions ≡ 7
  pub tested : all (chunks i (region_fits head b)) ≡ true
  pub filled : regions ≡ regions_from head b i ++ replicate (7 - i) empty_region

pub filled_none : {head : ℕ} {b : List ℕ} (none : Region) → none ≡ empty_region → Filled head b (replicate 7 none) 0
unfolding all chunks
filled_none none e = record { long = refl; tested = refl; filled = rw e }

-- one that is not in range
some_unfit : (f : ℕ → List Bool) (n i : ℕ) → i < n → all (f i) ≡ false → all (chunks n f) ≡ false
some_unfit f n i h e = by_cases (all (chunks n f)) (λ q. absurd (false≢true (sym e ∙ all-chunks n f q i h))) (λ q. q)

module _ {head : ℕ} {b : List ℕ} {regions : List Region} {i : ℕ} (w : Filled head b regions i) where
  pub filled_more : (region : Region) → i < 7 → Some region ≡ region_answer head b i → Filled head b (set regions i region) (i + 1)
  filled_more region h e =
      let k = when_some (all (region_fits head b i)) e in
      record {
        long = simp length-set w.long;
        tested = rw (chunks_more, all_append, w.tested) k.0;
        filled = rw (w.filled, k.1) (padded_more 7 i (region_from head b) empty_region h);
      }

  pub filled_stop : (n : ℕ) → i < n → None ≡ region_answer head b i → None ≡ regions_answer head b n
  filled_stop n h e = rw (some_unfit (region_fits head b) n i h (when_none (all (region_fits head b i)) _ e))

  pub filled-all : (n : ℕ) → i ≡ n → Some regions ≡ regions_answer head b n
  filled-all n e = rw (← e, w.tested, w.filled)

-- ---- a field

-- the form, the bytes before the regions, their numbers and the test of these, as the code has them
module _ (b : List ℕ) {two : Bool} {size : ℕ} {head : Field} {r : Bool} (form : two ≡ has_form true (length b)) (long : size ≡ head_length two)
    (made : head ≡ head_from two b) (tested : r ≡ all (field_range head)) where
  abbrev head_right : Bool
  head_right = eqb (size + region_length * head.count) (length b) && r

  head_test : head_right ≡ all (eqb (head_length two + region_length * count_from (head_length two) b) (length b) ∷ field_range (field_with two b))
  unfolding field_with
  head_test = rw (tested, made, long) (all-front _ _)

  pub head_no : (p : Profile) → head_right ≡ false → None ≡ field_answer b p
  unfolding fits_with
  head_no p e = rw (← form, sym head_test ∙ e)

  pub head_count : head_right ≡ true → (size + region_length * head.count ≤ length b) × (head.count ≤ 7)
  head_count e =
      let s = eqb-true (size + region_length * head.count) (length b) (and_left _ r e) in
      let n = field_count head (sym tested ∙ and_right (eqb (size + region_length * head.count) (length b)) r e) in
      (omega arith, n.1)

  module _ (e : head_right ≡ true) where
    field_tests : field_fits b ≡ all (chunks head.count (region_fits size b))
    unfolding fits_with
    field_tests = rw (← form, sym head_test ∙ e, made, long)

    pub field_no : (p : Profile) → None ≡ regions_answer size b head.count → None ≡ field_answer b p
    field_no p g = rw (field_tests, when_none (all (chunks head.count (region_fits size b))) _ g)

    pub field-yes : (p : Profile) {regions : List Region} → Some regions ≡ regions_answer size b head.count
        → Some (set_field (record {
          present = head.present;
          lines = head.lines;
          last = head.last;
          gate = head.gate;
          gate2 = head.gate2;
          second = head.second;
          count = head.count;
          regions = regions;
        }) p) ≡ field_answer b p
    unfolding field_with
    field-yes p g =
        let k = when_some (all (chunks head.count (region_fits size b))) g in
        rw (field_tests, k.0, k.1, made, long, ← form)

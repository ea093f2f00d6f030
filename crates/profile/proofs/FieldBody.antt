-- A field's record, written and read again: its head, then region by region.
-- Region i's bytes lie from its start in the body, and the regions past n are the empty ones.
-- Assumes nothing.
use mathlib.Core.Path.{◌≡◌, refl, sym, ap, ◌∙◌}
use mathlib.Core.Bool.{Bool, true, false, cond}
use mathlib.Core.List.{List, [], ◌∷◌, ◌++◌}
use Prim.Native.Nat.{ℕ, ◌+◌, ◌-◌, ◌*◌, ◌/◌, ◌%◌, ◌<◌, ◌≤◌}
use native.Mathlib.Omega.{arith}
use borrow.Author.Tests.{ltb-true, ltb-false, le-leb, eq-eqb, eqb-true, not-false}
use lib.Dec.{ltb, leb, eqb}
use lib.ListN.{length, get_or, replicate, length-append, length-replicate, get_or-replicate, get_or-append, get_or-eq_default}
use lib.Seq.{get_or-append-add, ext_get_or}
use Rattle.profile.specs.Lists.{all, chunks}
use Rattle.profile.specs.Bytes.{number_at}
use Rattle.profile.specs.Values.{none, mode_number, mode_of, empty_region, set_field}
use Rattle.profile.specs.Geometry.{region_count, region_at, has_second_line}
use Rattle.profile.specs.Ranges.{field_range, region_range, region_in}
use Rattle.profile.specs.Script.{
  head_length,
  region_length,
  region_start,
  region_from,
  regions_from,
  count_from,
  region_fits,
  has_form,
  field_with,
  fits_with,
  allowed,
  fits,
  with_record,
}
use Rattle.profile.specs.Writing.{region_bytes, field_head, field_body, field_record}
use Rattle.profile.specs.declared.Mode.{Mode}
use Rattle.profile.specs.declared.Mode.TheVariants.{Plain, Sweep, Multiplier}
use Rattle.profile.specs.declared.Region.{Region}
use Rattle.profile.specs.declared.Field.{Field}
use Rattle.profile.specs.declared.Profile.{Profile}
use Rattle.profile.proofs.Laws.{by_cases, and_intro, passed, all-passed, chunks-all, length-chunks, get_d_chunks, length_ones, get_d_ones}
use Rattle.profile.proofs.Items.{field_count, region_present, region_absent}
use Rattle.profile.proofs.Forms.{form_allowed, form_told}
use Rattle.profile.proofs.Stores.{head_bytes, length-head, length-body}
use Rattle.profile.proofs.ByteRange.{mode-below}
use Rattle.profile.proofs.Takes.{Takes}
use Rattle.profile.proofs.Bodies.{join_two, takes_written}

mode_back : (m : Mode) → mode_of (mode_number m) ≡ m
mode_back Plain = refl
mode_back Sweep = refl
mode_back Multiplier = refl

mode-fits : (m : Mode) → leb (mode_number m) 2 ≡ true
mode-fits m = le-leb (mode_number m) 2 (omega (arith, mode-below m))

-- ---- one region

module _ (f : Field) (n : ℕ) (i : ℕ) (h : i < n) where
  byte_at : (j at : ℕ) → j < region_length → at ≡ region_start (head_bytes f) i + j → get_or (field_body f n) at 0 ≡ get_or (region_bytes f i) j 0
  byte_at j at l e =
      let q : at ≡ length (field_head f) + (length (chunks i (region_bytes f)) + j) =
      omega (arith, length-head f, length-chunks region_length i (region_bytes f) (λ i. refl)) in
      ap (λ (k : ℕ). get_or (field_body f n) k 0) q
      ∙ get_or-append-add (field_head f) (chunks n (region_bytes f)) (length (chunks i (region_bytes f)) + j) 0
      ∙ get_d_chunks n (region_bytes f) 0 i j h l

  number_is : (j at w : ℕ) → j + 1 < region_length → at ≡ region_start (head_bytes f) i + j → get_or (region_bytes f i) j 0 ≡ w % 256
      → get_or (region_bytes f i) (j + 1) 0 ≡ w / 256 → number_at (field_body f n) at ≡ w
  number_is j at w l e lo hi =
      let u : j < region_length = omega arith in
      let v : at + 1 ≡ region_start (head_bytes f) i + (j + 1) = omega arith in
      rw (byte_at j at u e, byte_at (j + 1) (at + 1) l v, lo, hi) (join_two w)

  abbrev start : ℕ
  start = region_start (head_bytes f) i

  first_is : number_at (field_body f n) start ≡ (region_at f i).first
  first_is = number_is 0 start (region_at f i).first (omega arith) (omega arith) refl refl

  sequence_is : number_at (field_body f n) (start + 2) ≡ (region_at f i).sequence
  sequence_is = number_is 2 (start + 2) (region_at f i).sequence (omega arith) (omega arith) refl refl

  mode_is : number_at (field_body f n) (start + 4) ≡ mode_number (region_at f i).mode
  mode_is = number_is 4 (start + 4) (mode_number (region_at f i).mode) (omega arith) (omega arith) refl refl

  region_back : region_from (head_bytes f) (field_body f n) i ≡ region_at f i
  region_back j =
      record {
        first = first_is j;
        sequence = sequence_is j;
        mode = (ap mode_of mode_is ∙ mode_back (region_at f i).mode) j;
      }

  region_fits_lem : all (region_range (region_at f i)) ≡ true → all (region_fits (head_bytes f) (field_body f n) i) ≡ true
  region_fits_lem e =
      let r = ap (λ (r : Region). all (region_range r)) region_back ∙ e in
      all-passed (region_fits (head_bytes f) (field_body f n) i) (rw mode_is (mode-fits (region_at f i).mode), passed _ r)

-- ---- a list of n, padded

module _ {A : Type 0} (n m : ℕ) (g : ℕ → A) (d : A) where
  pub padded_front : (i : ℕ) → i < n → get_or (chunks n (λ i. g i ∷ []) ++ replicate m d) i d ≡ g i
  padded_front i h =
      get_or-append (chunks n (λ i. g i ∷ [])) (replicate m d) d i (omega (arith, length_ones n g)) ∙ get_d_ones n g d i h

  pub padded_past : (i : ℕ) → n ≤ i → get_or (chunks n (λ i. g i ∷ []) ++ replicate m d) i d ≡ d
  padded_past i h =
      let e : i ≡ length (chunks n (λ i. g i ∷ [])) + (i - n) = omega (arith, length_ones n g) in
      ap (λ (k : ℕ). get_or (chunks n (λ i. g i ∷ []) ++ replicate m d) k d) e
      ∙ get_or-append-add (chunks n (λ i. g i ∷ [])) (replicate m d) (i - n) d
      ∙ by_cases (ltb (i - n) m)
      (λ q. get_or-replicate m (i - n) d d (ltb-true (i - n) m q))
      (λ q. get_or-eq_default (replicate m d) d (omega (arith, ltb-false (i - n) m q, length-replicate m d)))

  pub length_padded : length (chunks n (λ i. g i ∷ []) ++ replicate m d) ≡ n + m
  length_padded = omega (arith, length-append (chunks n (λ i. g i ∷ [])) (replicate m d), length_ones n g, length-replicate m d)

-- ---- all regions, and the field

abbrev regions_with : ℕ → List ℕ → ℕ → List Region
regions_with head b n = regions_from head b n ++ replicate (7 - n) empty_region

regions_back : (f : Field) (n : ℕ) → length f.regions ≡ 7 → n ≤ 7 → ((i : ℕ) → i < 7 → n ≤ i → region_at f i ≡ empty_region)
    → regions_with (head_bytes f) (field_body f n) n ≡ f.regions
regions_back f n sized n≤7 past =
    let l = length_padded n (7 - n) (region_from (head_bytes f) (field_body f n)) empty_region in
    ext_get_or empty_region (regions_with (head_bytes f) (field_body f n) n) f.regions (omega arith)
    (λ i h.
    by_cases (ltb i n)
    (λ q.
    let w = ltb-true i n q in
    padded_front n (7 - n) (region_from (head_bytes f) (field_body f n)) empty_region i w ∙ region_back f n i w)
    (λ q.
    let w = ltb-false i n q in
    padded_past n (7 - n) (region_from (head_bytes f) (field_body f n)) empty_region i w ∙ sym (past i (omega arith) w)))

-- the numbers of its head that stand elsewhere, or not at all, in the other form
module _ (f : Field) (n : ℕ) where
  second_line_is : (two : Bool) → has_second_line f ≡ two → cond two (number_at (field_body f n) 6) none ≡ f.gate2
  second_line_is true e = rw e (join_two f.gate2)
  second_line_is false e = sym (eqb-true f.gate2 none (not-false _ e))

  second_is : (two : Bool) → has_second_line f ≡ two → number_at (field_body f n) (head_length two - 4) ≡ f.second
  second_is true e = rw e (join_two f.second)
  second_is false e = rw e (join_two f.second)

  count_is : (two : Bool) → has_second_line f ≡ two → count_from (head_length two) (field_body f n) ≡ f.count
  count_is true e = rw e (join_two f.count)
  count_is false e = rw e (join_two f.count)

module _ (f : Field) (sized : length f.regions ≡ 7) (present : f.present ≡ true) (range : all (field_range f) ≡ true)
    (regions : (i : ℕ) → i < 7 → region_in f i ≡ true) where
  count_low : 1 ≤ f.count
  count_low = (field_count f range).0

  count_high : f.count ≤ 7
  count_high = (field_count f range).1

  abbrev body : List ℕ
  body = field_body f f.count

  -- its length tells the form in which it is written
  form_is : has_form true (length body) ≡ has_second_line f
  form_is = rw (length-body f f.count) (form_told (has_second_line f) f.count count_low count_high)

  field_back : field_with (has_second_line f) body ≡ f
  unfolding field_with
  field_back =
      let c = count_is f f.count (has_second_line f) refl in
      let r =
      ap (λ (n : ℕ). regions_with (head_bytes f) body n) c
      ∙ regions_back f f.count sized count_high (λ i h l. region_absent f i (regions i h) l) in
      λ i.
      record {
        present = sym present i;
        lines = join_two f.lines i;
        last = join_two f.last i;
        gate = join_two f.gate i;
        gate2 = second_line_is f f.count (has_second_line f) refl i;
        second = second_is f f.count (has_second_line f) refl i;
        count = c i;
        regions = r i;
      }

  field_fits_lem : fits_with (has_second_line f) body ≡ true
  unfolding fits_with
  field_fits_lem =
      rw (count_is f f.count (has_second_line f) refl, field_back)
      (and_intro
      (all-passed (eqb (head_bytes f + region_length * f.count) (length body) ∷ field_range f)
      (eq-eqb _ _ (sym (length-body f f.count)), passed (field_range f) range))
      (chunks-all f.count (region_fits (head_bytes f) body)
      (λ i h. region_fits_lem f f.count i h (region_present f i (regions i (omega (arith, count_high))) h))))

  pub takes_field : (p : Profile) → Takes (field_record f) p (set_field f p)
  unfolding allowed fits with_record
  takes_field p =
      let c : region_count f ≡ f.count = omega (arith, count_high) in
      rw c
      (takes_written 3 body refl
      (rw (length-body f f.count) (form_allowed (has_second_line f) f.count count_low count_high))
      (rw form_is field_fits_lem)
      (rw form_is (ap (λ (g : Field). set_field g p) field_back)))

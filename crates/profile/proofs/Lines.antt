-- Regions, lines and their lengths: sums of line lengths as products for every field, regions that rule 7 orders as one run of lines, and
-- how much a profile in range can have. Line lengths of a region are alike but for the field's last line, and starts that rise part the lines.
-- Assumes nothing.
use mathlib.Core.Path.{◌≡◌, refl, sym, ap, ◌∙◌}
use mathlib.Core.Bool.{true}
use mathlib.Core.List.{List}
use Prim.Native.Nat.{ℕ, zero, suc, ◌+◌, ◌*◌, ◌-◌, ◌≤◌, ◌<◌}
use native.Mathlib.Nat.{zero-mul, le_trans}
use native.Mathlib.Numerals.{add-one}
use native.Mathlib.Omega.{arith}
use borrow.Author.Tests.{lt-leb, ltb-true, ltb-false, leb-true, leb-false, eqb-true, eqb-false, lt-ltb, le-ltb, eq-eqb, ne_eqb}
use lib.Dec.{ltb, leb, eqb}
use Rattle.profile.proofs.Items.{items}
use Rattle.profile.proofs.Carried.{sequence_in_lem, region_in_lem, head_in_lem}
use Rattle.profile.proofs.Laws.{cond-case, by_cases, and_left, and_right, and_intro, sum_ext, sum_same, sum_le, sum-none, sum-next, sum_below, sum_but_one, sum_upto, sum-parts, chunks-parts, last_below, last_is, last_starts, last_next}
use Rattle.profile.specs.Lists.{chunks, sum, last_start}
use Rattle.profile.specs.Geometry.{
  region_count,
  region_at,
  first_line,
  end_line,
  Ordered,
  region_of,
  sequence_of,
  sequence_at,
  length_in,
  line_length,
  region_pixels,
  product_pixels,
  region_size,
  pixels_before,
  pixel_count,
  regions_pixels,
  has_pixel,
}
use Rattle.profile.specs.Ranges.{sequence_in, in_range}
use Rattle.profile.specs.Obeys.{FieldRanged, RegionRanged}
use Rattle.profile.specs.declared.Sequence.{Sequence}
use Rattle.profile.specs.declared.Field.{Field}
use Rattle.profile.specs.declared.Tables.{Tables}
use Rattle.profile.specs.declared.Profile.{Profile}

-- ---- a line's length, and the pixels of a region's lines as a product

module _ (t : Tables) (f : Field) (i : ℕ) where
  pub length_last : (line : ℕ) → line + 1 ≡ f.lines → length_in t f i line ≡ f.last
  unfolding length_in
  length_last line e = rw (eq-eqb (line + 1) f.lines e)

  pub length_inner : (line : ℕ) → (line + 1 ≡ f.lines → ⊥) → length_in t f i line ≡ (sequence_at t f i).length
  unfolding length_in
  length_inner line n = rw (ne_eqb (line + 1) f.lines n)

  pub length_bound : (c line : ℕ) → (sequence_at t f i).length ≤ c → f.last ≤ c → length_in t f i line ≤ c
  unfolding length_in
  length_bound c line a b =
      cond-case (λ n. n ≤ c) (eqb (line + 1) f.lines) f.last (sequence_at t f i).length (λ q. b) (λ q. a)

  pub pixels_bound : (c line : ℕ) → (sequence_at t f i).length ≤ c → f.last ≤ c
      → region_pixels t f i line ≤ (line - first_line f i) * c
  unfolding region_pixels
  pixels_bound c line a b =
      sum_le (length_in t f i) (first_line f i) (line - first_line f i) c (λ k l u. length_bound c k a b)

  -- the region's lines before line e: the field's last line is not among them
  pub pixels_inner : (e : ℕ) → ((line : ℕ) → first_line f i ≤ line → line < e → line + 1 ≡ f.lines → ⊥)
      → region_pixels t f i e ≡ (e - first_line f i) * (sequence_at t f i).length
  unfolding region_pixels
  pixels_inner e n =
      sum_same (length_in t f i) (first_line f i) (e - first_line f i) (sequence_at t f i).length
      (λ line l u. length_inner line (n line l (omega arith)))

  -- the field's last line is among them
  pub pixels_last : (e : ℕ) → first_line f i < f.lines → f.lines ≤ e
      → region_pixels t f i e ≡ (e - first_line f i - 1) * (sequence_at t f i).length + f.last
  unfolding region_pixels
  pixels_last e l u =
      sum_but_one (length_in t f i) (first_line f i) (e - first_line f i) (sequence_at t f i).length (f.lines - 1) (omega arith) (omega arith)
      (λ line a b n. length_inner line (omega arith))
      ∙ ap (λ (x : ℕ). (e - first_line f i - 1) * (sequence_at t f i).length + x) (length_last (f.lines - 1) (omega arith))

  -- both, for every field and every e; a region's size is the case of its end
  pub size_product : (e : ℕ)
      → region_pixels t f i e ≡ product_pixels (first_line f i) f.lines f.last (sequence_at t f i).length e
  unfolding product_pixels
  size_product e =
      by_cases (ltb (first_line f i) f.lines)
      (λ a. by_cases (leb f.lines e)
      (λ b. rw (a, b) (pixels_last e (ltb-true _ _ a) (leb-true _ _ b)))
      (λ b. rw (a, b) (pixels_inner e (λ line l u q. let n = leb-false f.lines e b in omega arith))))
      (λ a. rw a (pixels_inner e (λ line l u q. let n = ltb-false (first_line f i) f.lines a in omega arith)))

  -- before a line that the field has
  pub origin_product : (line : ℕ) → line < f.lines → region_pixels t f i line ≡ (line - first_line f i) * (sequence_at t f i).length
  origin_product line h = pixels_inner line (λ k l u q. omega arith)

-- no line lies before the first
pub product_none : (first lines last length line : ℕ) → line ≤ first → 0 ≡ product_pixels first lines last length line
unfolding product_pixels
product_none first lines last length line h =
    let z : line - first ≡ 0 = omega arith in
    by_cases (ltb first lines)
    (λ a. let l = ltb-true first lines a in rw (a, lt-leb lines line (omega arith), z) (sym (zero-mul length)))
    (λ a. rw (a, z) (sym (zero-mul length)))

-- ---- the pixels before a line, and the places that there are

module _ (t : Tables) (f : Field) where
  pub before-none : pixels_before t f 0 ≡ 0
  unfolding pixels_before
  before-none = sum-none (line_length t f)

  pub before_more : (line : ℕ) → pixels_before t f (line + 1) ≡ pixels_before t f line + line_length t f line
  unfolding pixels_before
  before_more line = sum-next (line_length t f) line

  pub before-all : pixels_before t f f.lines ≡ pixel_count t f
  unfolding pixel_count
  before-all = refl

  -- a field that has a pixel has a line
  pub pixels_lines : 0 < pixel_count t f → 0 < f.lines
  pixels_lines h =
      by_cases (ltb 0 f.lines)
      (λ e. ltb-true 0 f.lines e)
      (λ e.
      let none : f.lines ≡ 0 = omega (arith, ltb-false 0 f.lines e) in
      absurd (omega (arith, ap (pixels_before t f) none, before-none, before-all)))

  pub before-below : (a b : ℕ) → a ≤ b → pixels_before t f a ≤ pixels_before t f b
  unfolding pixels_before
  before-below a b h = sum_below (line_length t f) 0 a b h

  -- a line's pixels lie before those of a later line
  pub before_later : (a b : ℕ) → a < b → pixels_before t f a + line_length t f a ≤ pixels_before t f b
  before_later a b h = omega (arith, before_more a, before-below (a + 1) b (omega arith))

  pub has_line : (line pixel : ℕ) → has_pixel t f line pixel ≡ true → line < f.lines
  unfolding has_pixel
  has_line line pixel e = ltb-true line f.lines (and_left (ltb line f.lines) _ e)

  pub has_pixel_lem : (line pixel : ℕ) → has_pixel t f line pixel ≡ true → pixel < line_length t f line
  unfolding has_pixel
  has_pixel_lem line pixel e = ltb-true pixel (line_length t f line) (and_right (ltb line f.lines) _ e)

  pub has_both : (line pixel : ℕ) → line < f.lines → pixel < line_length t f line → has_pixel t f line pixel ≡ true
  unfolding has_pixel
  has_both line pixel a b = and_intro (lt-ltb line f.lines a) (lt-ltb pixel (line_length t f line) b)

-- ---- where regions end

pub end-next : (f : Field) (i : ℕ) → i + 1 < region_count f → end_line f i ≡ first_line f (i + 1)
unfolding end_line
end-next f i h = rw (lt-ltb (i + 1) (region_count f) h)

pub end_last : (f : Field) (i : ℕ) → region_count f ≤ i + 1 → end_line f i ≡ f.lines
unfolding end_line
end_last f i h = rw (le-ltb (i + 1) (region_count f) h)

-- ---- regions in order

module _ (f : Field) (o : Ordered f) where
  -- a later region starts later, by induction on the later one
  pub start_later : (i j : ℕ) → i < j → j < region_count f → first_line f i < first_line f j
  start_later i zero h l = absurd (omega arith)
  start_later i (suc j) h l =
      let step : first_line f j < first_line f (suc j) = rw add-one at (o.rise j (omega arith)) in
      by_cases (eqb i j)
      (λ e. rw (eqb-true i j e) step)
      (λ e. omega (arith, start_later i j (omega (arith, eqb-false i j e)) (omega arith)))

  pub start-before-end : (i : ℕ) → i < region_count f → first_line f i < end_line f i
  start-before-end i h =
      by_cases (ltb (i + 1) (region_count f))
      (λ e. let l = ltb-true (i + 1) (region_count f) e in rw (end-next f i l) (o.rise i l))
      (λ e. rw (end_last f i (ltb-false (i + 1) (region_count f) e)) (o.below i h))

  pub end_most : (i : ℕ) → end_line f i ≤ f.lines
  end_most i =
      by_cases (ltb (i + 1) (region_count f))
      (λ e. let l = ltb-true (i + 1) (region_count f) e in omega (arith, end-next f i l, o.below (i + 1) l))
      (λ e. omega (arith, end_last f i (ltb-false (i + 1) (region_count f) e)))

  -- a later region starts where an earlier one ends, or after it
  pub end-before-start : (i j : ℕ) → i < j → j < region_count f → end_line f i ≤ first_line f j
  end-before-start i j h l =
      let e = end-next f i (omega arith) in
      by_cases (eqb (i + 1) j)
      (λ q. omega (arith, ap (first_line f) (eqb-true (i + 1) j q)))
      (λ q. omega (arith, start_later (i + 1) j (omega (arith, eqb-false (i + 1) j q)) l))

  -- the region of a line, and its lines
  pub region_is : (i line : ℕ) → i < region_count f → first_line f i ≤ line → line < end_line f i → region_of f line ≡ i
  unfolding region_of
  region_is i line h l u =
      last_is (first_line f) (region_count f) line i h l (λ j a b. omega (arith, end-before-start i j a b))

  pub region_has : (line : ℕ) → line < f.lines
      → (region_of f line < region_count f) × (first_line f (region_of f line) ≤ line) × (line < end_line f (region_of f line))
  unfolding region_of
  region_has line h =
      let i : ℕ = last_start (first_line f) (region_count f) line in (
        last_below (first_line f) (region_count f) line o.some,
        last_starts (first_line f) (region_count f) line o.some (omega (arith, o.zero)),
        by_cases (ltb (i + 1) (region_count f))
            (λ e.
            let l = ltb-true (i + 1) (region_count f) e in
            rw (end-next f i l) (last_next (first_line f) (region_count f) line (i + 1) (omega arith) l))
            (λ e. rw (end_last f i (ltb-false (i + 1) (region_count f) e)) h),
      )

  -- the regions' lines in order are all the field's lines, once
  pub regions_lines : {A : Type 0} (g : ℕ → List A)
      → chunks (region_count f) (λ i. chunks (end_line f i - first_line f i) (λ k. g (first_line f i + k))) ≡ chunks f.lines g
  regions_lines g =
      let n : ℕ = region_count f - 1 in
      let e : n + 1 ≡ region_count f = omega (arith, o.some) in
      ap (λ (m : ℕ). chunks m (λ i. chunks (end_line f i - first_line f i) (λ k. g (first_line f i + k)))) (sym e)
      ∙ chunks-parts (first_line f) (end_line f) o.zero g n
      (λ i l. omega (arith, start-before-end i (omega arith)))
      (λ i l. end-next f i (omega arith))
      ∙ ap (λ (m : ℕ). chunks m g) (end_last f n (omega arith))

  module _ (t : Tables) where
    pub line-length-in : (i line : ℕ) → i < region_count f → first_line f i ≤ line → line < end_line f i
        → line_length t f line ≡ length_in t f i line
    unfolding line_length
    line-length-in i line h l u = ap (λ (j : ℕ). length_in t f j line) (region_is i line h l u)

    -- the pixels of a region's lines before a line of it, or before its end
    pub region-pixels : (i line : ℕ) → i < region_count f → line ≤ end_line f i
        → region_pixels t f i line ≡ sum (line_length t f) (first_line f i) (line - first_line f i)
    unfolding region_pixels
    region-pixels i line h u =
        sum_ext (length_in t f i) (line_length t f) (first_line f i) (line - first_line f i)
        (λ k a b. sym (line-length-in i k h a (omega arith)))

    pub pixels-before-line : (i line : ℕ) → i < region_count f → first_line f i ≤ line → line ≤ end_line f i
        → pixels_before t f line ≡ pixels_before t f (first_line f i) + region_pixels t f i line
    unfolding pixels_before
    pixels-before-line i line h l u =
        omega (arith, region-pixels i line h u, sum_upto (line_length t f) (first_line f i) line l)

    -- region sizes sum to the pixels before the last one's end, before the next one's start, and all to the field's
    pub regions-before : (n : ℕ) → n < region_count f → sum (region_size t f) 0 (n + 1) ≡ pixels_before t f (end_line f n)
    unfolding pixels_before
    regions-before n h =
        sum_ext (region_size t f) (λ i. sum (line_length t f) (first_line f i) (end_line f i - first_line f i)) 0 (n + 1)
        (λ i l u. region-pixels i (end_line f i) (omega arith) (omega arith))
        ∙ sum-parts (first_line f) (end_line f) o.zero (line_length t f) n
        (λ i l. omega (arith, start-before-end i (omega arith)))
        (λ i l. end-next f i (omega arith))

    pub regions-start : (i : ℕ) → i < region_count f → sum (region_size t f) 0 i ≡ pixels_before t f (first_line f i)
    regions-start zero h = sum-none (region_size t f) ∙ sym (before-none t f) ∙ ap (pixels_before t f) (sym o.zero)
    regions-start (suc i) h =
        rw (← add-one) (regions-before i (omega arith) ∙ ap (pixels_before t f) (end-next f i (omega arith)))

    pub regions-pixels : regions_pixels t f ≡ pixel_count t f
    unfolding regions_pixels pixel_count
    regions-pixels =
        let n : ℕ = region_count f - 1 in
        let e : n + 1 ≡ region_count f = omega (arith, o.some) in
        ap (λ (m : ℕ). sum (region_size t f) 0 m) (sym e)
        ∙ regions-before n (omega arith)
        ∙ ap (λ (m : ℕ). pixels_before t f m) (end_last f n (omega arith))

-- ---- a profile in range: "lines 1..4095, last-line length 1..4095", "n = 1..7", "sequence 0..9", "line length 1..4095"

-- an absent sequence has length 0
pub sequence_most : (s : Sequence) → sequence_in s ≡ true → s.length ≤ 4095
sequence_most s e =
    by_cases s.present
    (λ q. (((sequence_in_lem s).0 e).0 q).longest)
    (λ q. omega (arith, ap (λ (s : Sequence). s.length) (((sequence_in_lem s).0 e).1 q)))

module _ (p : Profile) (e : in_range p ≡ true) (there : p.field.present ≡ true) where
  pub ranged : FieldRanged p.field
  ranged = ((head_in_lem p.field).0 (items p e).field).0 there

  pub region_count_lem : region_count p.field ≡ p.field.count
  region_count_lem = omega (arith, ranged)

  pub regions_some : 1 ≤ region_count p.field
  regions_some = omega (arith, ranged)

  pub region_ranged : (i : ℕ) → i < region_count p.field → RegionRanged (region_at p.field i)
  region_ranged i h =
      ((region_in_lem p.field i).0 ((items p e).regions i (omega arith))).0 (lt-ltb i p.field.count (omega arith))

  pub sequence-length_most : (i : ℕ) → i < region_count p.field → (sequence_at p.tables p.field i).length ≤ 4095
  sequence-length_most i h =
      let k : ℕ = (region_at p.field i).sequence in
      sequence_most (sequence_of p.tables k) ((items p e).sequences k (omega (arith, region_ranged i h)))

  pub length_most : (i line : ℕ) → i < region_count p.field → length_in p.tables p.field i line ≤ 4095
  length_most i line h = length_bound p.tables p.field i 4095 line (sequence-length_most i h) ranged.longest

  pub line_length_most : (line : ℕ) → line_length p.tables p.field line ≤ 4095
  unfolding line_length region_of
  line_length_most line = length_most _ line (last_below (first_line p.field) (region_count p.field) line regions_some)

  pub region_pixels_most : (i line : ℕ) → i < region_count p.field → line ≤ 4095
      → region_pixels p.tables p.field i line ≤ 16769025
  region_pixels_most i line h l =
      le_trans (pixels_bound p.tables p.field i 4095 line (sequence-length_most i h) ranged.longest) (omega arith)

  pub pixels_most : pixel_count p.tables p.field ≤ 16769025
  unfolding pixel_count pixels_before
  pixels_most =
      le_trans (sum_le (line_length p.tables p.field) 0 p.field.lines 4095 (λ line l u. line_length_most line))
      (omega (arith, ranged))

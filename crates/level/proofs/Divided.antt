-- The line of a region's pixel, found by division. A region's lines start a sequence's length apart, and the field's last line, which alone may
-- have another length, has none after it: so the last start at or before a pixel is its line's, and a quotient cut at the last line finds it.
-- Assumes nothing.
use mathlib.Core.Path.{◌≡◌, sym, ap, ◌∙◌}
use Prim.Native.Nat.{ℕ, ◌+◌, ◌*◌, ◌-◌, ◌/◌, ◌≤◌, ◌<◌}
use native.Mathlib.Nat.{zero-mul, add-mul, div-mul-le_self, lt-div-mul-add, mul-le-mul, lt_of_mul-lt-mul_right}
use native.Mathlib.Omega.{arith}
use borrow.Author.Tests.{ltb-true, ltb-false, eqb-true, eqb-false}
use lib.Dec.{ltb, eqb}
use Rattle.profile.proofs.Laws.{by_cases, last_is, last_none, last_below, last_starts, last_next}
use Rattle.profile.proofs.Lines.{end-next, end_last, end_most, origin_product, pixels_last, length_last, length_inner, line-length-in, pixels-before-line}
use Rattle.profile.specs.Values.{accepted}
use Rattle.profile.specs.Geometry.{region_count, first_line, end_line, Ordered, sequence_at, line_length, region_size, pixels_before}
use Rattle.profile.specs.declared.Tables.{Tables}
use Rattle.profile.specs.declared.Field.{Field}
use Rattle.level.specs.Place.{last_multiple, place_of, place_answer}
use Rattle.level.proofs.Places.{located, placed_here}

-- ---- the last of `count` multiples of a length that is at or below n

module _ (length count n : ℕ) where
  pub multiple_none : count ≡ 0 → 0 ≡ last_multiple length count n
  multiple_none z = rw z (sym (last_none (λ (k : ℕ). k * length) n 0 (omega arith)))

  pub multiple_quotient : 0 < length → n / length < count → n / length ≡ last_multiple length count n
  multiple_quotient pos h =
      sym (last_is (λ (k : ℕ). k * length) count n (n / length) h (div-mul-le_self n length)
      (λ k l u.
      let next : (n / length + 1) * length ≤ k * length = mul-le-mul (omega arith) (omega arith) in
      omega (arith, next, add-mul (n / length) 1 length, lt-div-mul-add {a = n} {b = length} pos)))

  pub multiple_last : 0 < count → (count - 1) * length ≤ n → count - 1 ≡ last_multiple length count n
  multiple_last pos h = sym (last_is (λ (k : ℕ). k * length) count n (count - 1) (omega arith) h (λ k l u. absurd (omega arith)))

-- ---- pixel n of region i

module _ (t : Tables) (f : Field) (o : Ordered f) (i n : ℕ) (h : i < region_count f) (u : n < region_size t f i) where
  -- its line, counted in the region, and the length of the region's lines
  abbrev k : ℕ
  k = last_multiple (sequence_at t f i).length (f.lines - first_line f i) n

  abbrev len : ℕ
  len = (sequence_at t f i).length

  below : k < f.lines - first_line f i
  below = last_below (λ (k : ℕ). k * len) (f.lines - first_line f i) n (omega (arith, o.below i h))

  starts : k * len ≤ n
  starts =
      last_starts (λ (k : ℕ). k * len) (f.lines - first_line f i) n (omega (arith, o.below i h)) (omega (arith, zero-mul len))

  inside : first_line f i + k < end_line f i
  inside =
      by_cases (ltb (i + 1) (region_count f))
      (λ e.
      let l = ltb-true (i + 1) (region_count f) e in
      let q = end-next f i l in
      let size = origin_product t f i (end_line f i) (omega (arith, q, o.below (i + 1) l)) in
      let above = lt_of_mul-lt-mul_right len {m = k} {n = end_line f i - first_line f i} (omega (arith, starts, size)) in
      omega (arith, above))
      (λ e. omega (arith, end_last f i (ltb-false (i + 1) (region_count f) e), below))

  has_line : first_line f i + k < f.lines
  has_line = omega (arith, below)

  place : pixels_before t f (first_line f i + k) + (n - k * len) ≡ pixels_before t f (first_line f i) + n
  place =
      let before = pixels-before-line f o t i (first_line f i + k) h (omega arith) (omega (arith, inside)) in
      let product = origin_product t f i (first_line f i + k) has_line in
      let e : first_line f i + k - first_line f i ≡ k = omega arith in
      omega (arith, starts, before, rw e at product)

  pixel : n - k * len < line_length t f (first_line f i + k)
  pixel =
      let length = line-length-in f o t i (first_line f i + k) h (omega arith) inside in
      by_cases (eqb (first_line f i + k + 1) f.lines)
      (λ e.
      let last = eqb-true (first_line f i + k + 1) f.lines e in
      let size = pixels_last t f i (end_line f i) (o.below i h) (omega (arith, last, inside)) in
      let inner : end_line f i - first_line f i - 1 ≡ k = omega (arith, last, inside, end_most f o i) in
      omega (arith, starts, length, length_last t f i (first_line f i + k) last, rw inner at size))
      (λ e.
      let inner = eqb-false (first_line f i + k + 1) f.lines e in
      let next = last_next (λ (k : ℕ). k * len) (f.lines - first_line f i) n (k + 1) (omega arith) (omega (arith, inner, has_line)) in
      omega (arith, starts, length, length_inner t f i (first_line f i + k) inner, add-mul k 1 len, next))

  pub line_divided : located accepted (first_line f i + k) (n - k * len) ≡ place_answer t f (place_of t f (first_line f i) n)
  line_divided =
      placed_here t f (first_line f i + k) (n - k * len) has_line pixel ∙ ap (place_answer t f) place

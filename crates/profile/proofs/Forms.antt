-- The two forms of a field's body, with a second gate line or without: each has its own lengths, so that the length tells the form.
-- 10 + 6n and 12 + 6n leave other remainders by 6.
-- Assumes nothing.
use Prim.Native.Nat.{ℕ, ◌+◌, ◌-◌, ◌*◌, ◌%◌, ◌≤◌, ◌<◌}
use native.Mathlib.Omega.{arith}
use mathlib.Core.Path.{◌≡◌, sym, ap, ◌∙◌}
use mathlib.Core.Logic.{◌⊎◌, inl, inr}
use mathlib.Core.Bool.{Bool, true, false, ◌&&◌, false≢true}
use mathlib.Core.List.{List, [], ◌∷◌, ◌++◌}
use lib.Dec.{leb, eqb}
use lib.ListN.{length, get_or, replicate}
use lib.Seq.{get_or-append-add}
use borrow.Author.Tests.{le-leb, lt-leb, eqb-true, eqb-false, eq-eqb, ne_eqb}
use Rattle.profile.specs.Lists.{all, chunks}
use Rattle.profile.specs.Bytes.{number_at, two_bytes}
use Rattle.profile.specs.Values.{none, mode_of, empty_region}
use Rattle.profile.specs.Ranges.{region_range}
use Rattle.profile.specs.Script.{head_length, region_length, has_form, region_start, region_from, region_fits, field_with, field_from, fits_with, field_fits, field_length}
use Rattle.profile.specs.declared.Region.{Region}
use Rattle.profile.proofs.Laws.{by_cases, or_cases, or_left, or_right, chunks_ext}
use Rattle.profile.proofs.Reflects.{Says, says_le, says_eq, says_and}

pub head_most : (two : Bool) → head_length two ≤ 12
head_most true = omega arith
head_most false = omega arith

pub head-least : (two : Bool) → 10 ≤ head_length two
head-least true = omega arith
head-least false = omega arith

-- n regions after a head of that form
pub says_form : (two : Bool) (len : ℕ)
    → Says (has_form two len)
    (((head_length two + region_length * 1 ≤ len) × (len ≤ head_length two + region_length * 7)) × ((len - head_length two) % region_length ≡ 0))
unfolding has_form
says_form two len = says_and (says_and (says_le _ len) (says_le len _)) (says_eq _ 0)

module _ (two : Bool) (n : ℕ) (low : 1 ≤ n) (high : n ≤ 7) where
  form_has : has_form two (head_length two + region_length * n) ≡ true
  form_has =
      let m : (head_length two + region_length * n - head_length two) % region_length ≡ 0 = omega arith in
      (says_form two (head_length two + region_length * n)).1 ((omega arith, omega arith), m)

  pub form_allowed : field_length (head_length two + region_length * n) ≡ true
  form_allowed = either two form_has
    where
      either : (t : Bool) → has_form t (head_length two + region_length * n) ≡ true → field_length (head_length two + region_length * n) ≡ true
      either true e = or_right (has_form false (head_length two + region_length * n)) _ e
      either false e = or_left (has_form false (head_length two + region_length * n)) _ e

-- a length has one form
pub form_told : (two : Bool) (n : ℕ) → 1 ≤ n → n ≤ 7 → has_form true (head_length two + region_length * n) ≡ two
form_told true n low high = form_has true n low high
form_told false n low high =
    by_cases (has_form true (head_length false + region_length * n))
    (λ e. let w = (says_form true (head_length false + region_length * n)).0 e in absurd (omega (arith, w.1)))
    (λ e. e)

-- a body of a length that is allowed has the numbers before the regions
pub form_long : (len : ℕ) → field_length len ≡ true → head_length (has_form true len) ≤ len
form_long len e =
    by_cases (has_form true len)
    (λ q. rw q (omega (arith, ((says_form true len).0 q).0.0)))
    (λ q. rw q (omega (arith, ((says_form false len).0 (only (or_cases (has_form false len) (has_form true len) e) q)).0.0)))
  where
    only : (has_form false len ≡ true) ⊎ (has_form true len ≡ true) → has_form true len ≡ false → has_form false len ≡ true
    only (inl h) q = h
    only (inr h) q = absurd (false≢true (sym q ∙ h))

-- the tests in code, of the bytes before the regions as they are answered
module _ (two : Bool) (len : ℕ) {head : ℕ} (e : head ≡ head_length two) where
  pub form_short : len < head + region_length → false ≡ has_form two len
  unfolding has_form
  form_short h = rw (lt-leb (head_length two + region_length * 1) len (omega arith))

  pub form_rest : head + region_length ≤ len → leb len (head + region_length * 7) && eqb ((len - head) % region_length) 0 ≡ has_form two len
  unfolding has_form
  form_rest h = rw (e, le-leb (head_length two + region_length * 1) len (omega arith))

-- ---- the new form with no second gate line is read as the old one

-- what stands after a front of a list
after_front : (front rest : List ℕ) (k at : ℕ) → at ≡ length front + k → number_at (front ++ rest) at ≡ number_at rest k
after_front front rest k at e =
    let next : at + 1 ≡ length front + (k + 1) = omega arith in
    let low = ap (λ (i : ℕ). get_or (front ++ rest) i 0) e ∙ get_or-append-add front rest k 0 in
    let high = ap (λ (i : ℕ). get_or (front ++ rest) i 0) next ∙ get_or-append-add front rest (k + 1) 0 in
    rw (low, high)

module _ (a b c d e f : ℕ) (rest : List ℕ) where
  -- lines, last-line length and gate line, then the rest; and with "65,535 for none" between them
  abbrev front : List ℕ
  front = a ∷ b ∷ c ∷ d ∷ e ∷ f ∷ []

  abbrev pub old : List ℕ
  old = front ++ rest

  abbrev pub new : List ℕ
  new = front ++ two_bytes (none ∷ []) ++ rest

  same_number : (i j k l : ℕ) → k ≡ region_start (head_length true) i + j → l ≡ region_start (head_length false) i + j → number_at new k ≡ number_at old l
  same_number i j k l ek el =
      after_front (front ++ two_bytes (none ∷ [])) rest (4 + region_length * i + j) k (omega arith)
      ∙ sym (after_front front rest (4 + region_length * i + j) l (omega arith))

  abbrev new_start : ℕ → ℕ
  new_start = region_start (head_length true)

  abbrev old_start : ℕ → ℕ
  old_start = region_start (head_length false)

  same_mode : (i : ℕ) → number_at new (new_start i + 4) ≡ number_at old (old_start i + 4)
  same_mode i = same_number i 4 (new_start i + 4) (old_start i + 4) (omega arith) (omega arith)

  same_region : (i : ℕ) → region_from (head_length true) new i ≡ region_from (head_length false) old i
  same_region i k =
      record {
        first = same_number i 0 (new_start i) (old_start i) (omega arith) (omega arith) k;
        sequence = same_number i 2 (new_start i + 2) (old_start i + 2) (omega arith) (omega arith) k;
        mode = ap mode_of (same_mode i) k;
      }

  same_field : field_with true new ≡ field_with false old
  unfolding field_with
  same_field = ap (λ (regions : ℕ → Region). record {
    present = true;
    lines = number_at old 0;
    last = number_at old 2;
    gate = number_at old 4;
    gate2 = none;
    second = number_at old 6;
    count = number_at old 8;
    regions = chunks (number_at old 8) (λ i. regions i ∷ []) ++ replicate (7 - number_at old 8) empty_region;
  }) (λ k i. same_region i k)

  same_length : eqb (head_length true + region_length * number_at old 8) (length new) ≡ eqb (head_length false + region_length * number_at old 8) (length old)
  same_length =
      let n = number_at old 8 in
      by_cases (eqb (head_length false + region_length * n) (length old))
      (λ e.
      let h = eqb-true (head_length false + region_length * n) (length old) e in
      rw e (eq-eqb (head_length true + region_length * n) (length new) (omega arith)))
      (λ e.
      let h = eqb-false (head_length false + region_length * n) (length old) e in
      rw e (ne_eqb (head_length true + region_length * n) (length new) (λ z. h (omega arith))))

  same_tests : (i : ℕ) → region_fits (head_length true) new i ≡ region_fits (head_length false) old i
  same_tests i k = leb (same_mode i k) 2 ∷ region_range (same_region i k)

  same_fits : fits_with true new ≡ fits_with false old
  unfolding fits_with
  same_fits =
      let tests = ap all (chunks_ext (number_at old 8) (region_fits (head_length true) new) (region_fits (head_length false) old) (λ i h. same_tests i)) in
      rw (same_length, same_field, tests)

  -- of each length that the old form has
  module _ (n : ℕ) (low : 1 ≤ n) (high : n ≤ 7) (long : length old ≡ head_length false + region_length * n) where
    new-form : has_form true (length new) ≡ true
    new-form =
        let size : length new ≡ head_length true + region_length * n = omega arith in
        ap (has_form true) size ∙ form_told true n low high

    old-form : has_form true (length old) ≡ false
    old-form = ap (has_form true) long ∙ form_told false n low high

    pub forms-fit : field_fits new ≡ field_fits old
    forms-fit = ap (λ (two : Bool). fits_with two new) new-form ∙ same_fits ∙ sym (ap (λ (two : Bool). fits_with two old) old-form)

    pub forms-alike : field_from new ≡ field_from old
    forms-alike = ap (λ (two : Bool). field_with two new) new-form ∙ same_field ∙ sym (ap (λ (two : Bool). field_with two old) old-form)

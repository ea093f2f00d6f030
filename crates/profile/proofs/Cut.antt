-- A record that is cut so far, and one that is not. Judging a record looks at no byte past its end (step-front): the same tests of a front and of the whole
-- read the same bytes, once the header and the body are there.
-- Assumes nothing.
use mathlib.Core.Path.{◌≡◌, refl, sym, ap, ◌∙◌}
use mathlib.Core.Bool.{Bool, true, false, false≢true}
use mathlib.Core.Logic.{◌⊎◌, inl, inr}
use mathlib.Core.List.{List, [], ◌∷◌, ◌++◌}
use Prim.Native.Nat.{ℕ, ◌+◌, ◌≤◌, ◌<◌}
use native.Mathlib.Omega.{arith}
use borrow.Author.Tests.{ltb-true, ltb-false, le-ltb, eqb-true}
use lib.Dec.{ltb, eqb}
use lib.ListN.{length, take, drop, length-append, length-drop, get_or-append}
use lib.Seq.{take-append-le, drop-append-le}
use Rattle.profile.specs.Bytes.{number_at}
use Rattle.profile.specs.Script.{has_form, known, allowed, body_of, Stepped, stop, next, step}
use Rattle.profile.specs.Reading.{found_front, cut_front}
use Rattle.profile.specs.declared.Profile.{Profile}
use Rattle.profile.proofs.Laws.{by_cases, cond-case, or_cases}
use Rattle.profile.proofs.Forms.{says_form}
use Rattle.profile.proofs.Takes.{Unfound, known_found, step-taken, stop_found}

-- ---- a record that is cut so far

abbrev Few : ℕ → Bool → Type 0
Few len b = b ≡ true → len ≤ 54

-- the longest body is a field's
allowed_few : (kind len : ℕ) → allowed kind len ≡ true → len ≤ 54
unfolding allowed
allowed_few kind len =
    cond-case (Few len) (eqb kind 1) _ _ (λ a. one 4 (omega arith)) (λ a.
    cond-case (Few len) (eqb kind 2) _ _ (λ b. one 14 (omega arith)) (λ b.
    cond-case (Few len) (eqb kind 3) _ _ (λ c e. field (or_cases (has_form false len) (has_form true len) e)) (λ c.
    cond-case (Few len) (eqb kind 4) _ _ (λ d. one 10 (omega arith)) (λ d.
    cond-case (Few len) (eqb kind 5) _ _ (λ f. one 10 (omega arith)) (λ f. one 12 (omega arith))))))
  where
    one : (n : ℕ) → n ≤ 54 → eqb len n ≡ true → len ≤ 54
    one n h e = let z = eqb-true len n e in omega arith

    field : (has_form false len ≡ true) ⊎ (has_form true len ≡ true) → len ≤ 54
    field (inl e) = omega (arith, ((says_form false len).0 e).0.1)
    field (inr e) = omega (arith, ((says_form true len).0 e).0.1)

-- a number that lies in the front part
number_front : (r rest : List ℕ) (at : ℕ) → at + 1 < length r → number_at (r ++ rest) at ≡ number_at r at
number_front r rest at h = rw (get_or-append r rest 0 at (omega arith), get_or-append r rest 0 (at + 1) h)

-- a record that is cut has fewer bytes than its length says, and than the longest record
pub cut_few : (r : List ℕ) → cut_front r ≡ true → (length r < 4 + number_at r 0) × (length r < 58)
cut_few r e = by (((known_found 0 r).1 (omega (arith, two))).cut two)
  where
    two : (found_front 0 r).number ≡ 2
    two = eqb-true (found_front 0 r).number 2 e

    by : (length r < 4) ⊎ ((length r < 4 + number_at r 0) × (allowed (number_at r 2) (number_at r 0) ≡ true))
        → (length r < 4 + number_at r 0) × (length r < 58)
    by (inl h) = (omega arith, omega arith)
    by (inr h) = (h.0, omega (arith, h.0, allowed_few (number_at r 2) (number_at r 0) h.1))

-- THE LAW: what is not cut (2) is judged as it stands, whatever follows it
pub step-front : (r rest : List ℕ) (p : Profile) → (step r p ≡ stop 2 → ⊥) → step (r ++ rest) p ≡ step r p
unfolding step
step-front r rest p h =
    by_cases (ltb (length r) 4)
    (λ a. absurd (h (rw a)))
    (λ a.
    let l = ltb-false (length r) 4 a in
    let m = length-append r rest in
    let a' = le-ltb (length (r ++ rest)) 4 (omega arith) in
    let n0 = number_front r rest 0 (omega arith) in
    let n2 = number_front r rest 2 (omega arith) in
    by_cases (known (number_at r 2))
    (λ b.
    by_cases (allowed (number_at r 2) (number_at r 0))
    (λ c.
    by_cases (ltb (length r) (4 + number_at r 0))
    (λ d. absurd (h (rw (a, b, c, d))))
    (λ d.
    let k = ltb-false (length r) (4 + number_at r 0) d in
    let d' = le-ltb (length (r ++ rest)) (4 + number_at r 0) (omega arith) in
    let body : take (number_at r 0) (drop 4 (r ++ rest)) ≡ body_of r =
    rw (drop-append-le 4 r rest l) (take-append-le (number_at r 0) (drop 4 r) rest (omega (arith, length-drop 4 r))) in
    rw (a, a', n2, n0, b, c, d, d', body)))
    (λ c. rw (a, a', n2, n0, b, c)))
    (λ b. rw (a, a', n2, b)))

-- what a step says of the record's end
pub cut_stop : (r : List ℕ) (p : Profile) (n : ℕ) → step r p ≡ stop n → cut_front r ≡ eqb n 2
cut_stop r p n e = by (stop_found r p n e)
  where
    by : (((found_front 0 r).number ≡ n) × Unfound r n) ⊎ (((found_front 0 r).number ≡ 0) × (n ≡ 5)) → cut_front r ≡ eqb n 2
    by (inl u) = rw u.0
    by (inr h) = rw (h.0, h.1)

pub uncut : (r : List ℕ) (p : Profile) → cut_front r ≡ false → step r p ≡ stop 2 → ⊥
uncut r p c e = false≢true (sym c ∙ cut_stop r p 2 e)

pub cut_next : (r : List ℕ) (p : Profile) (len : ℕ) (q : Profile) → step r p ≡ next len q → cut_front r ≡ false
cut_next r p len q e =
    by_cases (cut_front r)
    (λ c. let t = step-taken r p len q e in absurd (omega (arith, (cut_few r c).0)))
    (λ c. c)

pub cut_step : (r : List ℕ) (p : Profile) → cut_front r ≡ true → step r p ≡ stop 2
cut_step r p c = go (step r p) refl
  where
    go : (x : Stepped) → step r p ≡ x → step r p ≡ stop 2
    go (stop n) e = e ∙ ap stop (eqb-true n 2 (sym (cut_stop r p n e) ∙ c))
    go (next len q) e = absurd (false≢true (sym (cut_next r p len q e) ∙ c))

-- no byte at all
pub cut_nothing : cut_front [] ≡ true
unfolding found_front
cut_nothing = refl

-- ---- no longer than its length says

abbrev pub Short : List ℕ → Type 0
Short r = length r ≤ 4 + number_at r 0

-- of the number that it begins with, a record of fewer than two bytes says nothing yet
by_number : {P : Type 0} (r rest : List ℕ) → (length r < 2 → P) → (number_at (r ++ rest) 0 ≡ number_at r 0 → P) → P
by_number r rest f g =
    by_cases (ltb (length r) 2)
    (λ a. f (ltb-true (length r) 2 a))
    (λ a. g (number_front r rest 0 (omega (arith, ltb-false (length r) 2 a))))

-- what stands behind it makes no difference
pub short_of : (r rest : List ℕ) → length r ≤ 4 + number_at (r ++ rest) 0 → Short r
short_of r rest h = by_number r rest (λ a. omega arith) (λ e. omega arith)

pub short_with : (r rest : List ℕ) → Short r → length r ≤ 4 + number_at (r ++ rest) 0
short_with r rest h = by_number r rest (λ a. omega arith) (λ e. omega arith)

pub cut_short : (r : List ℕ) → cut_front r ≡ true → Short r
cut_short r c = omega (arith, (cut_few r c).0)

pub cut_more : (r : List ℕ) (b : ℕ) → cut_front r ≡ true → Short (r ++ b ∷ [])
cut_more r b c =
    let m = length-append r (b ∷ []) in
    let l = (cut_few r c).0 in
    by_number r (b ∷ []) (λ a. omega arith) (λ e. omega arith)

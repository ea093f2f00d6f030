-- Numbers as text: a number's decimal digits are digits and tell the number, none leads with a zero but "0", and how long each line is.
-- Assumes nothing.
use Prim.Native.Nat.{ℕ, zero, suc, ◌+◌, ◌*◌, ◌-◌, ◌/◌, ◌%◌, ◌^◌, ◌≤◌, ◌<◌, min}
use native.Mathlib.Omega.{arith}
use native.Mathlib.Nat.{pow-suc, eq-zero-or-pos}
use mathlib.Core.Path.{◌≡◌, refl, sym, ap, ◌∙◌}
use mathlib.Core.List.{List, [], ◌∷◌, ◌++◌, append_assoc}
use lib.ListN.{length, get_or, drop, set, length-append, length-set, drop_of_length-le}
use mathlib.Core.Logic.{⊎_elim}
use lib.Dec.{eqb}
use Rattle.profile.specs.declared.Verdict.{Verdict}
use Rattle.profile.proofs.Laws.{cond-case, length-chunks_le}
use Rattle.holdlist.specs.Compile.{room_of}
use Rattle.holdlist.specs.Text.{digit, leading_in, leading, decimal, value_after, value_of, head_line, step_line, toggle_text, refused_line, step_line_at, listing}

-- ---- the recursion, free of the number that counts it down

in_enough : (k j n : ℕ) → n ≤ k → n ≤ j → leading_in k n ≡ leading_in j n
unfolding leading_in
in_enough zero zero zero h g = refl
in_enough zero (suc j) zero h g = refl
in_enough (suc k) zero zero h g = refl
in_enough (suc k) (suc j) zero h g = refl
in_enough (suc k) (suc j) (suc m) h g = rw (in_enough k j (suc m / 10) (omega arith) (omega arith))
in_enough zero j (suc m) h g = absurd (omega arith)
in_enough (suc k) zero (suc m) h g = absurd (omega arith)

pub leading-none : (n : ℕ) → n ≤ 0 → leading n ≡ []
unfolding leading leading_in
leading-none zero h = refl
leading-none (suc m) h = absurd (omega arith)

-- a number but 0 is spelt as its decimal digits
pub leading_more : (n : ℕ) → 0 < n → leading n ≡ decimal n
unfolding leading leading_in decimal
leading_more zero h = absurd (omega arith)
leading_more (suc m) h = rw (in_enough m (suc m / 10) (suc m / 10) (omega arith) (omega arith))

-- ---- the number is spelt

pub value_append : (a : ℕ) (s t : List ℕ) → value_after a (s ++ t) ≡ value_after (value_after a s) t
unfolding value_after
value_append a [] t = refl
value_append a (d ∷ s) t = value_append (10 * a + (d - 48)) s t

in_value : (k n : ℕ) → n ≤ k → value_of (leading_in k n) ≡ n
unfolding leading_in value_after
in_value zero zero h = refl
in_value (suc k) zero h = refl
in_value zero (suc m) h = absurd (omega arith)
in_value (suc k) (suc m) h = rw (value_append, in_value k (suc m / 10) (omega arith)) (omega arith)

pub decimal_value : (n : ℕ) → value_of (decimal n) ≡ n
unfolding decimal leading value_after
decimal_value n = rw (value_append, in_value (n / 10) (n / 10) (omega arith)) (omega arith)

-- ---- digits, and the first of them

abbrev pub Digits : List ℕ → Type 0
Digits s = (i : ℕ) → i < length s → (48 ≤ get_or s i 0) × (get_or s i 0 ≤ 57)

digits_more : (s : List ℕ) (d : ℕ) → Digits s → d < 10 → Digits (s ++ (digit d ∷ []))
digits_more [] d h l zero g = (omega arith, omega arith)
digits_more [] d h l (suc i) g = absurd (omega arith)
digits_more (x ∷ s) d h l zero g = h zero (omega arith)
digits_more (x ∷ s) d h l (suc i) g = digits_more s d (λ j p. h (suc j) (omega arith)) l i (omega arith)

in_digits : (k n : ℕ) → Digits (leading_in k n)
unfolding leading_in
in_digits zero n i g = absurd (omega arith)
in_digits (suc k) zero i g = absurd (omega arith)
in_digits (suc k) (suc m) i g = digits_more (leading_in k (suc m / 10)) (suc m % 10) (in_digits k (suc m / 10)) (omega arith) i g

pub decimal_digits : (n : ℕ) → Digits (decimal n)
unfolding decimal leading
decimal_digits n = digits_more (leading (n / 10)) (n % 10) (in_digits (n / 10) (n / 10)) (omega arith)

-- some digit, and no zero first
abbrev Leads : List ℕ → Type 0
Leads s = (0 < length s) × (48 < get_or s 0 0)

leads_more : (s t : List ℕ) → Leads s → Leads (s ++ t)
leads_more [] t h = absurd (omega arith)
leads_more (x ∷ s) t h = (omega arith, h.1)

in_leads : (k n : ℕ) → n ≤ k → 0 < n → Leads (leading_in k n)
unfolding leading_in
in_leads zero n h g = absurd (omega arith)
in_leads (suc k) zero h g = absurd (omega arith)
in_leads (suc k) (suc m) h g =
    ⊎_elim
    (λ (z : suc m / 10 ≡ 0). rw (in_enough k 0 (suc m / 10) (omega arith) (omega arith)) (omega arith, omega arith))
    (λ (p : 0 < suc m / 10). leads_more (leading_in k (suc m / 10)) (digit (suc m % 10) ∷ []) (in_leads k (suc m / 10) (omega arith) p))
    (eq-zero-or-pos (suc m / 10))

-- "0" alone begins with a zero
pub decimal_zero : decimal 0 ≡ 48 ∷ []
unfolding decimal leading leading_in
decimal_zero = refl

pub decimal_leads : (n : ℕ) → 0 < n → Leads (decimal n)
unfolding leading
decimal_leads n h = rw (← leading_more n h) (in_leads n n (omega arith) h)

-- ---- lengths

in_length : (k n p : ℕ) → n < 10 ^ p → length (leading_in k n) ≤ p
unfolding leading_in
in_length zero n p h = omega arith
in_length (suc k) zero p h = omega arith
in_length (suc k) (suc m) zero h = absurd (omega arith)
in_length (suc k) (suc m) (suc p) h =
    let l : suc m < 10 ^ p * 10 = rw pow-suc at h in
    simp length-append (omega (arith, in_length k (suc m / 10) p (omega arith)))

-- a number below 10 ^ (p + 1) has at most p + 1 digits
pub decimal-length : (n p : ℕ) → n < 10 ^ suc p → length (decimal n) ≤ suc p
unfolding decimal leading
decimal-length n p h =
    let l : n < 10 ^ p * 10 = rw pow-suc at h in
    simp length-append (omega (arith, in_length (n / 10) (n / 10) p (omega arith)))

-- a u64 has at most 20 digits, a u32 10, a u16 5
pub head_length_lem : (steps pixels : ℕ) → steps < 2 ^ 64 → pixels < 2 ^ 64 → length (head_line steps pixels) ≤ 55
unfolding head_line
head_length_lem s p h g = simp length-append (omega (arith, decimal-length s 19 (omega arith), decimal-length p 19 (omega arith)))

pub step-length : (count word : ℕ) → count < 2 ^ 32 → length (step_line count word) ≤ 16
unfolding step_line
step-length c w h = simp length-append (omega (arith, decimal-length c 9 (omega arith)))

toggle-length : (v : Verdict) → v.output < 2 ^ 16 → v.toggle < 2 ^ 16 → length (toggle_text v) ≤ 12
unfolding toggle_text
toggle-length v o t =
    cond-case (λ (s : List ℕ). length s ≤ 12) (eqb v.number 10) _ _
    (λ e. simp length-append (omega (arith, decimal-length v.output 4 (omega arith), decimal-length v.toggle 4 (omega arith))))
    (λ e. omega arith)

-- the widths of a verdict's four numbers
pub record Wide (v : Verdict) : Type 0 where
  pub number : v.number < 2 ^ 16
  pub place : v.place < 2 ^ 64
  pub output : v.output < 2 ^ 16
  pub toggle : v.toggle < 2 ^ 16

pub refused-length : (v : Verdict) → Wide v → length (refused_line v) ≤ 47
unfolding refused_line
refused-length v w =
    let n = decimal-length v.number 4 (omega (arith, w.number)) in
    let p = decimal-length v.place 19 (omega (arith, w.place)) in
    simp length-append (omega (arith, n, p, toggle-length v w.output w.toggle))

pub listing-length :
    (steps pixels : ℕ) (cs ws : List ℕ) → steps < 2 ^ 64 → pixels < 2 ^ 64 → ((i : ℕ) → get_or cs i 0 < 2 ^ 32) →
    length (listing steps pixels cs ws) ≤ 55 + 16 * min steps (room_of cs ws)
unfolding listing
listing-length s p cs ws h g e =
    simp length-append
    (omega (
      arith,
      head_length_lem s p h g,
      length-chunks_le 16 (min s (room_of cs ws)) (step_line_at cs ws) (λ i. step-length (get_or cs i 0) (get_or ws i 0) (e i)),
    ))

-- ---- spelling a number from its last digit on, into the end of an array

drop-set : (s : List ℕ) (i d : ℕ) → i < length s → drop i (set s i d) ≡ d ∷ drop (suc i) s
drop-set [] i d h = absurd (omega arith)
drop-set (x ∷ s) zero d h = refl
drop-set (x ∷ s) (suc i) d h = drop-set s i d (omega arith)

-- the digits from `from` on are spelt, `rest` is left
pub record Spells (n : ℕ) (s : List ℕ) (from rest : ℕ) : Type 0 where
  pub inside : from < 20
  pub sized : length s ≡ 20
  pub few : rest < 10 ^ from
  pub spelt : leading rest ++ drop from s ≡ decimal n

pub spells_first : (n : ℕ) (s : List ℕ) → n < 2 ^ 64 → length s ≡ 20 → Spells n (set s 19 (digit (n % 10))) 19 (n / 10)
unfolding decimal
spells_first n s h e =
    record {
      inside = omega arith;
      sized = simp length-set e;
      few = omega arith;
      spelt = rw (drop-set s 19 (digit (n % 10)) (omega arith), drop_of_length-le s {i = 20} (omega arith));
    }

pub spells_some : {n rest : ℕ} {s : List ℕ} (from : ℕ) → Spells n s from rest → 0 < rest → 0 < from
spells_some zero p h = absurd (omega (arith, p.few))
spells_some (suc f) p h = omega arith

spells_back :
    (n rest f : ℕ) (s : List ℕ) → Spells n s (suc f) rest → 0 < rest → Spells n (set s f (digit (rest % 10))) f (rest / 10)
unfolding decimal
spells_back n rest f s p h =
    let l : rest < 10 ^ f * 10 = rw pow-suc at p.few in
    record {
      inside = omega (arith, p.inside);
      sized = simp length-set p.sized;
      few = omega arith;
      spelt =
          rw (drop-set s f (digit (rest % 10)) (omega (arith, p.inside, p.sized)))
          (sym (append_assoc (leading (rest / 10)) (digit (rest % 10) ∷ []) (drop (suc f) s))
          ∙ ap (λ (t : List ℕ). t ++ drop (suc f) s) (sym (leading_more rest h)) ∙ p.spelt);
    }

pub spells_more :
    {n rest from : ℕ} {s : List ℕ} → Spells n s from rest → 0 < rest →
    Spells n (set s (from - 1) (digit (rest % 10))) (from - 1) (rest / 10)
spells_more {n} {rest} {from} {s} p h =
    let e : suc (from - 1) ≡ from = omega (arith, spells_some from p h) in
    spells_back n rest (from - 1) s (rw e p) h

pub spells_last : {n : ℕ} {s : List ℕ} {from rest : ℕ} → Spells n s from rest → rest ≤ 0 → drop from s ≡ decimal n
spells_last {n} {s} {from} {rest} p h = rw (leading-none rest h) at p.spelt

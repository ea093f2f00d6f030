-- Where the next edge of each part is: of the keys, the first pattern's run or multiple, the second pattern. And the first pattern's levels, case by case.
-- Assumes nothing.
use mathlib.Core.Path.{◌≡◌, refl, sym, ap, ◌∙◌}
use mathlib.Core.Bool.{Bool, true, false, cond, ◌&&◌, ◌||◌}
use mathlib.Core.List.{List}
use Prim.Native.Nat.{ℕ, min, zero, suc, ◌+◌, ◌-◌, ◌*◌, ◌/◌, ◌%◌, ◌≤◌, ◌<◌}
use native.Mathlib.Nat.{mul-zero, mod-lt, mod-zero, mod-eq_of_lt, mod-add-mod, mod_self, zero-mod, div-add-mod', div-lt_iff_lt-mul, div-mul-le_self, mul-le-mul, add-mul, one-mul, mul-mod_left, mul-div_cancel}
use native.Mathlib.Omega.{arith}
use borrow.Author.Tests.{ltb-true, ltb-false, lt-ltb, le-ltb, le-leb, lt-leb, eqb-true, eq-eqb, ne_eqb}
use lib.Dec.{ltb, leb, eqb}
use lib.ListN.{get_or}
use Rattle.profile.specs.Patterns.{rows_of}
use Rattle.profile.proofs.Laws.{cond-case, by_cases, or_left, or_right, and_intro}
use Rattle.level.specs.declared.first.First.{First}
use Rattle.level.specs.declared.second.Second.{Second}
use Rattle.level.specs.Next.{next}
use Rattle.level.specs.Keys.{among, six_at}
use Rattle.level.specs.Ready.{begins_with, run_pixels, run_at, run_edge, times_at, times_edge, first_at, first_edge, second_edge}
use Rattle.level.proofs.Nexts.{or_none, and_none, Is, is_what, is_next, next-none, next_ext, both}

-- toggles of 16 bits
abbrev pub Small : List ℕ → Type 0
Small l = (i : ℕ) → get_or l i 0 < 65536

-- a run that goes on has a length
pub run_has_length : (r length t : ℕ) → t < r * length → 0 < length
run_has_length r zero t h = absurd (omega (arith, mul-zero r))
run_has_length r (suc n) t h = omega arith

-- a distance, cut at the room
pub next_cut : {g : ℕ → Bool} (d room : ℕ) → 0 < d → 0 < room → ((j : ℕ) → 0 < j → j < d → g j ≡ false) → (d < room → g d ≡ true)
    → min d room ≡ next g 0 room
next_cut {g} d room h l none some =
    is_next
    (record {
      low = omega arith;
      less = omega arith;
      none = λ q a b. none q a (omega arith);
      some = λ b. let here : min d room ≡ d = omega arith in ap g here ∙ some (omega arith);
    })

-- ---- the place in a repetition

-- j pixels on: in the same repetition, and at its end
pub mod_on : (t l j : ℕ) → t % l + j < l → (t + j) % l ≡ t % l + j
mod_on t l j h = sym (mod-add-mod t l j) ∙ mod-eq_of_lt h

pub mod-turn : (t l j : ℕ) → t % l + j ≡ l → (t + j) % l ≡ 0
mod-turn t l j e = sym (mod-add-mod t l j) ∙ ap (λ n. n % l) e ∙ mod_self l

pub next_multiple : (k l : ℕ) → (k + 1) * l ≡ k * l + l
next_multiple k l = add-mul k 1 l ∙ ap (λ n. k * l + n) (one-mul l)

pub rest_of : (t r l : ℕ) → 0 < l → t < r * l → t + (l - t % l) ≤ r * l
rest_of t r l pos h =
    let whole : t / l * l + t % l ≡ t = div-add-mod' t l in
    let below : t / l < r = (div-lt_iff_lt-mul pos).1 h in
    let more : (t / l + 1) * l ≤ r * l = mul-le-mul {n₁ = t / l + 1} {m₁ = l} {n₂ = r} {m₂ = l} (omega arith) (omega arith) in
    let u : t % l < l = mod-lt t pos in
    omega (arith, next_multiple (t / l) l)

module _ (f : First) (t : ℕ) (h : t < run_pixels f) where
  pub run_pos : 0 < f.length
  run_pos = run_has_length f.repetitions f.length t h

  pub run_mod : t % f.length < f.length
  run_mod = mod-lt t run_pos

  -- the next toggle, or the repetition's end
  pub run_inside : (room x : ℕ) → 0 < room → x ≡ next (λ q. among f.keys q) (t % f.length) f.length
      → min (x - t % f.length) room ≡ next (λ j. run_edge f (t + j)) 0 room
  unfolding run_edge
  run_inside room x l e =
      next_cut (x - t % f.length) room (omega (arith, y.low)) l
      (λ j a b.
      let k : t % f.length + j < x = omega arith in
      let on : (t + j) % f.length ≡ t % f.length + j = mod_on t f.length j (omega (arith, y.less)) in
      let no = y.none (t % f.length + j) (omega arith) k in
      both (leb (t + j) (run_pixels f))
      (or_none (ap (λ n. eqb n 0) on ∙ ne_eqb (t % f.length + j) 0 (λ z. omega arith)) (ap (λ n. among f.keys n) on ∙ no)))
      (λ b.
      let less : t + (x - t % f.length) ≤ run_pixels f =
      omega (arith, y.less, y.low, rest_of t f.repetitions f.length run_pos h) in
      and_intro (le-leb (t + (x - t % f.length)) (run_pixels f) less)
      (by_cases (ltb x f.length)
      (λ g.
      let on : (t + (x - t % f.length)) % f.length ≡ t % f.length + (x - t % f.length) =
      mod_on t f.length (x - t % f.length) (omega (arith, y.low, ltb-true x f.length g)) in
      let here : t % f.length + (x - t % f.length) ≡ x = omega (arith, y.low) in
      or_right (eqb ((t + (x - t % f.length)) % f.length) 0) (among f.keys ((t + (x - t % f.length)) % f.length))
      (ap (λ n. among f.keys n) (on ∙ here) ∙ y.some (ltb-true x f.length g)))
      (λ g.
      let end : t % f.length + (x - t % f.length) ≡ f.length = omega (arith, y.low, y.less, ltb-false x f.length g) in
      or_left (eqb ((t + (x - t % f.length)) % f.length) 0) (among f.keys ((t + (x - t % f.length)) % f.length))
      (eq-eqb ((t + (x - t % f.length)) % f.length) 0 (mod-turn t f.length (x - t % f.length) end)))))
    where
      y : Is (λ q. among f.keys q) (t % f.length) f.length x
      y = is_what run_mod e

pub run_after : (f : First) (t room : ℕ) → 0 < room → run_pixels f ≤ t → room ≡ next (λ j. run_edge f (t + j)) 0 room
unfolding run_edge
run_after f t room h l = next-none h (λ j a b. and_none _ (lt-leb (t + j) (run_pixels f) (omega arith)))

-- ---- the multiples of a length

pub times_higher : (t j l : ℕ) → 0 < l → 0 < j → (t + j) % l ≡ 0 → t / l < (t + j) / l
times_higher t j l pos h e =
    by_cases (ltb (t / l) ((t + j) / l)) (λ g. ltb-true _ _ g)
    (λ g.
    let whole : (t + j) / l * l + (t + j) % l ≡ t + j = div-add-mod' (t + j) l in
    let no : (t + j) / l ≤ t / l = ltb-false _ _ g in
    let below : (t + j) / l * l ≤ t / l * l = mul-le-mul {n₁ = (t + j) / l} {m₁ = l} {n₂ = t / l} {m₂ = l} no (omega arith) in
    let some : t / l * l ≤ t = div-mul-le_self t l in
    absurd (omega (arith, e)))

module _ (f : First) (t room : ℕ) (h : 0 < room) where
  -- no edge: not a multiple, or one without a toggle
  times_no : (j : ℕ) → 0 < j → 0 < f.length
      → (t / f.length < (t + j) / f.length → (t + j) / f.length < 65536 → among f.keys ((t + j) / f.length) ≡ false)
      → times_edge f (t + j) ≡ false
  unfolding times_edge
  times_no j a pos none =
      or_none (ne_eqb (t + j) 0 (λ z. omega arith))
      (by_cases (eqb ((t + j) % f.length) 0)
      (λ e.
      let more = times_higher t j f.length pos a (eqb-true _ 0 e) in
      by_cases (ltb ((t + j) / f.length) 65536)
      (λ g. rw (e, g) (none more (ltb-true _ _ g)))
      (λ g. rw (e, g)))
      (λ e. rw e))

  pub times_zero : f.length ≡ 0 → room ≡ next (λ j. times_edge f (t + j)) 0 room
  unfolding times_edge
  times_zero e =
      next-none h
      (λ j a b.
      let whole : (t + j) % f.length ≡ t + j = ap (λ l. (t + j) % l) e ∙ mod-zero (t + j) in
      or_none (ne_eqb (t + j) 0 (λ z. omega arith)) (and_none _ (ap (λ n. eqb n 0) whole ∙ ne_eqb (t + j) 0 (λ z. omega arith))))

  module _ (pos : 0 < f.length) where
    pub times-far : 65535 ≤ t / f.length → room ≡ next (λ j. times_edge f (t + j)) 0 room
    times-far l = next-none h (λ j a b. times_no j a pos (λ more less. absurd (omega arith)))

    module _ (x : ℕ) (y : Is (λ q. among f.keys q) (t / f.length) 65536 x) where
      pub times_none : 65536 ≤ x → room ≡ next (λ j. times_edge f (t + j)) 0 room
      times_none l = next-none h (λ j a b. times_no j a pos (λ more less. y.none ((t + j) / f.length) more (omega arith)))

      pub times-past : t < x * f.length
      times-past = (div-lt_iff_lt-mul pos).0 y.low

      pub times-inside : x < 65536 → min (x * f.length - t) room ≡ next (λ j. times_edge f (t + j)) 0 room
      unfolding times_edge
      times-inside l =
          next_cut (x * f.length - t) room (omega (arith, times-past)) h
          (λ j a b.
          let below : (t + j) / f.length < x = (div-lt_iff_lt-mul pos).1 (omega arith) in
          times_no j a pos (λ more less. y.none ((t + j) / f.length) more below))
          (λ b.
          let here : t + (x * f.length - t) ≡ x * f.length = omega (arith, times-past) in
          let quotient : (t + (x * f.length - t)) / f.length ≡ x = ap (λ n. n / f.length) here ∙ mul-div_cancel x pos in
          let at : ℕ = t + (x * f.length - t) in
          let found : ltb (at / f.length) 65536 && among f.keys (at / f.length) ≡ true =
          (λ i. ltb (quotient i) 65536 && among f.keys (quotient i)) ∙ and_intro (lt-ltb x 65536 l) (y.some l) in
          or_right (eqb at 0) (eqb (at % f.length) 0 && (ltb (at / f.length) 65536 && among f.keys (at / f.length)))
          (and_intro (eq-eqb (at % f.length) 0 (ap (λ n. n % f.length) here ∙ mul-mod_left x f.length)) found))

-- ---- the levels, case by case

module _ (f : First) (t : ℕ) {v : ℕ} where
  pub run_at_inside : {l : ℕ} → t < run_pixels f → l ≡ begins_with f (t / f.length) → v ≡ six_at l (rows_of f.keys) (t % f.length + 1) → v ≡ run_at f t
  unfolding run_at
  run_at_inside h e g =
      g ∙ ap (λ l. six_at l (rows_of f.keys) (t % f.length + 1)) e
      ∙ ap (λ b. cond b (six_at (begins_with f (t / f.length)) (rows_of f.keys) (t % f.length + 1)) (begins_with f f.repetitions))
      (sym (lt-ltb t (run_pixels f) h))

  pub run_at-after : run_pixels f ≤ t → v ≡ begins_with f f.repetitions → v ≡ run_at f t
  unfolding run_at
  run_at-after h g =
      g ∙ ap (λ b. cond b (six_at (begins_with f (t / f.length)) (rows_of f.keys) (t % f.length + 1)) (begins_with f f.repetitions))
      (sym (le-ltb t (run_pixels f) h))

  pub times_at_zero : f.length ≡ 0 → v ≡ six_at f.levels (rows_of f.keys) 65536 → v ≡ times_at f t
  unfolding times_at
  times_at_zero h g =
      g ∙ ap (λ b. six_at f.levels (rows_of f.keys) (cond b 65536 (min (t / f.length) 65535 + 1))) (sym (eq-eqb f.length 0 h))

  pub times_at_gone : {n : ℕ} → (f.length ≡ 0 → ⊥) → n ≡ min (t / f.length) 65535 → v ≡ six_at f.levels (rows_of f.keys) (n + 1) → v ≡ times_at f t
  unfolding times_at
  times_at_gone h e g =
      g ∙ ap (λ n. six_at f.levels (rows_of f.keys) (n + 1)) e
      ∙ ap (λ b. six_at f.levels (rows_of f.keys) (cond b 65536 (min (t / f.length) 65535 + 1))) (sym (ne_eqb f.length 0 h))

-- ---- from the region's pixel

module _ (f : First) (q : ℕ) {v : ℕ} (h : f.start ≤ q) where
  pub first_at_times : f.times ≡ true → v ≡ times_at f (q - f.start) → v ≡ first_at f q
  first_at_times on e =
      e ∙ (λ i. cond (sym (le-ltb q f.start h) i) f.levels (cond (sym on i) (times_at f (q - f.start)) (run_at f (q - f.start))))

  pub first_at_run : f.times ≡ false → v ≡ run_at f (q - f.start) → v ≡ first_at f q
  first_at_run off e =
      e ∙ (λ i. cond (sym (le-ltb q f.start h) i) f.levels (cond (sym off i) (times_at f (q - f.start)) (run_at f (q - f.start))))

-- a run's start is an edge, whatever its length and its toggles
pub start_edge : (n l : ℕ) (toggle : Bool) → leb 0 n && (eqb (0 % l) 0 || toggle) ≡ true
start_edge n l toggle = and_intro (le-leb 0 n (omega arith)) (or_left (eqb (0 % l) 0) toggle (eq-eqb (0 % l) 0 (zero-mod l)))

first_starts : (f : First) → cond f.times (times_edge f 0) (run_edge f 0) ≡ true
unfolding times_edge run_edge
first_starts f =
    cond-case (λ b. b ≡ true) f.times _ _ (λ e. rw (eq-eqb 0 0 refl)) (λ e. start_edge (run_pixels f) f.length _)

pub first-before : (f : First) (q room : ℕ) → 0 < room → q < f.start → min (f.start - q) room ≡ next (λ j. first_edge f (q + j)) 0 room
first-before f q room h l =
    next_cut (f.start - q) room (omega arith) h (λ j a b. and_none _ (lt-leb f.start (q + j) (omega arith)))
    (λ b.
    let here : q + (f.start - q) ≡ f.start = omega arith in
    let none : f.start - f.start ≡ 0 = omega arith in
    rw (here, none) (and_intro (le-leb f.start f.start (omega arith)) (first_starts f)))

first-after : (f : First) (q room : ℕ) → f.start ≤ q
    → next (λ j. first_edge f (q + j)) 0 room
    ≡ next (λ j. cond f.times (times_edge f (q - f.start + j)) (run_edge f (q - f.start + j))) 0 room
first-after f q room h =
    next_ext 0 room
    (λ j.
    let here : q + j - f.start ≡ q - f.start + j = omega arith in
    rw (le-leb f.start (q + j) (omega arith), here))

module _ (f : First) (q room : ℕ) {d : ℕ} (h : f.start ≤ q) where
  pub first_times : f.times ≡ true → d ≡ next (λ j. times_edge f (q - f.start + j)) 0 room → d ≡ next (λ j. first_edge f (q + j)) 0 room
  first_times on e =
      e ∙ (λ i. next (λ j. cond (sym on i) (times_edge f (q - f.start + j)) (run_edge f (q - f.start + j))) 0 room) ∙ sym (first-after f q room h)

  pub first_run : f.times ≡ false → d ≡ next (λ j. run_edge f (q - f.start + j)) 0 room → d ≡ next (λ j. first_edge f (q + j)) 0 room
  first_run off e =
      e ∙ (λ i. next (λ j. cond (sym off i) (times_edge f (q - f.start + j)) (run_edge f (q - f.start + j))) 0 room) ∙ sym (first-after f q room h)

-- ---- the second pattern

pub second_later : (s : Second) (p end x : ℕ) → s.length ≤ p → p < end
    → x ≡ next (λ q. among s.keys q) (p - s.length) (end - s.length) → s.length + x ≡ next (λ q. second_edge s q) p end
unfolding second_edge
second_later s p end x h l e =
    is_next
    (record {
      low = omega (arith, y.low);
      less = omega (arith, y.less);
      none = λ q a b. or_none (ne_eqb q s.length (λ z. omega arith)) (y.none (q - s.length) (omega arith) (omega arith));
      some = λ b.
          let here : s.length + x - s.length ≡ x = omega arith in
          or_right (eqb (s.length + x) s.length) (among s.keys (s.length + x - s.length))
          (ap (λ n. among s.keys n) here ∙ y.some (omega arith));
    })
  where
    y : Is (λ q. among s.keys q) (p - s.length) (end - s.length) x
    y = is_what (omega arith) e

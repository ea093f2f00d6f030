-- The edges of a line made ready are those of the rules.
-- Assumes nothing.
use mathlib.Core.Path.{◌≡◌, refl, sym, ap, ◌∙◌}
use mathlib.Core.Bool.{Bool, true, false, cond, not, ◌&&◌, ◌||◌, or-false}
use mathlib.Core.List.{List}
use Prim.Native.Nat.{ℕ, zero, suc, ◌+◌, ◌*◌, ◌/◌, ◌%◌, ◌<◌}
use native.Mathlib.Nat.{mod-lt, mul-mod_left, mul-div_cancel, mul-zero, div-add-mod', zero-mod}
use native.Mathlib.Omega.{arith}
use borrow.Author.Tests.{ltb-true, leb-true, lt-ltb, eqb-true, eqb-false, eq-eqb, ne_eqb}
use lib.Dec.{ltb, leb, eqb}
use lib.ListN.{get_or}
use Rattle.profile.proofs.Laws.{by_cases, and_left, and_right, or_left, and_intro}
use Rattle.profile.specs.Patterns.{not4095, used}
use Rattle.profile.specs.declared.Mode.TheVariants.{Plain}
use Rattle.profile.specs.declared.Pattern.{Pattern}
use Rattle.level.proofs.Parts.{Small}
use Rattle.level.specs.declared.first.First.{First}
use Rattle.level.specs.Next.{any_of}
use Rattle.level.specs.Keys.{key_of, among}
use Rattle.level.specs.Ready.{run_edge, times_edge}
use Rattle.level.specs.Edges.{toggle_at, run_edge_of, times_edge_of}
use Rattle.level.specs.Made.{keyed}
use Rattle.level.proofs.Nexts.{clash, and_none}

-- ---- Booleans

pub bool_iff : (a b : Bool) → (a ≡ true → b ≡ true) → (b ≡ true → a ≡ true) → a ≡ b
bool_iff true b f g = sym (f refl)
bool_iff false true f g = g refl
bool_iff false false f g = refl

any_and : (b : Bool) (k : ℕ) (g : ℕ → Bool) → b && any_of k g ≡ any_of k (λ j. b && g j)
unfolding any_of
any_and true k g = refl
any_and false zero g = refl
any_and false (suc k) g = any_and false k g ∙ sym (or-false (any_of k (λ j. false)))

-- the keys of a pattern's toggles
keyed-among : (key : ℕ → ℕ) (l : List ℕ) (x : ℕ) → among (keyed key l) x ≡ any_of 18 (λ k. eqb x (key (get_or l k 0)))
unfolding any_of
keyed-among key l x = refl

module _ (a : Pattern) (small : Small a.toggles) where
  -- ---- plain and sweep

  run_toggle : (u x : ℕ) → u < a.length → eqb u x ≡ ltb x a.length && eqb u (x * 1)
  run_toggle u x h =
      bool_iff (eqb u x) (ltb x a.length && eqb u (x * 1))
      (λ e. let same = eqb-true u x e in and_intro (lt-ltb x a.length (omega arith)) (eq-eqb u (x * 1) (omega arith)))
      (λ e. let same = eqb-true u (x * 1) (and_right (ltb x a.length) (eqb u (x * 1)) e) in eq-eqb u x (omega arith))

  pub run_among : (u : ℕ) → u < a.length → among (keyed (λ x. x) a.toggles) u ≡ toggle_at (used Plain a.length) a 1 u
  run_among u h =
      keyed-among (λ x. x) a.toggles u ∙ (λ i. any_of 18 (λ k. run_toggle u (get_or a.toggles k 0) h i))

  pub run_rule : (f : First) (t : ℕ) → f.length ≡ a.length → f.keys ≡ keyed (λ x. x) a.toggles → run_edge f t ≡ run_edge_of a f.repetitions t
  unfolding run_edge run_edge_of
  run_rule f t el ek =
      (λ i. leb t (f.repetitions * el i) && (eqb (t % el i) 0 || among (ek i) (t % el i)))
      ∙ by_cases (leb t (f.repetitions * a.length))
      (λ e.
      ap (λ b. leb t (f.repetitions * a.length) && b)
      (by_cases (eqb a.length 0)
      (λ z.
      let none = eqb-true a.length 0 z in
      let most = leb-true t (f.repetitions * a.length) e in
      let zeros : f.repetitions * a.length ≡ 0 = ap (λ n. f.repetitions * n) none ∙ mul-zero f.repetitions in
      let start : t ≡ 0 = omega arith in
      let here : eqb (t % a.length) 0 ≡ true = eq-eqb (t % a.length) 0 (ap (λ n. n % a.length) start ∙ zero-mod a.length) in
      or_left (eqb (t % a.length) 0) (among (keyed (λ x. x) a.toggles) (t % a.length)) here
      ∙ sym (or_left (eqb (t % a.length) 0) (toggle_at (used Plain a.length) a 1 (t % a.length)) here))
      (λ z.
      let pos : 0 < a.length = omega (arith, eqb-false a.length 0 z) in
      ap (λ b. eqb (t % a.length) 0 || b) (run_among (t % a.length) (mod-lt t pos)))))
      (λ e. and_none _ e ∙ sym (and_none _ e))

  -- ---- the second pattern

  used-toggle : (m x : ℕ) → m < 65536 → eqb m (key_of x) ≡ not (eqb x 4095) && eqb m (x * 1)
  used-toggle m x h =
      by_cases (eqb x 4095)
      (λ e. rw e (ne_eqb m 65536 (λ z. omega arith)))
      (λ e. let one : x * 1 ≡ x = omega arith in rw (e, one))

  pub used-among : (m : ℕ) → m < 65536 → among (keyed (λ x. key_of x) a.toggles) m ≡ toggle_at not4095 a 1 m
  used-among m h =
      keyed-among (λ x. key_of x) a.toggles m ∙ (λ i. any_of 18 (λ k. used-toggle m (get_or a.toggles k 0) h i))

  -- ---- multiplier

  times_toggle : (t x : ℕ) → 0 < t → x < 65536
      → eqb (t % a.length) 0 && (ltb (t / a.length) 65536 && eqb (t / a.length) (key_of x)) ≡ not (eqb x 4095) && eqb t (x * a.length)
  times_toggle t x some h =
      bool_iff (eqb (t % a.length) 0 && (ltb (t / a.length) 65536 && eqb (t / a.length) (key_of x))) (not (eqb x 4095) && eqb t (x * a.length))
      (λ e.
      let whole : t / a.length * a.length + t % a.length ≡ t = div-add-mod' t a.length in
      let even : t % a.length ≡ 0 = eqb-true _ 0 (and_left (eqb (t % a.length) 0) (ltb (t / a.length) 65536 && eqb (t / a.length) (key_of x)) e) in
      let rest = and_right (eqb (t % a.length) 0) (ltb (t / a.length) 65536 && eqb (t / a.length) (key_of x)) e in
      let less = ltb-true (t / a.length) 65536 (and_left (ltb (t / a.length) 65536) (eqb (t / a.length) (key_of x)) rest) in
      let key = eqb-true (t / a.length) (key_of x) (and_right (ltb (t / a.length) 65536) (eqb (t / a.length) (key_of x)) rest) in
      by_cases (eqb x 4095)
      (λ g. let no : t / a.length ≡ 65536 = key ∙ (λ i. cond (g i) 65536 x) in absurd (omega arith))
      (λ g.
      let same : t / a.length ≡ x = key ∙ (λ i. cond (g i) 65536 x) in
      let product : t / a.length * a.length ≡ x * a.length = ap (λ n. n * a.length) same in
      rw g (eq-eqb t (x * a.length) (omega arith))))
      (λ e.
      by_cases (eqb x 4095)
      (λ g. absurd (clash e (and_none (eqb t (x * a.length)) (ap not g))))
      (λ g.
      let at : t ≡ x * a.length = eqb-true t (x * a.length) (and_right (not (eqb x 4095)) (eqb t (x * a.length)) e) in
      by_cases (eqb a.length 0)
      (λ z. let none : x * a.length ≡ 0 = ap (λ n. x * n) (eqb-true a.length 0 z) ∙ mul-zero x in absurd (omega arith))
      (λ z.
      let pos : 0 < a.length = omega (arith, eqb-false a.length 0 z) in
      let quotient : t / a.length ≡ x = ap (λ n. n / a.length) at ∙ mul-div_cancel x pos in
      and_intro (eq-eqb (t % a.length) 0 (ap (λ n. n % a.length) at ∙ mul-mod_left x a.length))
      (and_intro (lt-ltb (t / a.length) 65536 (omega arith))
      (eq-eqb (t / a.length) (key_of x) (quotient ∙ (λ i. cond (sym g i) 65536 x)))))))

  pub times_rule : (f : First) (t : ℕ) → f.length ≡ a.length → f.keys ≡ keyed (λ x. key_of x) a.toggles → times_edge f t ≡ times_edge_of a t
  unfolding times_edge times_edge_of
  times_rule f t el ek =
      (λ i. eqb t 0 || eqb (t % el i) 0 && (ltb (t / el i) 65536 && among (ek i) (t / el i)))
      ∙ by_cases (eqb t 0)
      (λ e. rw e)
      (λ e.
      let some : 0 < t = omega (arith, eqb-false t 0 e) in
      ap (λ b. eqb t 0 || b)
      (ap (λ b. eqb (t % a.length) 0 && (ltb (t / a.length) 65536 && b)) (keyed-among (λ x. key_of x) a.toggles (t / a.length))
      ∙ ap (λ b. eqb (t % a.length) 0 && b) (any_and (ltb (t / a.length) 65536) 18 (λ k. eqb (t / a.length) (key_of (get_or a.toggles k 0))))
      ∙ any_and (eqb (t % a.length) 0) 18 (λ k. ltb (t / a.length) 65536 && eqb (t / a.length) (key_of (get_or a.toggles k 0)))
      ∙ (λ i. any_of 18 (λ k. times_toggle t (get_or a.toggles k 0) some (small k) i))))

-- Without an edge the levels stay, by the rules, for every line: at a pixel where no output can change each level is what it was one pixel before.
-- Each part has its law: a threshold that is not here is passed where it was.
-- Assumes nothing.
use mathlib.Core.Path.{◌≡◌, refl, sym, ap, ◌∙◌}
use mathlib.Core.Bool.{Bool, true, false, cond, not, ◌&&◌, ◌||◌}
use mathlib.Core.List.{List}
use Prim.Native.Nat.{ℕ, ◌+◌, ◌-◌, ◌*◌, ◌/◌, ◌%◌, ◌≤◌, ◌<◌}
use native.Mathlib.Nat.{mod-lt, mul-mod_left, div-add-mod', div-eq_of_lt-le}
use native.Mathlib.Omega.{arith}
use borrow.Author.Tests.{ltb-true, ltb-false, leb-true, leb-false, lt-ltb, le-ltb, le-leb, lt-leb, eqb-false, eq-eqb}
use lib.Dec.{ltb, leb, eqb}
use lib.ListN.{get_or}
use Rattle.std.proofs.Common.{Option, None, Some}
use Rattle.profile.proofs.Laws.{by_cases}
use Rattle.profile.specs.Patterns.{row_of, not4095, used}
use Rattle.profile.specs.declared.Mode.TheVariants.{Plain}
use Rattle.profile.specs.declared.Pattern.{Pattern}
use Rattle.level.specs.declared.Run.{Run}
use Rattle.level.specs.declared.Run.TheVariants.{Afresh, Carried, Multiplied}
use Rattle.level.specs.declared.Mask.{Mask}
use Rattle.level.specs.declared.Pulse.{Pulse}
use Rattle.level.specs.declared.Span.{Span}
use Rattle.level.specs.declared.Line.{Line}
use Rattle.level.specs.declared.others.Edges.{Edges}
use Rattle.level.specs.Word.{bit, flipped, flips, within, start_level, run_flips, run_toggles, first_level, second_level, of_second, unmasked, frozen, held_at, v_level, toggles_passed, pulse_level, no_pulse, span_level, v_word, gate_word, word_of}
use Rattle.level.specs.Next.{any_of}
use Rattle.level.specs.Edges.{
  toggle_at,
  run_edge_of,
  times_edge_of,
  first_edge_of,
  second_edge_of,
  unmasked_edge_of,
  mask_edge,
  toggles_edge,
  pulse_edge,
  span_edge,
  others_edge,
  edge_of,
}
use Rattle.level.specs.Eight.{edges_at, edges_edge, no_edges, eight_at, eight_edge}
use Rattle.level.proofs.Nexts.{clash, or_parts, and_none, any_none}
use Rattle.level.proofs.Parts.{run_has_length, mod_on, mod-turn, next_multiple, start_edge}

-- ---- tests

-- a threshold that is not p + 1
leb_stays : (x p : ℕ) → eqb (p + 1) x ≡ false → leb x (p + 1) ≡ leb x p
leb_stays x p e =
    let ne = eqb-false (p + 1) x e in
    by_cases (leb x p)
    (λ h. le-leb x (p + 1) (omega (arith, leb-true x p h)) ∙ sym h)
    (λ h. lt-leb x (p + 1) (omega (arith, leb-false x p h)) ∙ sym h)

below_stays : (x p : ℕ) → eqb (p + 1) x ≡ false → ltb (p + 1) x ≡ ltb p x
below_stays x p e =
    let ne = eqb-false (p + 1) x e in
    by_cases (ltb p x)
    (λ h. lt-ltb (p + 1) x (omega (arith, ltb-true p x h)) ∙ sym h)
    (λ h. le-ltb (p + 1) x (omega (arith, ltb-false p x h)) ∙ sym h)

-- ---- one output's toggles

flips_stays : (uses : ℕ → Bool) (a : Pattern) (scale t : ℕ) → toggle_at uses a scale (t + 1) ≡ false → (k : ℕ) → k < 6
    → flips uses scale (row_of a.toggles k) (t + 1) ≡ flips uses scale (row_of a.toggles k) t
flips_stays uses a scale t e k h =
    let x = one (3 * k) (omega arith) in
    let y = one (3 * k + 1) (omega arith) in
    let z = one (3 * k + 2) (omega arith) in
    λ i. bit (x i) + bit (y i) + bit (z i)
  where
    one : (j : ℕ) → j < 18
        → uses (get_or a.toggles j 0) && leb (get_or a.toggles j 0 * scale) (t + 1) ≡ uses (get_or a.toggles j 0) && leb (get_or a.toggles j 0 * scale) t
    one j l =
        let none = any_none 18 (λ k. uses (get_or a.toggles k 0) && eqb (t + 1) (get_or a.toggles k 0 * scale)) e j l in
        by_cases (uses (get_or a.toggles j 0))
        (λ u.
        let here : eqb (t + 1) (get_or a.toggles j 0 * scale) ≡ false = (λ i. sym u i && eqb (t + 1) (get_or a.toggles j 0 * scale)) ∙ none in
        ap (λ b. uses (get_or a.toggles j 0) && b) (leb_stays (get_or a.toggles j 0 * scale) t here))
        (λ u. and_none _ u ∙ sym (and_none _ u))

-- ---- a further pixel in the same repetition

mod-step : (t l : ℕ) → 0 < l → eqb ((t + 1) % l) 0 ≡ false → t % l + 1 < l
mod-step t l pos e =
    let u : t % l < l = mod-lt t pos in
    by_cases (ltb (t % l + 1) l) (λ h. ltb-true _ _ h)
    (λ h.
    let full : t % l + 1 ≡ l = omega (arith, ltb-false (t % l + 1) l h) in
    absurd (eqb-false ((t + 1) % l) 0 e (mod-turn t l 1 full)))

div_same : (t l : ℕ) → t % l + 1 < l → (t + 1) / l ≡ t / l
div_same t l h =
    let whole : t / l * l + t % l ≡ t = div-add-mod' t l in
    let split = next_multiple (t / l) l in
    div-eq_of_lt-le l {m = t + 1} (omega arith) (omega arith)

-- ---- plain and sweep: either in the same repetition with no toggle between, or after the run

record Within (a : Pattern) (r t : ℕ) : Type 0 where
  now : ltb (t + 1) (r * a.length) ≡ true
  before : ltb t (r * a.length) ≡ true
  turn : (t + 1) / a.length ≡ t / a.length
  place : (t + 1) % a.length ≡ t % a.length + 1
  quiet : toggle_at (used Plain a.length) a 1 (t % a.length + 1) ≡ false

record After (a : Pattern) (r t : ℕ) : Type 0 where
  now : ltb (t + 1) (r * a.length) ≡ false
  before : ltb t (r * a.length) ≡ false

run_where : {P : Type 0} (a : Pattern) (r t : ℕ) → run_edge_of a r (t + 1) ≡ false → (Within a r t → P) → (After a r t → P) → P
unfolding run_edge_of
run_where a r t e within after =
    by_cases (leb (t + 1) (r * a.length))
    (λ g.
    let h : t + 1 ≤ r * a.length = leb-true _ _ g in
    let inside : t < r * a.length = omega arith in
    let pos : 0 < a.length = run_has_length r a.length t inside in
    let parts =
    or_parts (eqb ((t + 1) % a.length) 0) (toggle_at (used Plain a.length) a 1 ((t + 1) % a.length))
    ((λ i. sym g i && (eqb ((t + 1) % a.length) 0 || toggle_at (used Plain a.length) a 1 ((t + 1) % a.length))) ∙ e) in
    let u : t % a.length + 1 < a.length = mod-step t a.length pos parts.0 in
    let on : (t + 1) % a.length ≡ t % a.length + 1 = mod_on t a.length 1 u in
    let still : t + 1 < r * a.length =
    by_cases (ltb (t + 1) (r * a.length)) (λ k. ltb-true _ _ k)
    (λ k.
    let last : t + 1 ≡ r * a.length = omega (arith, ltb-false (t + 1) (r * a.length) k) in
    absurd (eqb-false ((t + 1) % a.length) 0 parts.0 (ap (λ n. n % a.length) last ∙ mul-mod_left r a.length))) in
    within
    (record {
      now = lt-ltb (t + 1) (r * a.length) still;
      before = lt-ltb t (r * a.length) inside;
      turn = div_same t a.length u;
      place = on;
      quiet = ap (toggle_at (used Plain a.length) a 1) (sym on) ∙ parts.1;
    }))
    (λ g.
    let h : r * a.length < t + 1 = leb-false _ _ g in
    after (record { now = le-ltb (t + 1) (r * a.length) (omega arith); before = le-ltb t (r * a.length) (omega arith) }))

module _ (a : Pattern) (r t k : ℕ) (e : run_edge_of a r (t + 1) ≡ false) (h : k < 6) where
  -- version 1's level, t pixels after the start
  afresh_stays :
      cond (ltb (t + 1) (r * a.length)) (flipped (start_level a k) (run_flips a k ((t + 1) % a.length))) (start_level a k)
      ≡ cond (ltb t (r * a.length)) (flipped (start_level a k) (run_flips a k (t % a.length))) (start_level a k)
  afresh_stays =
      run_where a r t e
      (λ w. rw (w.now, w.before, w.place) (ap (flipped (start_level a k)) (flips_stays (used Plain a.length) a 1 (t % a.length) w.quiet k h)))
      (λ w. rw (w.now, w.before))

  -- the mended one
  carried_stays :
      cond (ltb (t + 1) (r * a.length)) (flipped (start_level a k) ((t + 1) / a.length * run_toggles a k + run_flips a k ((t + 1) % a.length))) (flipped (start_level a k) (r * run_toggles a k))
      ≡ cond (ltb t (r * a.length)) (flipped (start_level a k) (t / a.length * run_toggles a k + run_flips a k (t % a.length))) (flipped (start_level a k) (r * run_toggles a k))
  carried_stays =
      run_where a r t e
      (λ w.
      rw (w.now, w.before, w.turn, w.place)
      (ap (λ n. flipped (start_level a k) (t / a.length * run_toggles a k + n)) (flips_stays (used Plain a.length) a 1 (t % a.length) w.quiet k h)))
      (λ w. rw (w.now, w.before))

times_stays : (a : Pattern) (t k : ℕ) → times_edge_of a (t + 1) ≡ false → k < 6
    → flipped (start_level a k) (flips not4095 a.length (row_of a.toggles k) (t + 1)) ≡ flipped (start_level a k) (flips not4095 a.length (row_of a.toggles k) t)
unfolding times_edge_of
times_stays a t k e h =
    ap (flipped (start_level a k)) (flips_stays not4095 a a.length t (or_parts (eqb (t + 1) 0) (toggle_at not4095 a a.length (t + 1)) e).1 k h)

-- ---- the first pattern: before its start, or from there on

run_starts : (a : Pattern) (r : ℕ) → run_edge_of a r 0 ≡ true
unfolding run_edge_of
run_starts a r = start_edge (r * a.length) a.length _

times_starts : (a : Pattern) → times_edge_of a 0 ≡ true
unfolding times_edge_of
times_starts a = rw (eq-eqb 0 0 refl)

-- a level x before the start and y after it, which changes at edges alone, and the start is one
start_stays : (edge : ℕ → Bool) (y : ℕ → ℕ) (x start q : ℕ) → edge 0 ≡ true → ((t : ℕ) → edge (t + 1) ≡ false → y (t + 1) ≡ y t)
    → leb start (q + 1) && edge (q + 1 - start) ≡ false
    → cond (ltb (q + 1) start) x (y (q + 1 - start)) ≡ cond (ltb q start) x (y (q - start))
start_stays edge y x start q starts stay e =
    by_cases (ltb (q + 1) start)
    (λ g. rw (g, lt-ltb q start (omega (arith, ltb-true (q + 1) start g))))
    (λ g.
    let from : start ≤ q + 1 = ltb-false (q + 1) start g in
    let none : edge (q + 1 - start) ≡ false = (λ i. sym (le-leb start (q + 1) from) i && edge (q + 1 - start)) ∙ e in
    by_cases (leb start q)
    (λ l.
    let h : start ≤ q = leb-true start q l in
    let on : q + 1 - start ≡ q - start + 1 = omega arith in
    rw (g, le-ltb q start h) (ap y on ∙ stay (q - start) (ap edge (sym on) ∙ none)))
    (λ l.
    let here : q + 1 - start ≡ 0 = omega (arith, leb-false start q l) in
    absurd (clash starts (ap edge (sym here) ∙ none))))

first_stays : (run : Run) (a : Pattern) (start r k q : ℕ) → first_edge_of run a start r (q + 1) ≡ false → k < 6
    → first_level run a start r k (q + 1) ≡ first_level run a start r k q
first_stays Afresh a start r k q e h =
    start_stays (run_edge_of a r) (λ t. cond (ltb t (r * a.length)) (flipped (start_level a k) (run_flips a k (t % a.length))) (start_level a k))
    (start_level a k) start q (run_starts a r) (λ t g. afresh_stays a r t k g h) e
first_stays Carried a start r k q e h =
    start_stays (run_edge_of a r)
    (λ t. cond (ltb t (r * a.length)) (flipped (start_level a k) (t / a.length * run_toggles a k + run_flips a k (t % a.length))) (flipped (start_level a k) (r * run_toggles a k)))
    (start_level a k) start q (run_starts a r) (λ t g. carried_stays a r t k g h) e
first_stays Multiplied a start r k q e h =
    start_stays (times_edge_of a) (λ t. flipped (start_level a k) (flips not4095 a.length (row_of a.toggles k) t))
    (start_level a k) start q (times_starts a) (λ t g. times_stays a t k g h) e

-- ---- the second pattern, and V1 to V6 before masks

second_stays : (a : Pattern) (p k : ℕ) → a.length ≤ p → second_edge_of a (p + 1) ≡ false → k < 6 → second_level a k (p + 1) ≡ second_level a k p
unfolding second_edge_of
second_stays a p k from e h =
    let on : p + 1 - a.length ≡ p - a.length + 1 = omega arith in
    let parts = or_parts (eqb (p + 1) a.length) (toggle_at not4095 a 1 (p + 1 - a.length)) e in
    ap (flipped (start_level a k))
    (ap (flips not4095 1 (row_of a.toggles k)) on
    ∙ flips_stays not4095 a 1 (p - a.length) (ap (toggle_at not4095 a 1) (sym on) ∙ parts.1) k h)

of_second_stays : (o : Option Pattern) (p k : ℕ) (edge : Bool) (now before : ℕ) → of_second o (p + 1) (λ a. second_edge_of a (p + 1)) edge ≡ false → k < 6
    → (edge ≡ false → now ≡ before)
    → of_second o (p + 1) (λ a. second_level a k (p + 1)) now ≡ of_second o p (λ a. second_level a k p) before
unfolding second_edge_of
of_second_stays None p k edge now before e h stay = stay e
of_second_stays (Some a) p k edge now before e h stay =
    by_cases (leb a.length (p + 1))
    (λ g.
    let here : second_edge_of a (p + 1) ≡ false = rw g at e in
    let ne = eqb-false (p + 1) a.length (or_parts (eqb (p + 1) a.length) (toggle_at not4095 a 1 (p + 1 - a.length)) here).0 in
    let from : a.length ≤ p = omega (arith, leb-true a.length (p + 1) g) in
    rw (g, le-leb a.length p from) (second_stays a p k from here h))
    (λ g.
    let later = leb-false a.length (p + 1) g in
    rw (g, lt-leb a.length p (omega arith)) (stay (rw g at e)))

unmasked_stays : (l : Line) (p k : ℕ) → unmasked_edge_of l (p + 1) ≡ false → k < 6 → unmasked l k (p + 1) ≡ unmasked l k p
unfolding second_edge_of
unmasked_stays l p k e h = of_second_stays l.second p k _ _ _ e h first
  where
    first : first_edge_of l.run l.pattern l.start l.repetitions (l.origin + (p + 1)) ≡ false
        → first_level l.run l.pattern l.start l.repetitions k (l.origin + (p + 1))
        ≡ first_level l.run l.pattern l.start l.repetitions k (l.origin + p)
    first none =
        let on : l.origin + (p + 1) ≡ l.origin + p + 1 = omega arith in
        ap (first_level l.run l.pattern l.start l.repetitions k) on
        ∙ first_stays l.run l.pattern l.start l.repetitions k (l.origin + p) (ap (first_edge_of l.run l.pattern l.start l.repetitions) (sym on) ∙ none) h

-- ---- masks

pub mask_stays : (m : Option Mask) (p : ℕ) → mask_edge m (p + 1) ≡ false → frozen m (p + 1) ≡ frozen m p
mask_stays None p e = refl
mask_stays (Some m) p e =
    let parts = or_parts (eqb (p + 1) m.freeze) (eqb (p + 1) m.resume) e in
    let from = leb_stays m.freeze p parts.0 in
    let to = below_stays m.resume p parts.1 in
    λ i. from i && to i

-- a mask that holds lets its freeze show, and one that does not hold what else shows
held_same : (m : Option Mask) (p q x y : ℕ) → frozen m p ≡ true → frozen m q ≡ true → held_at m p x ≡ held_at m q y
held_same None p q x y e g = absurd (clash e refl)
held_same (Some m) p q x y e g = rw (e, g)

pub held_none : (m : Option Mask) (p x : ℕ) → frozen m p ≡ false → held_at m p x ≡ x
held_none None p x e = refl
held_none (Some m) p x e = rw e

v_stays : (l : Line) (p k : ℕ) → not (frozen l.mask1 (p + 1)) && (not (frozen l.mask2 (p + 1)) && unmasked_edge_of l (p + 1)) ≡ false
    → mask_edge l.mask1 (p + 1) ≡ false → mask_edge l.mask2 (p + 1) ≡ false → k < 6 → v_level l k (p + 1) ≡ v_level l k p
v_stays l p k e m1 m2 h =
    let a = mask_stays l.mask1 p m1 in
    let b = mask_stays l.mask2 p m2 in
    by_cases (frozen l.mask1 p)
    (λ g. ap (unmasked l k) (held_same l.mask1 (p + 1) p _ _ (a ∙ g) g))
    (λ g.
    let first : (x : ℕ) → held_at l.mask1 p x ≡ x = λ x. held_none l.mask1 p x g in
    let then : (x : ℕ) → held_at l.mask1 (p + 1) x ≡ x = λ x. held_none l.mask1 (p + 1) x (a ∙ g) in
    by_cases (frozen l.mask2 p)
    (λ j. ap (unmasked l k) (then _ ∙ held_same l.mask2 (p + 1) p _ _ (b ∙ j) j ∙ sym (first _)))
    (λ j.
    ap (unmasked l k) (then _ ∙ held_none l.mask2 (p + 1) (p + 1) (b ∙ j))
    ∙ unmasked_stays l p k (rw (a, g, b, j) at e) h
    ∙ ap (unmasked l k) (sym (first _ ∙ held_none l.mask2 p p j))))

-- ---- gates, SUBCK and shutters

toggles_stay : (o : Option (ℕ × ℕ)) (p : ℕ) → toggles_edge o (p + 1) ≡ false → toggles_passed o (p + 1) ≡ toggles_passed o p
toggles_stay None p e = refl
toggles_stay (Some t) p e =
    let parts = or_parts (eqb (p + 1) t.0) (eqb (p + 1) t.1) e in
    let x = leb_stays t.0 p parts.0 in
    let y = leb_stays t.1 p parts.1 in
    λ i. bit (x i) + bit (y i)

pulse_stays : (g : Pulse) (p : ℕ) → pulse_edge g (p + 1) ≡ false → pulse_level g (p + 1) ≡ pulse_level g p
pulse_stays g p e = ap (flipped g.level) (toggles_stay g.toggles p e)

-- a span that ends before it starts has no pixel
pub never_within : {from to : ℕ} (p : ℕ) → to < from → within from to p ≡ false
never_within {from} {to} p h =
    by_cases (leb from p)
    (λ g. rw (g, le-ltb p to (omega (arith, leb-true from p g))))
    (λ g. rw g)

span_stays : (s : Span) (p : ℕ) → span_edge s (p + 1) ≡ false → span_level s (p + 1) ≡ span_level s p
span_stays s p e =
    by_cases (leb s.from s.to)
    (λ a.
    let parts = or_parts (eqb (p + 1) s.from) (eqb (p + 1) s.to) (rw a at e) in
    let x = leb_stays s.from p parts.0 in
    let y = below_stays s.to p parts.1 in
    λ i. flipped s.level (cond (x i && y i) 0 1))
    (λ a.
    let none = leb-false s.from s.to a in
    ap (λ b. flipped s.level (cond b 0 1)) (never_within (p + 1) none ∙ sym (never_within p none)))

-- the eight made ready
pub eight_stays : (t : List Edges) (p : ℕ) → eight_edge t (p + 1) ≡ false → eight_at t (p + 1) ≡ eight_at t p
unfolding eight_at
eight_stays t p e =
    λ i.
    at 0 (omega arith) i + at 1 (omega arith) i * 2 + at 2 (omega arith) i * 4 + at 3 (omega arith) i * 8 + at 4 (omega arith) i * 16
    + at 5 (omega arith) i * 32
    + at 6 (omega arith) i * 64
    + at 7 (omega arith) i * 128
  where
    at : (k : ℕ) → k < 8 → edges_at (get_or t k no_edges) (p + 1) ≡ edges_at (get_or t k no_edges) p
    at k h =
        let parts =
        or_parts (eqb (p + 1) (get_or t k no_edges).on) (eqb (p + 1) (get_or t k no_edges).off)
        (any_none 8 (λ k. edges_edge (get_or t k no_edges) (p + 1)) e k h) in
        let on = leb_stays (get_or t k no_edges).on p parts.0 in
        let off = leb_stays (get_or t k no_edges).off p parts.1 in
        λ i. flipped (get_or t k no_edges).level (bit (on i) + bit (off i))

-- ---- the word

others_stay : (gates : List Pulse) (subck : Pulse) (mshut strobe : Span) (p : ℕ) → others_edge gates subck mshut strobe (p + 1) ≡ false
    → ((k : ℕ) → k < 5 → pulse_level (get_or gates k no_pulse) (p + 1) ≡ pulse_level (get_or gates k no_pulse) p)
    × (pulse_level subck (p + 1) ≡ pulse_level subck p)
    × (span_level mshut (p + 1) ≡ span_level mshut p)
    × (span_level strobe (p + 1) ≡ span_level strobe p)
unfolding others_edge
others_stay gates subck mshut strobe p e =
    let gate : ℕ → Bool = λ k. pulse_edge (get_or gates k no_pulse) (p + 1) in
    let three = or_parts ((any_of 5 gate || pulse_edge subck (p + 1)) || span_edge mshut (p + 1)) (span_edge strobe (p + 1)) e in
    let two = or_parts (any_of 5 gate || pulse_edge subck (p + 1)) (span_edge mshut (p + 1)) three.0 in
    let one = or_parts (any_of 5 gate) (pulse_edge subck (p + 1)) two.0 in (
      λ k h. pulse_stays (get_or gates k no_pulse) p (any_none 5 gate one.0 k h),
      pulse_stays subck p one.1,
      span_stays mshut p two.1,
      span_stays strobe p three.1,
    )

pub word_stays : (l : Line) (p : ℕ) → edge_of l (p + 1) ≡ false → word_of l (p + 1) ≡ word_of l p
unfolding edge_of word_of v_word gate_word
word_stays l p e =
    let others : Bool = others_edge l.gates l.subck l.mshut l.strobe (p + 1) in
    let whole =
    or_parts ((others || mask_edge l.mask1 (p + 1)) || mask_edge l.mask2 (p + 1))
    (not (frozen l.mask1 (p + 1)) && (not (frozen l.mask2 (p + 1)) && unmasked_edge_of l (p + 1))) e in
    let two = or_parts (others || mask_edge l.mask1 (p + 1)) (mask_edge l.mask2 (p + 1)) whole.0 in
    let one = or_parts others (mask_edge l.mask1 (p + 1)) two.0 in
    let v : (k : ℕ) → k < 6 → v_level l k (p + 1) ≡ v_level l k p = λ k h. v_stays l p k whole.1 one.1 two.1 h in
    let o = others_stay l.gates l.subck l.mshut l.strobe p one.0 in
    λ i.
    (v 0 (omega arith) i + v 1 (omega arith) i * 2 + v 2 (omega arith) i * 4 + v 3 (omega arith) i * 8 + v 4 (omega arith) i * 16
    + v 5 (omega arith) i * 32)
    + (o.0 0 (omega arith) i + o.0 1 (omega arith) i * 2 + o.0 2 (omega arith) i * 4 + o.0 3 (omega arith) i * 8 + o.0 4 (omega arith) i * 16) * 64
    + o.1 i * 2048
    + o.2 i * 4096
    + o.3 i * 8192

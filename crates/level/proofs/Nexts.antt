-- The first and the next number at which something happens: it is the only one with nothing before it; two kinds of events, one after the other; and
-- what does not change without an event stays up to it.
-- Assumes nothing.
use mathlib.Core.Path.{◌≡◌, refl, sym, ap, ◌∙◌}
use mathlib.Core.Bool.{Bool, true, false, cond, ◌&&◌, ◌||◌}
use Prim.Native.Nat.{ℕ, min, zero, suc, ◌+◌, ◌-◌, ◌≤◌, ◌<◌}
use native.Mathlib.Omega.{arith}
use native.Mathlib.Numerals.{add-one}
use borrow.Author.Tests.{ltb-true, ltb-false, leb-true, leb-false, eqb-true, eqb-false, eq-eqb, ne_eqb}
use lib.Dec.{ltb, leb, eqb}
use Rattle.profile.proofs.Laws.{cond-case, by_cases, or_left, or_right}
use Rattle.level.specs.Word.{bit}
use Rattle.level.specs.Next.{first_from, next, any_of}

-- ---- Booleans

pub clash : {b : Bool} → b ≡ true → b ≡ false → ⊥
clash x y = omega (arith, ap bit (sym x ∙ y))

pub or_none : {a b : Bool} → a ≡ false → b ≡ false → a || b ≡ false
or_none x y = λ i. x i || y i

pub or_parts : (a b : Bool) → a || b ≡ false → (a ≡ false) × (b ≡ false)
or_parts true b e = absurd (clash refl e)
or_parts false b e = (refl, e)

pub and_none : {a : Bool} (b : Bool) → a ≡ false → a && b ≡ false
and_none b e = λ i. e i && b

pub both : (a : Bool) {b : Bool} → b ≡ false → a && b ≡ false
both true e = e
both false e = refl

-- ---- what the next number is

pub record Is (f : ℕ → Bool) (p end e : ℕ) : Type 0 where
  pub low : p < e
  pub less : e ≤ end
  pub none : (q : ℕ) → p < q → q < e → f q ≡ false
  pub some : e < end → f e ≡ true

pub record From (f : ℕ → Bool) (n q e : ℕ) : Type 0 where
  pub low : q ≤ e
  pub less : e ≤ q + n
  pub none : (x : ℕ) → q ≤ x → x < e → f x ≡ false
  pub some : e < q + n → f e ≡ true

pub first_from_lem : (f : ℕ → Bool) (n q : ℕ) → From f n q (first_from f n q)
unfolding first_from
first_from_lem f zero q =
    record { low = omega arith; less = omega arith; none = λ x a b. absurd (omega arith); some = λ h. absurd (omega arith) }
first_from_lem f (suc n) q =
    cond-case (λ e. From f (suc n) q e) (f q) q (first_from f n (suc q))
    (λ h. record { low = omega arith; less = omega arith; none = λ x a b. absurd (omega arith); some = λ l. h })
    (λ h.
    let r = first_from_lem f n (suc q) in
    record {
      low = omega (arith, r.low);
      less = omega (arith, r.less);
      none = λ x a b. by_cases (eqb x q) (λ e. ap f (eqb-true x q e) ∙ h) (λ e. let ne = eqb-false x q e in r.none x (omega arith) b);
      some = λ l. r.some (omega arith);
    })

pub next_is : (f : ℕ → Bool) (p end : ℕ) → p < end → Is f p end (next f p end)
unfolding next
next_is f p end h =
    let r = first_from_lem f (end - suc p) (suc p) in
    record {
      low = omega (arith, r.low);
      less = omega (arith, r.less);
      none = λ q a b. r.none q (omega arith) b;
      some = λ l. r.some (omega arith);
    }

not-before : {f : ℕ → Bool} {n q e e' : ℕ} → From f n q e → From f n q e' → e < e' → ⊥
not-before {e = e} x y h = clash (x.some (omega (arith, y.less))) (y.none e x.low h)

pub is_first : {f : ℕ → Bool} {n q e : ℕ} → From f n q e → e ≡ first_from f n q
is_first {f} {n} {q} {e} x =
    let y = first_from_lem f n q in
    by_cases (ltb e (first_from f n q))
    (λ h. absurd (not-before x y (ltb-true e (first_from f n q) h)))
    (λ h.
    by_cases (ltb (first_from f n q) e)
    (λ g. absurd (not-before y x (ltb-true (first_from f n q) e g)))
    (λ g. omega (arith, ltb-false e (first_from f n q) h, ltb-false (first_from f n q) e g)))

pub is_next : {f : ℕ → Bool} {p end e : ℕ} → Is f p end e → e ≡ next f p end
unfolding next
is_next {p = p} x =
    is_first
    (record { low = omega (arith, x.low); less = omega (arith, x.less); none = λ q a b. x.none q (omega arith) b; some = λ l. x.some (omega arith) })

-- ---- the first from q on, up to an end

module _ (f : ℕ → Bool) {q end : ℕ} where
  pub first_here : q < end → f q ≡ true → q ≡ first_from f (end - q) q
  first_here h e = is_first (record { low = omega arith; less = omega arith; none = λ x a b. absurd (omega arith); some = λ l. e })

  pub first_past : end ≤ q → q ≡ first_from f (end - q) q
  first_past h = is_first (record { low = omega arith; less = omega arith; none = λ x a b. absurd (omega arith); some = λ l. absurd (omega arith) })

  -- none before e
  pub first_skip : {e : ℕ} → q ≤ e → e ≤ end → ((x : ℕ) → q ≤ x → x < e → f x ≡ false) → first_from f (end - q) q ≡ first_from f (end - e) e
  first_skip {e} h l none =
      let r = first_from_lem f (end - e) e in
      sym
      (is_first
      (record {
        low = omega (arith, r.low);
        less = omega (arith, r.less);
        none = λ x a b. by_cases (ltb x e) (λ k. none x a (ltb-true x e k)) (λ k. r.none x (ltb-false x e k) b);
        some = λ k. r.some (omega arith);
      }))

  -- the next, where q itself is none
  pub next-first : q < end → f q ≡ false → next f q end ≡ first_from f (end - q) q
  unfolding next
  next-first h e =
      sym (first_skip (omega arith) (omega arith) (λ x a b. let here : x ≡ q = omega arith in ap f here ∙ e))

-- the same of what a call gave
pub is_what : {f : ℕ → Bool} {p end e : ℕ} → p < end → e ≡ next f p end → Is f p end e
is_what {f} {p} {end} h e = rw e (next_is f p end h)

pub next_low : (f : ℕ → Bool) (p end : ℕ) → p < end → p < next f p end
next_low f p end h = (next_is f p end h).low

pub next_less : (f : ℕ → Bool) (p end : ℕ) → p < end → next f p end ≤ end
next_less f p end h = (next_is f p end h).less

-- nothing happens
pub is_none : {f : ℕ → Bool} {p end : ℕ} → p < end → ((q : ℕ) → p < q → q < end → f q ≡ false) → Is f p end end
is_none h none = record { low = h; less = omega arith; none = none; some = λ l. absurd (omega arith) }

pub next-none : {f : ℕ → Bool} {p end : ℕ} → p < end → ((q : ℕ) → p < q → q < end → f q ≡ false) → end ≡ next f p end
next-none h none = is_next (is_none h none)

-- another name for what happens
pub next_ext : {f g : ℕ → Bool} (p end : ℕ) → ((q : ℕ) → f q ≡ g q) → next f p end ≡ next g p end
next_ext p end h = λ i. next (λ q. h q i) p end

-- the same events between
pub next_on : {f g : ℕ → Bool} {p end : ℕ} → p < end → ((q : ℕ) → p < q → q < end → f q ≡ g q) → next f p end ≡ next g p end
next_on {f} {g} {p} {end} h same =
    let x = next_is f p end h in
    is_next
    (record {
      low = x.low;
      less = x.less;
      none = λ q a b. sym (same q a (omega (arith, x.less))) ∙ x.none q a b;
      some = λ l. sym (same (next f p end) x.low l) ∙ x.some l;
    })

-- ---- two kinds of events, the second sought before the first one of the first kind

pub is_two : {f g : ℕ → Bool} {p end b e : ℕ} → Is f p end b → Is g p b e → Is (λ q. f q || g q) p end e
is_two {f} {g} {p} {end} {b} {e} x y =
    record {
      low = y.low;
      less = omega (arith, x.less, y.less);
      none = λ q a h. or_none (x.none q a (omega (arith, y.less))) (y.none q a h);
      some = λ h.
          by_cases (ltb e b) (λ k. or_right (f e) (g e) (y.some (ltb-true e b k)))
          (λ k.
          let same : b ≡ e = omega (arith, ltb-false e b k, y.less) in
          or_left (f e) (g e) (ap f (sym same) ∙ x.some (omega arith)));
    }

pub next_two : (f g : ℕ → Bool) (p end : ℕ) → p < end → next g p (next f p end) ≡ next (λ q. f q || g q) p end
next_two f g p end h =
    let x = next_is f p end h in
    is_next (is_two x (next_is g p (next f p end) x.low))

-- ---- counted from p

pub next_shift : (f : ℕ → Bool) (p end : ℕ) → p < end → p + next (λ j. f (p + j)) 0 (end - p) ≡ next f p end
next_shift f p end h =
    let d : ℕ = next (λ j. f (p + j)) 0 (end - p) in
    let x : Is (λ j. f (p + j)) 0 (end - p) d = next_is (λ j. f (p + j)) 0 (end - p) (omega arith) in
    is_next
    (record {
      low = omega (arith, x.low);
      less = omega (arith, x.less);
      none = λ q a b.
          let here : p + (q - p) ≡ q = omega arith in
          ap f (sym here) ∙ x.none (q - p) (omega arith) (omega arith);
      some = λ l. x.some (omega arith);
    })

-- ---- one number

pub next_one : (x p end : ℕ) → p < x → x < end → x ≡ next (λ q. eqb q x) p end
next_one x p end h l =
    is_next
    (record {
      low = h;
      less = omega arith;
      none = λ q a b. ne_eqb q x (λ e. omega arith);
      some = λ k. eq-eqb x x refl;
    })

-- not between
pub next_outside : (x p end : ℕ) → p < end → (p < x → end ≤ x) → end ≡ next (λ q. eqb q x) p end
next_outside x p end h out = next-none h (λ q a b. ne_eqb q x (λ e. omega (arith, out (omega arith))))

-- the lower of the best so far and a number, where the number is above n
pub next_lower : (x n best end : ℕ) → n < best → best ≤ end → min best (cond (ltb n x) x end) ≡ next (λ q. eqb q x) n best
next_lower x n best end h l =
    by_cases (ltb n x)
    (λ e.
    by_cases (ltb x best)
    (λ g. let here : min best x ≡ x = omega (arith, ltb-true x best g) in rw e (here ∙ next_one x n best (ltb-true n x e) (ltb-true x best g)))
    (λ g. let here : min best x ≡ best = omega (arith, ltb-false x best g) in rw e (here ∙ next_outside x n best h (λ k. ltb-false x best g))))
    (λ e. let here : min best end ≡ best = omega arith in rw e (here ∙ next_outside x n best h (λ k. absurd (omega (arith, ltb-false n x e)))))

-- ---- one of several

pub any_more : (k : ℕ) (g : ℕ → Bool) → any_of (k + 1) g ≡ any_of k g || g k
unfolding any_of
any_more k g = ap (λ n. any_of n g) (add-one k)

pub any_none : (k : ℕ) (g : ℕ → Bool) → any_of k g ≡ false → (j : ℕ) → j < k → g j ≡ false
unfolding any_of
any_none zero g e j h = absurd (omega arith)
any_none (suc k) g e j h =
    let parts = or_parts (any_of k g) (g k) e in
    by_cases (ltb j k) (λ l. any_none k g parts.0 j (ltb-true j k l))
    (λ l. let here : j ≡ k = omega (arith, ltb-false j k l) in ap g here ∙ parts.1)

module _ (G : ℕ → ℕ → Bool) (p end : ℕ) (h : p < end) where
  pub any_start : end ≡ next (λ q. any_of 0 (λ j. G j q)) p end
  unfolding any_of
  any_start = next-none h (λ q a b. refl)

  -- a further one
  pub any_step : (k : ℕ) {best e : ℕ} → best ≡ next (λ q. any_of k (λ j. G j q)) p end → e ≡ next (λ q. G k q) p best
      → e ≡ next (λ q. any_of (k + 1) (λ j. G j q)) p end
  any_step k {best} {e} x y =
      y ∙ ap (λ b. next (λ q. G k q) p b) x
      ∙ next_two (λ q. any_of k (λ j. G j q)) (λ q. G k q) p end h
      ∙ next_ext p end (λ q. sym (any_more k (λ j. G j q)))

-- ---- what does not change without an event stays up to the next one

pub stays : {A : Type 0} (f : ℕ → Bool) (g : ℕ → A) → ((q : ℕ) → f (q + 1) ≡ false → g (q + 1) ≡ g q)
    → (p end : ℕ) → p < end → (q : ℕ) → p ≤ q → q < next f p end → g q ≡ g p
stays f g step p end h zero a b = let here : 0 ≡ p = omega arith in ap g here
stays f g step p end h (suc q) a b =
    by_cases (leb p q)
    (λ e.
    let x = next_is f p end h in
    let one : suc q ≡ q + 1 = omega arith in
    ap g one
    ∙ step q (ap f (sym one) ∙ x.none (suc q) (omega (arith, leb-true p q e)) b)
    ∙ stays f g step p end h q (leb-true p q e) (omega arith))
    (λ e. let here : suc q ≡ p = omega (arith, leb-false p q e) in ap g here)

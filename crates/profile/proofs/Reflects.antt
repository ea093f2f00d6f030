-- Each test of the rules is true exactly where document 01's sentence holds: a test is made of comparisons by "and", "or" and "where", and each
-- of these is reflected once.
-- Assumes nothing.
use Prim.Native.Nat.{ℕ, zero, suc, ◌+◌, ◌-◌, ◌*◌, ◌/◌, ◌%◌, ◌^◌, ◌≤◌, ◌<◌, max}
use native.Mathlib.Omega.{arith}
use mathlib.Core.Path.{◌≡◌, refl, sym}
use mathlib.Core.Logic.{◌↔◌, ◌⊎◌, inl, inr}
use mathlib.Core.Bool.{Bool, true, false, cond, not, ◌&&◌, ◌||◌, false≢true}
use mathlib.Core.List.{List, [], ◌∷◌, map}
use lib.ListN.{length, get_or}
use lib.Dec.{ltb, leb, eqb}
use borrow.Author.Tests.{ltb-true, leb-true, leb-false, eqb-true, eqb-false, lt-ltb, le-leb, eq-eqb, ne_eqb, not-true}
use Rattle.profile.specs.Lists.{Each, all, distinct, chunks}
use Rattle.profile.specs.Patterns.{row_of, is_plain, not4095, used, in_order, toggle_fault, used_or0, highest_in, highest_used}
use Rattle.profile.specs.Geometry.{region_at, region_of, sequence_at, pattern_at, line_length, has_pixel, repetitions}
use Rattle.profile.specs.Rules.{
  row_right,
  pairs_right,
  mask_right,
  counts_right,
  ends_right,
  second_right,
  gate_right,
  subck_right,
  comes_before,
  shutter_right,
}
use Rattle.profile.specs.Obeys.{Not4095, Used, Rises, InOrder, Masks, Highest, Counts, Ends, Seconds, Differ, Exists, Before, Pulses, Suppresses, Shuts}
use Rattle.profile.specs.declared.Mode.{Mode}
use Rattle.profile.specs.declared.Mode.TheVariants.{Plain, Sweep, Multiplier}
use Rattle.profile.specs.declared.Sequence.{Sequence}
use Rattle.profile.specs.declared.Pattern.{Pattern}
use Rattle.profile.specs.declared.Gate.{Gate}
use Rattle.profile.specs.declared.Subck.{Subck}
use Rattle.profile.specs.declared.Shutter.{Shutter}
use Rattle.profile.specs.declared.Tables.{Tables}
use Rattle.profile.specs.declared.Field.{Field}
use Rattle.profile.proofs.Laws.{two_or_three, by_cases, and_left, and_right, and_intro, where_true, where_intro, or_cases, or_left, or_right, all_cons, ones_at, ones_all, each_inside, each_places}

-- ---- comparisons and their joining

-- that a test is true says A
abbrev pub Says : Bool → Type 0 → Type 0
Says b A = (b ≡ true) ↔ A

pub says_lt : (a b : ℕ) → Says (ltb a b) (a < b)
says_lt a b = (ltb-true a b, lt-ltb a b)

pub says_le : (a b : ℕ) → Says (leb a b) (a ≤ b)
says_le a b = (leb-true a b, le-leb a b)

pub says_eq : (a b : ℕ) → Says (eqb a b) (a ≡ b)
says_eq a b = (eqb-true a b, eq-eqb a b)

pub says_ne : (a b : ℕ) → Says (not (eqb a b)) (a ≡ b → ⊥)
says_ne a b = ((λ e. eqb-false a b (not-true _ e)), λ n. rw (ne_eqb a b n))

pub says_true : (b : Bool) → Says b (b ≡ true)
says_true b = ((λ e. e), λ e. e)

module _ {a b : Bool} {A B : Type 0} (f : Says a A) (g : Says b B) where
  pub says_and : Says (a && b) (A × B)
  says_and = ((λ e. (f.0 (and_left a b e), g.0 (and_right a b e))), λ w. and_intro (f.1 w.0) (g.1 w.1))

  pub says_or : Says (a || b) (A ⊎ B)
  says_or = ((λ e. to (or_cases a b e)), from)
    where
      to : (a ≡ true) ⊎ (b ≡ true) → A ⊎ B
      to (inl p) = inl (f.0 p)
      to (inr p) = inr (g.0 p)

      from : A ⊎ B → a || b ≡ true
      from (inl x) = or_left a b (f.1 x)
      from (inr y) = or_right a b (g.1 y)

  -- `not a || b` is "where a, b"
  pub says_where : Says (not a || b) (A → B)
  says_where = ((λ e x. g.0 (where_true a b e (f.1 x))), λ h. where_intro a b (λ p. g.1 (h (f.0 p))))

-- a test of each number below n
pub says_each : (n : ℕ) (b : ℕ → Bool) (A : ℕ → Type 0) → ((k : ℕ) → Says (b k) (A k)) → Says (all (chunks n (λ k. b k ∷ []))) ((k : ℕ) → k < n → A k)
says_each n b A f = ((λ e k h. (f k).0 (ones_at n b e k h)), λ w. ones_all n b (λ k h. (f k).1 (w k h)))

-- a test before those of a list
pub says_cons : {b : Bool} {A B : Type 0} (bs : List Bool) → Says b A → Says (all bs) B → Says (all (b ∷ bs)) (A × B)
says_cons bs f g = rw all_cons (says_and f g)

-- a test of each element
pub says_map : {X : Type 0} (b : X → Bool) (A : X → Type 0) → ((x : X) → Says (b x) (A x)) → (xs : List X) → Says (all (map b xs)) (Each A xs)
unfolding all
says_map b A f [] = ((λ e. tt), λ w. refl)
says_map b A f (x ∷ xs) = says_cons (map b xs) (f x) (says_map b A f xs)

-- numbers that differ: the first from each of the rest, and those among themselves
pub says_differ : (l : List ℕ) → Says (distinct l) (Differ l)
unfolding distinct
says_differ [] = ((λ e i j h k. absurd (omega arith)), λ w. refl)
says_differ (x ∷ xs) =
    let s = says_and (says_map _ _ (says_ne x) xs) (says_differ xs) in (
      (λ e. apart (s.0 e).0 (s.0 e).1),
      λ w. s.1 (each_places (λ y. x ≡ y → ⊥) xs 0 (λ j h. w 0 (suc j) (omega arith) (omega arith)), λ i j h k. w (suc i) (suc j) (omega arith) (omega arith)),
    )
  where
    apart : Each (λ y. x ≡ y → ⊥) xs → Differ xs → Differ (x ∷ xs)
    apart a d i zero h k = absurd (omega arith)
    apart a d zero (suc j) h k = each_inside (λ y. x ≡ y → ⊥) xs 0 a j (omega arith)
    apart a d (suc i) (suc j) h k = d i j (omega arith) (omega arith)

-- ---- 10: toggles

says_not4095 : (x : ℕ) → Says (not4095 x) (Not4095 x)
says_not4095 x = says_ne x 4095

pub says_used : (m : Mode) (length x : ℕ) → Says (used m length x) (Used m length x)
says_used Plain length x = says_lt x length
says_used Sweep length x = says_lt x length
says_used Multiplier length x = says_not4095 x

-- no fault is found exactly where both pairs of neighbours are in order
no_fault : (b c : Bool) → eqb (cond b (cond c 0 3) 2) 0 ≡ true → (b ≡ true) × (c ≡ true)
no_fault true true e = (refl, refl)
no_fault true false e = absurd (false≢true e)
no_fault false c e = absurd (false≢true e)

-- toggles 2 and 3 in order are all in order
rises : (Uses : ℕ → Type 0) (row : List ℕ) → InOrder Uses row 2 → InOrder Uses row 3 → Rises Uses row
rises Uses row f g i zero h l = absurd (omega arith)
rises Uses row f g zero (suc zero) h l = f
rises Uses row f g (suc i) (suc zero) h l = absurd (omega arith)
rises Uses row f g zero (suc (suc zero)) h l = λ u. let w = g u in let v = f w.0 in (v.0, omega arith)
rises Uses row f g (suc zero) (suc (suc zero)) h l = g
rises Uses row f g (suc (suc i)) (suc (suc zero)) h l = absurd (omega arith)
rises Uses row f g i (suc (suc (suc j))) h l = absurd (omega arith)

-- so rule 10 at each toggle is "used toggles come first and rise strictly"
pub toggles_rise : (Uses : ℕ → Type 0) (row : List ℕ) → ((j : ℕ) → (j ≡ 2) ⊎ (j ≡ 3) → InOrder Uses row j) ↔ Rises Uses row
toggles_rise Uses row = (
  (λ f. rises Uses row (f 2 (inl refl)) (f 3 (inr refl))),
  λ r. two_or_three (InOrder Uses row) (r 0 1 (omega arith) (omega arith)) (r 1 2 (omega arith) (omega arith)),
)

module _ (uses : ℕ → Bool) (Uses : ℕ → Type 0) (says : (x : ℕ) → Says (uses x) (Uses x)) (row : List ℕ) where
  abbrev at : ℕ → ℕ
  at j = get_or row j 0

  pub says_toggle : (j : ℕ) → Says (in_order uses row j) (InOrder Uses row j)
  says_toggle j = says_where (says (at (j - 1))) (says_and (says (at (j - 2))) (says_lt (at (j - 2)) (at (j - 1))))

  pub says_row : Says (row_right uses row) (Rises Uses row)
  unfolding row_right toggle_fault
  says_row = (
    (λ e. let w = no_fault _ _ e in rises Uses row ((says_toggle 2).0 w.0) ((says_toggle 3).0 w.1)),
    λ r. let f = (toggles_rise Uses row).1 r in rw ((says_toggle 2).1 (f 2 (inl refl)), (says_toggle 3).1 (f 3 (inr refl))),
  )

-- ---- 11: masks

pub says_mask : (m : Mode) (mask : ℕ) (a : Pattern) → Says (mask_right m mask a) (Masks m mask a)
unfolding mask_right pairs_right
says_mask Plain mask a =
    let on1 = says_eq (mask / 2 ^ (1 - 1) % 2) 1 in
    let on2 = says_eq (mask / 2 ^ (2 - 1) % 2) 1 in
    let w = says_and (says_and (says_where on1 (says_lt a.freeze1 a.resume1)) (says_where on2 (says_lt a.freeze2 a.resume2)))
    (says_where (says_and on1 on2) (says_le a.resume1 a.freeze2)) in (
      (λ e. let q = w.0 e in (q.0.0, q.0.1, λ x y. q.1 (x, y))),
      λ q. w.1 ((q.0, q.1), λ z. q.2 z.0 z.1),
    )
says_mask Sweep mask a = says_eq mask 0
says_mask Multiplier mask a = says_eq mask 0

-- ---- 12: repetition counts

-- a toggle is no higher than what it counts as where it is used, and counts as itself or as 0
or0_above : (x : ℕ) → Not4095 x → x ≤ used_or0 x
or0_above x u = rw (ne_eqb x 4095 u) (omega arith)

or0_is : (x : ℕ) → (used_or0 x ≡ 0) ⊎ (Not4095 x × (used_or0 x ≡ x))
or0_is x = by_cases (eqb x 4095) (λ q. inl (rw q)) (λ q. inr (eqb-false x 4095 q, rw q))

-- of two numbers of which each is 0 or found, the greater is
greater_is : (P : ℕ → Type 0) (a b : ℕ) → (a ≡ 0) ⊎ P a → (b ≡ 0) ⊎ P b → (max a b ≡ 0) ⊎ P (max a b)
greater_is P a b f g =
    by_cases (leb b a)
    (λ e. let l = leb-true b a e in let m : max a b ≡ a = omega arith in rw m f)
    (λ e. let l = leb-false b a e in let m : max a b ≡ b = omega arith in rw m g)

module _ (row : ℕ → List ℕ) where
  abbrev toggle : ℕ → ℕ → ℕ
  toggle k j = get_or (row k) j 0

  in_row : (k j : ℕ) → j < 3 → Not4095 (toggle k j) → toggle k j ≤ highest_in (row k)
  in_row k zero l u = omega (arith, or0_above (toggle k 0) u)
  in_row k (suc zero) l u = omega (arith, or0_above (toggle k 1) u)
  in_row k (suc (suc zero)) l u = omega (arith, or0_above (toggle k 2) u)
  in_row k (suc (suc (suc j))) l u = absurd (omega arith)

  highest_above : (n k j : ℕ) → k < n → j < 3 → Not4095 (toggle k j) → toggle k j ≤ highest_used row n
  unfolding highest_used
  highest_above zero k j h l u = absurd (omega arith)
  highest_above (suc n) k j h l u =
      by_cases (eqb k n)
      (λ q. let e = eqb-true k n q in rw (← e) (omega (arith, in_row k j l u)))
      (λ q. omega (arith, highest_above n k j (omega (arith, eqb-false k n q)) l u))

  abbrev Found : ℕ → ℕ → Type 0
  Found n h = (k : ℕ) × (j : ℕ) × (k < n) × (j < 3) × Not4095 h × (toggle k j ≡ h)

  row_found : (n j : ℕ) → j < 3 → (used_or0 (toggle n j) ≡ 0) ⊎ Found (suc n) (used_or0 (toggle n j))
  row_found n j l = go (or0_is (toggle n j))
    where
      go : (used_or0 (toggle n j) ≡ 0) ⊎ (Not4095 (toggle n j) × (used_or0 (toggle n j) ≡ toggle n j))
          → (used_or0 (toggle n j) ≡ 0) ⊎ Found (suc n) (used_or0 (toggle n j))
      go (inl z) = inl z
      go (inr w) = inr (n, j, omega arith, l, rw w.1 w.0, sym w.1)

  later : (n h : ℕ) → (h ≡ 0) ⊎ Found n h → (h ≡ 0) ⊎ Found (suc n) h
  later n h (inl z) = inl z
  later n h (inr w) = inr (w.0, w.1, omega arith, w.3, w.4, w.5)

  highest_found : (n : ℕ) → (highest_used row n ≡ 0) ⊎ Found n (highest_used row n)
  unfolding highest_used
  highest_found zero = inl refl
  highest_found (suc n) =
      let G = Found (suc n) in
      let at = row_found n in
      greater_is G _ _ (later n _ (highest_found n))
      (greater_is G _ _ (greater_is G _ _ (at 0 (omega arith)) (at 1 (omega arith))) (at 2 (omega arith)))

pub highest_is : (a : Pattern) → Highest a (highest_used (row_of a.toggles) 6)
highest_is a = record { above = highest_above (row_of a.toggles) 6; is = highest_found (row_of a.toggles) 6 }

no_higher : (a : Pattern) (g h : ℕ) → Highest a g → Highest a h → g ≤ h
no_higher a g h u v = go u.is
  where
    go : (g ≡ 0) ⊎ ((k : ℕ) × (j : ℕ) × (k < 6) × (j < 3) × Not4095 g × (get_or (row_of a.toggles k) j 0 ≡ g)) → g ≤ h
    go (inl z) = omega arith
    go (inr w) = rw (← w.5) (v.above w.0 w.1 w.2 w.3 (rw w.5 w.4))

says_highest : (a : Pattern) (h : ℕ) → Says (eqb h (highest_used (row_of a.toggles) 6)) (Highest a h)
says_highest a h = (
  (λ e. rw (eqb-true h _ e) (highest_is a)),
  λ w. eq-eqb h _ (omega (arith, no_higher a h _ w (highest_is a), no_higher a _ h (highest_is a) w)),
)

pub says_counts : (m : Mode) (s : Sequence) (a : Pattern) → Says (counts_right m s a) (Counts m s a)
unfolding counts_right
says_counts Plain s a = ((λ e. tt), λ w. refl)
says_counts Sweep s a = says_eq s.odd s.even
says_counts Multiplier s a = says_and (says_highest a s.odd) (says_highest a s.even)

-- ---- 13: the run's end

pub says_ends : (m : Mode) (s : Sequence) (a : Pattern) (size : ℕ) → Says (ends_right m s a size) (Ends m s a size)
unfolding ends_right
says_ends Plain s a size = ((λ e. tt), λ w. refl)
says_ends Sweep s a size = says_le (s.start + s.odd * a.length) size
says_ends Multiplier s a size = says_le (s.start + s.odd * a.length) size

-- ---- 14 to 17

pub says_plain : (m : Mode) → Says (is_plain m) (m ≡ Plain)
says_plain Plain = ((λ e. refl), λ e. refl)
says_plain Sweep = ((λ e. absurd (false≢true e)), λ e. let z : ◌≡◌ {A = ℕ} 0 1 = cc in absurd (omega arith))
says_plain Multiplier = ((λ e. absurd (false≢true e)), λ e. let z : ◌≡◌ {A = ℕ} 0 1 = cc in absurd (omega arith))

says_first_ends : (r end second : ℕ) → Says (eqb r 0 || leb end second) ((r ≡ 0 → ⊥) → end ≤ second)
says_first_ends r end second =
    by_cases (eqb r 0)
    (λ e. let z = eqb-true r 0 e in ((λ w n. absurd (n z)), λ w. rw e))
    (λ e. let n = eqb-false r 0 e in ((λ w u. leb-true end second (rw e at w)), λ w. rw e (le-leb end second (w n))))

pub says_second : (t : Tables) (f : Field) (a : Pattern) (line : ℕ) → Says (second_right t f a line) (Seconds t f a line)
unfolding second_right
says_second t f a line =
    let i = region_of f line in
    let s = sequence_at t f i in
    let r = repetitions s line in
    let w =
    says_and
    (says_and
    (says_and
    (says_and (says_plain (region_at f i).mode) (says_ne a.length 0))
    (says_each 6 (λ k. row_right not4095 (row_of a.toggles k)) (λ k. Rises Not4095 (row_of a.toggles k))
    (λ k. says_row not4095 Not4095 says_not4095 (row_of a.toggles k))))
    (says_lt a.length (line_length t f line)))
    (says_first_ends r (s.start + r * (pattern_at t f i).length) a.length) in (
      (λ e.
          let q = w.0 e in
          record { plain = q.0.0.0.0; length = q.0.0.0.1; toggles = q.0.0.1; shorter = q.0.1; first_ended = q.1 }),
      λ q. w.1 ((((q.plain, q.length), q.toggles), q.shorter), q.first_ended),
    )

pub says_gate : (g : Gate) (length : ℕ) → Says (gate_right g length) (Pulses g length)
unfolding gate_right
says_gate g length =
    let w = says_where (says_and (says_true g.present) (says_eq g.on 1)) (says_and (says_lt g.toggle1 g.toggle2) (says_lt g.toggle2 length)) in
    ((λ e x y. w.0 e (x, y)), λ q. w.1 (λ z. q z.0 z.1))

pub says_subck : (s : Subck) → Says (subck_right s) (Suppresses s)
unfolding subck_right
says_subck s = says_where (says_true s.present) (says_and (says_lt s.toggle1 s.toggle2) (says_le 1 s.suppressed))

pub says_exists : (t : Tables) (f : Field) (line pixel : ℕ) → Says (has_pixel t f line pixel) (Exists t f line pixel)
unfolding has_pixel
says_exists t f line pixel = says_and (says_lt line f.lines) (says_lt pixel (line_length t f line))

pub says_before : (line pixel line' pixel' : ℕ) → Says (comes_before line pixel line' pixel') (Before line pixel line' pixel')
says_before line pixel line' pixel' = says_or (says_lt line line') (says_and (says_eq line line') (says_lt pixel pixel'))

pub says_shutter : (t : Tables) (f : Field) (s : Shutter) → Says (shutter_right t f s) (s.present ≡ true → Shuts t f s)
unfolding shutter_right
says_shutter t f s =
    let w =
    says_where (says_true s.present)
    (says_and
    (says_and (says_exists t f s.on_line s.on_pixel) (says_exists t f s.off_line s.off_pixel))
    (says_before s.on_line s.on_pixel s.off_line s.off_pixel)) in
    ((λ e h. let q = w.0 e h in (q.0.0, q.0.1, q.1)), λ q. w.1 (λ h. let z = q h in ((z.0, z.1), z.2)))

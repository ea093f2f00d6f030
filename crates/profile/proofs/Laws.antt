-- Laws that are cited everywhere: choices by tests, `all`, `Each`, `chunks`, `sum`, `last_start`, `over` and rests, each over any index, number or list.
-- Assumes nothing.
use mathlib.Core.Path.{◌≡◌, refl, sym, ap, subst, ◌∙◌}
use mathlib.Core.Bool.{Bool, true, false, cond, not, ◌&&◌, ◌||◌, false≢true}
use mathlib.Core.Logic.{◌⊎◌, inl, inr}
use mathlib.Core.List.{List, [], ◌∷◌, ◌++◌, map, append_assoc, append-nil}
use Prim.Native.Nat.{ℕ, zero, suc, ◌+◌, ◌*◌, ◌-◌, ◌≤◌, ◌<◌, min, zero-le}
use native.Mathlib.Nat.{add-zero, zero-add, add-suc, add_assoc, zero-mul, suc-mul, add-mul, le_trans, mul-le-mul}
use native.Mathlib.Numerals.{add-one}
use native.Mathlib.Omega.{arith}
use borrow.Author.Tests.{not-true, not-false, leb-true, leb-false, le-leb, lt-leb, eqb-true, eqb-false}
use lib.ListN.{length, length-map, get_or, take, drop, length-append, length-drop, drop_of_length-le, get_or-append, get_or-map}
use lib.Seq.{get_or-append-add, take_all}
use lib.Dec.{leb, eqb}
use Rattle.profile.specs.Lists.{Each, all, chunks, sum, last_start}

-- ---- choices by a test

-- a claim of a choice, by its two cases
pub cond-case : {A : Type 0} (P : A → Type 0) (b : Bool) (x y : A) → (b ≡ true → P x) → (b ≡ false → P y) → P (cond b x y)
cond-case P true x y f g = f refl
cond-case P false x y f g = g refl

-- both branches are told apart by what is known in them
pub by_cases {ℓ} : {P : Type ℓ} (b : Bool) → (b ≡ true → P) → (b ≡ false → P) → P
by_cases true f g = f refl
by_cases false f g = g refl

-- of 2 or 3, by its two cases
pub two_or_three : (P : ℕ → Type 0) → P 2 → P 3 → (j : ℕ) → (j ≡ 2) ⊎ (j ≡ 3) → P j
two_or_three P a b j (inl e) = subst P (sym e) a
two_or_three P a b j (inr e) = subst P (sym e) b

pub and_left : (a b : Bool) → a && b ≡ true → a ≡ true
and_left true b e = refl
and_left false b e = e

pub and_right : (a b : Bool) → a && b ≡ true → b ≡ true
and_right true b e = e
and_right false b e = absurd (false≢true e)

pub and_intro : {a b : Bool} → a ≡ true → b ≡ true → a && b ≡ true
and_intro p q = rw (p, q)

-- a and not b, where it is not so that b or not a
pub and_not : (a b : Bool) → a && not b ≡ not (not a || b)
and_not true true = refl
and_not true false = refl
and_not false b = refl

-- `not a || b` is "where a, b"
pub where_true : (a b : Bool) → not a || b ≡ true → a ≡ true → b ≡ true
where_true true b e h = e
where_true false b e h = absurd (false≢true h)

pub where_intro : (a b : Bool) → (a ≡ true → b ≡ true) → not a || b ≡ true
where_intro true b f = f refl
where_intro false b f = refl

pub or_cases : (a b : Bool) → a || b ≡ true → (a ≡ true) ⊎ (b ≡ true)
or_cases true b e = inl refl
or_cases false b e = inr e

pub or_left : (a b : Bool) → a ≡ true → a || b ≡ true
or_left a b e = rw e

pub or_right : (a b : Bool) → b ≡ true → a || b ≡ true
or_right true b e = refl
or_right false b e = e

-- what `if !f(..)` tells of the test that f computes
pub tested_no : {a b : Bool} → a ≡ b → not a ≡ true → b ≡ false
tested_no e n = sym e ∙ not-true _ n

pub tested_yes : {a b : Bool} → a ≡ b → not a ≡ false → b ≡ true
tested_yes e n = sym e ∙ not-false _ n

-- ---- all tests of a list

-- that every test of a list passes, as a product of equations
abbrev pub Passed : List Bool → Type 0
Passed [] = Unit {0}
Passed (b ∷ bs) = (b ≡ true) × Passed bs

pub all-passed : (l : List Bool) → Passed l → all l ≡ true
unfolding all
all-passed [] w = refl
all-passed (b ∷ bs) w = rw (w.0, all-passed bs w.1)

pub passed : (l : List Bool) → all l ≡ true → Passed l
unfolding all
passed [] e = tt
passed (true ∷ bs) e = (refl, passed bs e)
passed (false ∷ bs) e = absurd (false≢true e)

pub all_one : (b : Bool) → all (b ∷ []) ≡ b
unfolding all
all_one true = refl
all_one false = refl

pub all_cons : (b : Bool) (bs : List Bool) → all (b ∷ bs) ≡ b && all bs
unfolding all
all_cons true bs = refl
all_cons false bs = refl

pub all_append : (a b : List Bool) → all (a ++ b) ≡ all a && all b
unfolding all
all_append [] b = refl
all_append (true ∷ a) b = all_append a b
all_append (false ∷ a) b = refl

-- ---- chunks

pub chunks-none : {A : Type 0} (f : ℕ → List A) → chunks 0 f ≡ []
unfolding chunks
chunks-none f = refl

pub chunks_more : {A : Type 0} (n : ℕ) (f : ℕ → List A) → chunks (n + 1) f ≡ chunks n f ++ f n
unfolding chunks
chunks_more n f = rw add-one

-- what holds of each chunk holds of all: chunks that agree are the same
pub chunks_ext : {A : Type 0} (n : ℕ) (f g : ℕ → List A) → ((i : ℕ) → i < n → f i ≡ g i) → chunks n f ≡ chunks n g
unfolding chunks
chunks_ext zero f g e = refl
chunks_ext (suc n) f g e = rw (chunks_ext n f g (λ i h. e i (omega arith)), e n (omega arith))

-- in two parts
pub chunks_add : {A : Type 0} (n m : ℕ) (f : ℕ → List A) → chunks (n + m) f ≡ chunks n f ++ chunks m (λ i. f (n + i))
unfolding chunks
chunks_add n zero f = rw (add-zero, append-nil)
chunks_add n (suc m) f = rw (add-suc, chunks, chunks_add n m f, append_assoc)

-- chunks of one length, of at most one
pub length-chunks : {A : Type 0} (m n : ℕ) (f : ℕ → List A) → ((i : ℕ) → length (f i) ≡ m) → length (chunks n f) ≡ n * m
unfolding chunks
length-chunks m zero f h = sym (zero-mul m)
length-chunks m (suc n) f h = rw length-append (rw (h n, length-chunks m n f h, suc-mul))

pub length-chunks_le : {A : Type 0} (m n : ℕ) (f : ℕ → List A) → ((i : ℕ) → length (f i) ≤ m) → length (chunks n f) ≤ n * m
unfolding chunks
length-chunks_le m zero f h = zero-le
length-chunks_le m (suc n) f h = rw (length-append, suc-mul) (omega (arith, h n, length-chunks_le m n f h))

-- fewer chunks are not longer, and what is left of the room for all is room for the next
pub chunks-below : {A : Type 0} (n m : ℕ) (f : ℕ → List A) → n ≤ m → length (chunks n f) ≤ length (chunks m f)
chunks-below n m f h =
    let e : n + (m - n) ≡ m = omega arith in
    omega (arith, ap (λ (k : ℕ). length (chunks k f)) e, ap length (chunks_add n (m - n) f), length-append (chunks n f) (chunks (m - n) (λ i. f (n + i))))

pub chunk_room : {A : Type 0} (k n : ℕ) (f : ℕ → List A) → k < n → length (chunks k f) + length (f k) ≤ length (chunks n f)
chunk_room k n f h =
    omega (arith, ap length (chunks_more k f), length-append (chunks k f) (f k), chunks-below (k + 1) n f (omega arith))

-- the chunks' lengths add up
pub length-chunks-sum : {A : Type 0} (n : ℕ) (f : ℕ → List A) → length (chunks n f) ≡ sum (λ i. length (f i)) 0 n
unfolding chunks sum
length-chunks-sum zero f = refl
length-chunks-sum (suc n) f = rw (length-append, length-chunks-sum n f, zero-add)

-- element j of chunk i
pub get_d_chunks : {A : Type 0} (n : ℕ) (f : ℕ → List A) (d : A) (i j : ℕ) → i < n → j < length (f i)
    → get_or (chunks n f) (length (chunks i f) + j) d ≡ get_or (f i) j d
get_d_chunks {A} n f d i j h l =
    let e : (i + 1) + (n - (i + 1)) ≡ n = omega arith in
    let split : chunks n f ≡ chunks i f ++ (f i ++ chunks (n - (i + 1)) (λ k. f (i + 1 + k))) =
    ap (λ (k : ℕ). chunks k f) (sym e) ∙ chunks_add (i + 1) (n - (i + 1)) f ∙ rw (chunks_more, append_assoc) in
    ap (λ (l : List A). get_or l (length (chunks i f) + j) d) split
    ∙ get_or-append-add (chunks i f) _ j d
    ∙ get_or-append (f i) _ d j l

-- chunks of one element each
pub length_ones : {A : Type 0} (n : ℕ) (f : ℕ → A) → length (chunks n (λ i. f i ∷ [])) ≡ n
length_ones n f = length-chunks 1 n (λ i. f i ∷ []) (λ i. refl) ∙ omega arith

pub get_d_ones : {A : Type 0} (n : ℕ) (f : ℕ → A) (d : A) (i : ℕ) → i < n → get_or (chunks n (λ i. f i ∷ [])) i d ≡ f i
get_d_ones n f d i h =
    let e : i ≡ length (chunks i (λ i. f i ∷ [])) + 0 = omega (arith, length_ones i f) in
    ap (λ (k : ℕ). get_or (chunks n (λ i. f i ∷ [])) k d) e ∙ get_d_chunks n (λ i. f i ∷ []) d i 0 h (omega arith)

-- one test computed over a whole list, that its image is g 0, g 1, .., gives the rule at each element
pub image_at : {A B : Type 0} (f : A → B) (xs : List A) (n : ℕ) (g : ℕ → B) (d : A) → map f xs ≡ chunks n (λ i. g i ∷ [])
    → (i : ℕ) → i < n → f (get_or xs i d) ≡ g i
image_at {B = B} f xs n g d e i h =
    sym (get_or-map f xs i d) ∙ ap (λ (l : List B). get_or l i (f d)) e ∙ get_d_ones n g (f d) i h

-- tests made chunk by chunk
pub all-chunks : (n : ℕ) (f : ℕ → List Bool) → all (chunks n f) ≡ true → (i : ℕ) → i < n → all (f i) ≡ true
unfolding chunks
all-chunks zero f e i h = absurd (omega arith)
all-chunks (suc n) f e i h =
    let s = sym (all_append (chunks n f) (f n)) ∙ e in
    by_cases (eqb i n)
    (λ q. rw (eqb-true i n q) (and_right (all (chunks n f)) _ s))
    (λ q. all-chunks n f (and_left (all (chunks n f)) _ s) i (omega (arith, eqb-false i n q)))

pub chunks-all : (n : ℕ) (f : ℕ → List Bool) → ((i : ℕ) → i < n → all (f i) ≡ true) → all (chunks n f) ≡ true
unfolding chunks all
chunks-all zero f h = refl
chunks-all (suc n) f h =
    all_append (chunks n f) (f n) ∙ and_intro (chunks-all n f (λ i l. h i (omega arith))) (h n (omega arith))

-- tests in chunks of one
pub ones_at : (n : ℕ) (f : ℕ → Bool) → all (chunks n (λ i. f i ∷ [])) ≡ true → (i : ℕ) → i < n → f i ≡ true
ones_at n f e i h = sym (all_one (f i)) ∙ all-chunks n (λ i. f i ∷ []) e i h

pub ones_all : (n : ℕ) (f : ℕ → Bool) → ((i : ℕ) → i < n → f i ≡ true) → all (chunks n (λ i. f i ∷ [])) ≡ true
ones_all n f h = chunks-all n (λ i. f i ∷ []) (λ i l. all_one (f i) ∙ h i l)

-- ---- sums

pub sum_more : (g : ℕ → ℕ) (a n : ℕ) → sum g a (n + 1) ≡ sum g a n + g (a + n)
unfolding sum
sum_more g a n = rw add-one

-- from 0 on
pub sum-none : (g : ℕ → ℕ) → sum g 0 0 ≡ 0
unfolding sum
sum-none g = refl

pub sum-next : (g : ℕ → ℕ) (n : ℕ) → sum g 0 (n + 1) ≡ sum g 0 n + g n
sum-next g n = sum_more g 0 n ∙ ap (λ (k : ℕ). sum g 0 n + g k) (zero-add n)

pub ruleset summing = (sum-none, sum-next)

pub sum_ext : (g h : ℕ → ℕ) (a n : ℕ) → ((i : ℕ) → a ≤ i → i < a + n → g i ≡ h i) → sum g a n ≡ sum h a n
unfolding sum
sum_ext g h a zero e = refl
sum_ext g h a (suc n) e = rw (sum_ext g h a n (λ i l u. e i l (omega arith)), e (a + n) (omega arith) (omega arith))

pub sum_add : (g : ℕ → ℕ) (a n m : ℕ) → sum g a (n + m) ≡ sum g a n + sum g (a + n) m
unfolding sum
sum_add g a n zero = rw (add-zero, add-zero)
sum_add g a n (suc m) = rw (add-suc, sum, sum_add g a n m, add_assoc a n m) (omega arith)

-- all alike
pub sum_same : (g : ℕ → ℕ) (a n c : ℕ) → ((i : ℕ) → a ≤ i → i < a + n → g i ≡ c) → sum g a n ≡ n * c
unfolding sum
sum_same g a zero c e = sym (zero-mul c)
sum_same g a (suc n) c e = rw (sum_same g a n c (λ i l u. e i l (omega arith)), e (a + n) (omega arith) (omega arith), suc-mul)

pub sum_le : (g : ℕ → ℕ) (a n c : ℕ) → ((i : ℕ) → a ≤ i → i < a + n → g i ≤ c) → sum g a n ≤ n * c
unfolding sum
sum_le g a zero c e = zero-le
sum_le g a (suc n) c e =
    rw suc-mul (omega (arith, sum_le g a n c (λ i l u. e i l (omega arith)), e (a + n) (omega arith) (omega arith)))

-- more numbers sum to no less
pub sum_below : (g : ℕ → ℕ) (a n m : ℕ) → n ≤ m → sum g a n ≤ sum g a m
sum_below g a n m h =
    let e : n + (m - n) ≡ m = omega arith in
    omega (arith, ap (λ (k : ℕ). sum g a k) e, sum_add g a n (m - n))

-- ---- the last start at or below a number

pub last_below : (start : ℕ → ℕ) (n x : ℕ) → 0 < n → last_start start n x < n
unfolding last_start
last_below start zero x h = absurd (omega arith)
last_below start (suc n) x h =
    by_cases (leb (start n) x)
    (λ e. rw e (omega arith))
    (λ e. rw e (by_cases (eqb n 0) (λ z. rw (eqb-true n 0 z) (omega arith)) (λ z. omega (arith, last_below start n x (omega (arith, eqb-false n 0 z))))))

-- k is the last whose start is at or below x
pub last_is : (start : ℕ → ℕ) (n x k : ℕ) → k < n → start k ≤ x → ((i : ℕ) → k < i → i < n → x < start i) → last_start start n x ≡ k
unfolding last_start
last_is start zero x k h a b = absurd (omega arith)
last_is start (suc n) x k h a b =
    by_cases (eqb k n)
    (λ e. let q = eqb-true k n e in rw (← q, le-leb (start k) x a))
    (λ e.
    let l : k < n = omega (arith, eqb-false k n e) in
    rw (lt-leb (start n) x (b n l (omega arith))) (last_is start n x k l a (λ i u v. b i u (omega arith))))

-- what it gives starts at or below x, where the first does, and the next starts above
pub last_starts : (start : ℕ → ℕ) (n x : ℕ) → 0 < n → start 0 ≤ x → start (last_start start n x) ≤ x
unfolding last_start
last_starts start zero x h z = absurd (omega arith)
last_starts start (suc n) x h z =
    by_cases (leb (start n) x)
    (λ e. rw e (leb-true (start n) x e))
    (λ e.
    rw e
    (by_cases (eqb n 0)
    (λ q. let w = leb-false (start n) x e in absurd (omega (arith, ap start (eqb-true n 0 q))))
    (λ q. last_starts start n x (omega (arith, eqb-false n 0 q)) z)))

pub last_next : (start : ℕ → ℕ) (n x : ℕ) (i : ℕ) → last_start start n x < i → i < n → x < start i
unfolding last_start
last_next start zero x i h l = absurd (omega arith)
last_next start (suc n) x i h l =
    by_cases (leb (start n) x)
    (λ e. let w = rw e at h in absurd (omega arith))
    (λ e.
    by_cases (eqb i n)
    (λ q. rw (eqb-true i n q) (leb-false (start n) x e))
    (λ q. last_next start n x i (rw e at h) (omega (arith, eqb-false i n q))))

-- ---- chunks and sums in parts that follow one another from 0, and sums of numbers alike but for one

-- the first a chunks, then those up to b
pub chunks_upto : {A : Type 0} (a b : ℕ) (g : ℕ → List A) → a ≤ b → chunks a g ++ chunks (b - a) (λ k. g (a + k)) ≡ chunks b g
chunks_upto a b g h =
    let e : a + (b - a) ≡ b = omega arith in
    sym (chunks_add a (b - a) g) ∙ ap (λ (k : ℕ). chunks k g) e

pub sum_upto : (g : ℕ → ℕ) (a b : ℕ) → a ≤ b → sum g 0 a + sum g a (b - a) ≡ sum g 0 b
sum_upto g a b h =
    let e : a + (b - a) ≡ b = omega arith in
    omega (arith, sum_add g 0 a (b - a), ap (λ (k : ℕ). sum g 0 k) e, ap (λ (k : ℕ). sum g k (b - a)) (zero-add a))

-- counted from 0
pub sum_shift : (g : ℕ → ℕ) (a n : ℕ) → sum g a n ≡ sum (λ k. g (a + k)) 0 n
unfolding sum
sum_shift g a zero = refl
sum_shift g a (suc n) = rw (sum_shift g a n, zero-add n)

module _ (start end : ℕ → ℕ) (zeroth : start 0 ≡ 0) where
  pub chunks-parts : {A : Type 0} (g : ℕ → List A) (n : ℕ) → ((i : ℕ) → i ≤ n → start i ≤ end i)
      → ((i : ℕ) → i < n → end i ≡ start (i + 1))
      → chunks (n + 1) (λ i. chunks (end i - start i) (λ k. g (start i + k))) ≡ chunks (end n) g
  unfolding chunks
  chunks-parts g zero up next =
      ap (λ (a : ℕ). chunks a g ++ chunks (end 0 - start 0) (λ k. g (start 0 + k))) (sym zeroth)
      ∙ chunks_upto (start 0) (end 0) g (up 0 (omega arith))
  chunks-parts g (suc n) up next =
      let before = rw add-one at (chunks-parts g n (λ i l. up i (omega arith)) (λ i l. next i (omega arith))) in
      let e : end n ≡ start (suc n) = rw add-one at (next n (omega arith)) in
      rw (add-one, chunks, before, e) (chunks_upto (start (suc n)) (end (suc n)) g (up (suc n) (omega arith)))

  pub sum-parts : (g : ℕ → ℕ) (n : ℕ) → ((i : ℕ) → i ≤ n → start i ≤ end i)
      → ((i : ℕ) → i < n → end i ≡ start (i + 1))
      → sum (λ i. sum g (start i) (end i - start i)) 0 (n + 1) ≡ sum g 0 (end n)
  unfolding sum
  sum-parts g zero up next =
      ap (λ (a : ℕ). sum g 0 a + sum g (start 0) (end 0 - start 0)) (sym zeroth) ∙ sum_upto g (start 0) (end 0) (up 0 (omega arith))
  sum-parts g (suc n) up next =
      let before = rw add-one at (sum-parts g n (λ i l. up i (omega arith)) (λ i l. next i (omega arith))) in
      let e : end n ≡ start (suc n) = rw add-one at (next n (omega arith)) in
      rw (add-one, sum, before, e)
      (ap (λ (j : ℕ). sum g 0 (start (suc n)) + sum g (start j) (end j - start j)) (zero-add (suc n))
      ∙ sum_upto g (start (suc n)) (end (suc n)) (up (suc n) (omega arith)))

-- every number is c, but that of m
pub sum_but_one : (g : ℕ → ℕ) (a n c m : ℕ) → a ≤ m → m < a + n
    → ((i : ℕ) → a ≤ i → i < a + n → (i ≡ m → ⊥) → g i ≡ c) → sum g a n ≡ (n - 1) * c + g m
sum_but_one g a n c m l u e =
    let p : (m - a) + 1 + (n - (m - a) - 1) ≡ n = omega arith in
    let q : (m - a) + (n - (m - a) - 1) ≡ n - 1 = omega arith in
    let front = sum_same g a (m - a) c (λ i v w. e i v (omega arith) (omega arith)) in
    let back = sum_same g (a + ((m - a) + 1)) (n - (m - a) - 1) c (λ i v w. e i (omega arith) (omega arith) (omega arith)) in
    let r : a + (m - a) ≡ m = omega arith in
    omega (
      arith,
      ap (λ (k : ℕ). sum g a k) p,
      sum_add g a ((m - a) + 1) (n - (m - a) - 1),
      sum_more g a (m - a),
      ap g r,
      ap (λ (k : ℕ). k * c) q,
      add-mul (m - a) (n - (m - a) - 1) c,
    )

-- ---- what the code's types tell

-- a product of two numbers of 16 bits
pub product_fits : (a b : ℕ) → a ≤ 65535 → b ≤ 65535 → a * b ≤ 4294836225
product_fits a b h k = le_trans (mul-le-mul h k) (omega arith)

-- what owning an array of structs tells of its length
pub length_unmapped : {A B : Type 0} (f : A → B) (l : List A) (n : ℕ) → length (map f l) ≡ n → length l ≡ n
length_unmapped f l n e = sym (length-map l f) ∙ e

-- ---- a loop that looks for the last start, from the end

module _ (start : ℕ → ℕ) (x : ℕ) where
  last_step : (i : ℕ) → 0 < i → last_start start i x ≡ cond (leb (start (i - 1)) x) (i - 1) (last_start start (i - 1) x)
  unfolding last_start
  last_step zero h = absurd (omega arith)
  last_step (suc j) h = let e : suc j - 1 ≡ j = omega arith in rw e

  pub last_here : (i : ℕ) → 0 < i → start (i - 1) ≤ x → last_start start i x ≡ i - 1
  last_here i h k = last_step i h ∙ rw (le-leb (start (i - 1)) x k)

  pub last_down : (i : ℕ) → 0 < i → x < start (i - 1) → last_start start i x ≡ last_start start (i - 1) x
  last_down i h k = last_step i h ∙ rw (lt-leb (start (i - 1)) x k)

  pub last_none : (i : ℕ) → i ≤ 0 → last_start start i x ≡ 0
  unfolding last_start
  last_none zero h = refl
  last_none (suc i) h = absurd (omega arith)

pub ruleset starting = (last_here, last_down, last_none)

-- ---- a claim of each element

pub each_map : {A : Type 0} (P Q : A → Type 0) → ((x : A) → P x → Q x) → (xs : List A) → Each P xs → Each Q xs
each_map P Q f [] w = tt
each_map P Q f (x ∷ xs) w = (f x w.0, each_map P Q f xs w.1)

-- what holds of each element and of the default holds at every place
pub each_at : {A : Type 0} (P : A → Type 0) (xs : List A) (d : A) → Each P xs → P d → (i : ℕ) → P (get_or xs i d)
each_at P [] d a z i = z
each_at P (x ∷ xs) d a z zero = a.0
each_at P (x ∷ xs) d a z (suc i) = each_at P xs d a.1 z i

-- and at each place that the list has
pub each_inside : {A : Type 0} (P : A → Type 0) (xs : List A) (d : A) → Each P xs → (i : ℕ) → i < length xs → P (get_or xs i d)
each_inside P [] d a i h = absurd (omega arith)
each_inside P (x ∷ xs) d a zero h = a.0
each_inside P (x ∷ xs) d a (suc i) h = each_inside P xs d a.1 i (omega arith)

pub each_places : {A : Type 0} (P : A → Type 0) (xs : List A) (d : A) → ((i : ℕ) → i < length xs → P (get_or xs i d)) → Each P xs
each_places P [] d f = tt
each_places P (x ∷ xs) d f = (f 0 (omega arith), each_places P xs d (λ i h. f (suc i) (omega arith)))

module _ {A : Type 0} (P : A → Type 0) where
  pub each_append : (a b : List A) → Each P a → Each P b → Each P (a ++ b)
  each_append [] b v w = w
  each_append (x ∷ a) b v w = (v.0, each_append a b v.1 w)

  pub each_left : (a b : List A) → Each P (a ++ b) → Each P a
  each_left [] b w = tt
  each_left (x ∷ a) b w = (w.0, each_left a b w.1)

  pub each_right : (a b : List A) → Each P (a ++ b) → Each P b
  each_right [] b w = w
  each_right (x ∷ a) b w = each_right a b w.1

  pub each_chunks : (n : ℕ) (f : ℕ → List A) → ((i : ℕ) → i < n → Each P (f i)) → Each P (chunks n f)
  unfolding chunks
  each_chunks zero f w = tt
  each_chunks (suc n) f w = each_append (chunks n f) (f n) (each_chunks n f (λ i l. w i (omega arith))) (w n (omega arith))

  pub each_chunk : (n : ℕ) (f : ℕ → List A) → Each P (chunks n f) → (i : ℕ) → i < n → Each P (f i)
  unfolding chunks
  each_chunk zero f w i l = absurd (omega arith)
  each_chunk (suc n) f w i l =
      by_cases (eqb i n)
      (λ q. rw (eqb-true i n q) (each_right (chunks n f) (f n) w))
      (λ q. each_chunk n f (each_left (chunks n f) (f n) w) i (omega (arith, eqb-false i n q)))

-- ---- the rest of a list

-- a part from a place on, which is at most the end, is the rest from there: past the end nothing is left
pub rest_dropped : (n m : ℕ) (s : List ℕ) → m ≡ min n (length s) → take (length s - m) (drop m s) ≡ drop n s
rest_dropped n m s e =
    take_all (length s - m) (drop m s) (simp length-drop (omega arith))
    ∙ by_cases (leb n (length s))
    (λ q. let h = leb-true n (length s) q in let k : m ≡ n = omega arith in rw k)
    (λ q.
    let h = leb-false n (length s) q in
    drop_of_length-le s {i = m} (omega arith) ∙ sym (drop_of_length-le s {i = n} (omega arith)))

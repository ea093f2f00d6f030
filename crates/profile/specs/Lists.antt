-- Lists made chunk by chunk, a claim of each element, tests under one `all`, numbers that differ, the least of a list, sums over a run of numbers, and the last start at or below a number.
-- Assumes nothing.
use Rattle.std.specs.Prelude.{ℕ, zero, suc, ◌+◌, min, List, [], ◌∷◌, ◌++◌, map, Bool, true, false, cond, not, ◌&&◌, leb, eqb, length, drop}

-- a claim of each element
abbrev pub Each : {A : Type 0} → (A → Type 0) → List A → Type 0
Each P [] = Unit {0}
Each P (x ∷ xs) = P x × Each P xs

-- whether every test of a list passes
unfoldable pub all : List Bool → Bool
all [] = true
all (b ∷ bs) = cond b (all bs) false

-- whether no number of a list stands in it twice
unfoldable pub distinct : List ℕ → Bool
distinct [] = true
distinct (x ∷ xs) = all (map (λ (y : ℕ). not (eqb x y)) xs) && distinct xs

-- the least number of a list; 0 of an empty one
unfoldable pub least : List ℕ → ℕ
least [] = 0
least (x ∷ []) = x
least (x ∷ y ∷ ys) = min x (least (y ∷ ys))

-- the chunks f 0, f 1, .., f (n - 1), one after the other
unfoldable pub chunks : {A : Type 0} → ℕ → (ℕ → List A) → List A
chunks zero f = []
chunks (suc n) f = chunks n f ++ f n

-- g a + g (a + 1) + .. + g (a + n - 1)
unfoldable pub sum : (ℕ → ℕ) → ℕ → ℕ → ℕ
sum g a zero = 0
sum g a (suc n) = sum g a n + g (a + n)

-- the last i below n whose start is at or below x; 0 where there is none
unfoldable pub last_start : (ℕ → ℕ) → ℕ → ℕ → ℕ
last_start start zero x = 0
last_start start (suc i) x = cond (leb (start i) x) i (last_start start i x)

-- new over the front of old: what is past it keeps what it held
abbrev pub over : {A : Type 0} → List A → List A → List A
over new old = new ++ drop (length new) old

-- The first number, and the next one, at which something holds.
-- Assumes nothing.
use Rattle.std.specs.Prelude.{ℕ, zero, suc, ◌-◌, Bool, false, cond, ◌||◌}

-- the first of n numbers from q on where f holds, else the number after them
unfoldable pub first_from : (ℕ → Bool) → ℕ → ℕ → ℕ
first_from f zero q = q
first_from f (suc n) q = cond (f q) q (first_from f n (suc q))

-- the first number after p and below end where f holds, else end; p is below end
unfoldable pub next : (ℕ → Bool) → ℕ → ℕ → ℕ
next f p end = first_from f (end - suc p) (suc p)

-- one of g 0 up to g (k - 1) holds
unfoldable pub any_of : ℕ → (ℕ → Bool) → Bool
any_of zero g = false
any_of (suc k) g = any_of k g || g k

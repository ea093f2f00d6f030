-- A list of known length is its elements, one by one: so the keys that `map` made of eighteen toggles are those that the definition writes out.
-- Assumes nothing.
use mathlib.Core.Path.{◌≡◌, refl}
use mathlib.Core.List.{List, [], ◌∷◌}
use Prim.Native.Nat.{ℕ, zero, suc, ◌<◌}
use native.Mathlib.Omega.{arith}
use lib.ListN.{length, get_or}
use Rattle.level.specs.Made.{keyed}

-- the list of f 0 up to f (n - 1)
abbrev listed : ℕ → (ℕ → ℕ) → List ℕ
listed zero f = []
listed (suc n) f = f 0 ∷ listed n (λ k. f (suc k))

listed_of : (n : ℕ) (f : ℕ → ℕ) (ys : List ℕ) → length ys ≡ n → ((i : ℕ) → i < n → get_or ys i 0 ≡ f i) → ys ≡ listed n f
listed_of zero f [] l e = refl
listed_of zero f (y ∷ ys) l e = absurd (omega arith)
listed_of (suc n) f [] l e = absurd (omega arith)
listed_of (suc n) f (y ∷ ys) l e = λ i. e 0 (omega arith) i ∷ listed_of n (λ k. f (suc k)) ys (omega arith) (λ k h. e (suc k) (omega arith)) i

pub keyed_of : (key : ℕ → ℕ) (t : List ℕ) {ys : List ℕ} → length ys ≡ 18 → ((i : ℕ) → i < 18 → get_or ys i 0 ≡ key (get_or t i 0)) → ys ≡ keyed key t
keyed_of key t {ys} l e = listed_of 18 (λ k. key (get_or t k 0)) ys l e

-- A list rebuilt element by element over another: the first n are the new ones, the rest still the old.
-- Storing the next, or finding it already the same, goes one further, so no list is ever written out.
-- Assumes nothing.
use mathlib.Core.Path.{◌≡◌, refl, sym, ap}
use mathlib.Core.List.{List, [], ◌∷◌, ◌++◌, append-nil}
use Prim.Native.Nat.{ℕ, zero, suc, ◌+◌, ◌<◌}
use native.Mathlib.Nat.{not-suc-le-zero}
use native.Mathlib.Numerals.{add-one, add-two}
use native.Mathlib.Omega.{arith}
use lib.ListN.{length, get_or, take, drop, set, drop_of_length-le}
use lib.Seq.{take_all}

module _ {A : Type 0} where
  -- the first n of h, and the others of z
  abbrev pub mix : ℕ → List A → List A → List A
  mix n h z = take n h ++ drop n z

  pub mix-set : (n : ℕ) (h z : List A) (d : A) → length h ≡ length z → n < length h → set (mix n h z) n (get_or h n d) ≡ mix (suc n) h z
  mix-set n [] z d e l = absurd (not-suc-le-zero l)
  mix-set n (x ∷ h) [] d e l = absurd (omega arith)
  mix-set zero (x ∷ h) (y ∷ z) d e l = refl
  mix-set (suc n) (x ∷ h) (y ∷ z) d e l = ap (λ (r : List A). x ∷ r) (mix-set n h z d (omega arith) (omega arith))

  -- two at a time
  pub mix-pair : (n : ℕ) (h z : List A) (d : A) → length h ≡ length z → n + 1 < length h
      → set (set (mix n h z) n (get_or h n d)) (n + 1) (get_or h (n + 1) d) ≡ mix (n + 2) h z
  mix-pair n h z d e l = rw (mix-set n h z d e (omega arith), add-one, mix-set (suc n) h z d e (omega arith), add-two)

  pub mix_same : (n : ℕ) (h z : List A) (d : A) → length h ≡ length z → n < length h → get_or h n d ≡ get_or z n d
      → mix n h z ≡ mix (suc n) h z
  mix_same n [] z d e l s = absurd (not-suc-le-zero l)
  mix_same n (x ∷ h) [] d e l s = absurd (omega arith)
  mix_same zero (x ∷ h) (y ∷ z) d e l s = ap (λ (v : A). v ∷ z) (sym s)
  mix_same (suc n) (x ∷ h) (y ∷ z) d e l s = ap (λ (r : List A). x ∷ r) (mix_same n h z d (omega arith) (omega arith) s)

  pub mix_all : (n : ℕ) (h z : List A) → length h ≡ n → length z ≡ n → mix n h z ≡ h
  mix_all n h z a b = rw (take_all n h (omega arith), drop_of_length-le z {i = n} (omega arith), append-nil)

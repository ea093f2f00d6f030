-- A list that an index tells, entry by entry, is the chunks of one; tests of the numbers below n are tests under one `all`.
-- Assumes nothing.
use Prim.Native.Nat.{ℕ, zero, suc, ◌+◌, ◌≤◌, ◌<◌}
use native.Mathlib.Nat.{zero-add}
use native.Mathlib.Numerals.{add-one}
use native.Mathlib.Omega.{arith}
use mathlib.Core.Path.{◌≡◌, refl, sym, ap, ◌∙◌}
use mathlib.Core.Bool.{Bool, ◌&&◌}
use mathlib.Core.List.{List, [], ◌∷◌, ◌++◌, map}
use lib.Dec.{eqb}
use lib.ListN.{length, get_or}
use borrow.Author.Tests.{eqb-true, eqb-false}
use denote.Param.Members.{Mut}
use Rattle.std.specs.Fn.{Called}
use Rattle.std.specs.Array.{IsFromFnResult, IsFromFnResultFrom}
use Rattle.std.specs.List.{list_all, range_with_len}
use Rattle.std.proofs.lemmas.List.FromFn.{map-range_with_len_more, fill_by_all}
use Rattle.profile.specs.Lists.{all, chunks}
use Rattle.profile.proofs.Laws.{by_cases, all_cons}

ones_range : {A : Type 0} (f : ℕ → A) (n : ℕ) → chunks n (λ i. f i ∷ []) ≡ map f (range_with_len 0 n)
unfolding chunks
ones_range f zero = refl
ones_range f (suc n) =
    let more : map f (range_with_len 0 (n + 1)) ≡ map f (range_with_len 0 n) ++ f n ∷ [] = map-range_with_len_more f 0 n n (zero-add n) in
    rw (ones_range f n) (sym (rw add-one at more))

pub listed : (f : ℕ → ℕ) {xs : List ℕ} {n : ℕ} → length xs ≡ n → ((k : ℕ) → k < n → get_or xs k 0 ≡ f k) → xs ≡ chunks n (λ i. f i ∷ [])
listed f {xs} {n} long each = fill_by_all f xs n 0 long each ∙ sym (ones_range f n)

-- an array made by calls at each number: each element is what a call at its number gives
module _ {F B : Type 0} (g : Mut F (ℕ × Unit {0}) B) (h : ℕ → B) (f : F) (tells : (k : ℕ) (y : B) (q : F) → Called g f (k, tt) y q → (q ≡ f) × (y ≡ h k)) where
  each_made : (ys : List B) (d : B) (i n : ℕ) → IsFromFnResultFrom g f ys i n → (k : ℕ) → i ≤ k → k < i + n → get_or ys k d ≡ h k
  each_made ys d i zero m k l u = absurd (omega arith)
  each_made ys d i (suc n) m k l u =
      let t = tells i m.1 m.0 m.3 in
      by_cases (eqb i k)
      (λ e. let same : i ≡ k = eqb-true i k e in rw (← same) (m.2.1 d ∙ t.1))
      (λ e.
      let other : i ≡ k → ⊥ = eqb-false i k e in
      each_made ys d (i + 1) n (rw t.0 at m.4) k (omega arith) (omega arith))

  pub made : (d : B) {ys : List B} {n : ℕ} → IsFromFnResult g f ys n → ys ≡ map h (range_with_len 0 n)
  made d {ys} {n} m = fill_by_all h ys n d m.long (λ k u. each_made ys d 0 n m.each k (omega arith) (omega arith))

  pub made_ones : (d : B) {ys : List B} {n : ℕ} → IsFromFnResult g f ys n → ys ≡ chunks n (λ i. h i ∷ [])
  made_ones d {ys} {n} m = made d m ∙ sym (ones_range h n)

all_map : {A : Type 0} (test : A → Bool) (xs : List A) → list_all test xs ≡ all (map test xs)
unfolding all
all_map test [] = refl
all_map test (x ∷ xs) = ap (λ (b : Bool). test x && b) (all_map test xs) ∙ sym (all_cons (test x) (map test xs))

pub all_below : (test : ℕ → Bool) (n : ℕ) → list_all test (range_with_len 0 n) ≡ all (chunks n (λ i. test i ∷ []))
all_below test n = all_map test _ ∙ ap all (sym (ones_range test n))

-- Tests joined by `&`, as code joins them, are the tests of a list; `all` of an iterator.
-- Assumes nothing.
use mathlib.Core.Path.{◌≡◌, refl, sym, ap, ◌∙◌}
use mathlib.Core.Bool.{Bool, true, false, ◌&&◌}
use mathlib.Core.List.{List, [], ◌∷◌, ◌++◌, map}
use Prim.Native.Nat.{ℕ, zero, suc, ◌+◌, ◌≤◌, ◌<◌}
use native.Mathlib.Nat.{zero-add}
use native.Mathlib.Omega.{arith}
use native.Mathlib.Numerals.{add-one}
use lib.ListN.{length, length-map, get_or, get_or-map}
use Rattle.std.specs.List.{list_all, range_with_len}
use Rattle.std.proofs.lemmas.List.FromFn.{map-range_with_len_more, fill_by_all}
use Rattle.profile.specs.Lists.{all, chunks}
use Rattle.profile.proofs.Laws.{all_one, all_cons, all_append, chunks_more}

-- a & b & c & ..
abbrev pub joined : Bool → List Bool → Bool
joined a [] = a
joined a (b ∷ bs) = joined (a && b) bs

pub joined-all : (a : Bool) (bs : List Bool) → joined a bs ≡ all (a ∷ bs)
unfolding all
joined-all a [] = sym (all_one a)
joined-all true (b ∷ bs) = joined-all b bs
joined-all false (b ∷ bs) = joined-all false bs

pub and_regroup : (a b c : Bool) → a && (b && c) ≡ (a && b) && c
and_regroup true b c = refl
and_regroup false b c = refl

-- ---- `all` of an iterator, as the tests of its items

all_map : {A : Type 0} (test : A → Bool) (xs : List A) → list_all test xs ≡ all (map test xs)
unfolding all
all_map test [] = refl
all_map test (x ∷ xs) = ap (λ (b : Bool). test x && b) (all_map test xs) ∙ sym (all_cons (test x) (map test xs))

ones_range : {A : Type 0} (f : ℕ → A) (n : ℕ) → chunks n (λ i. f i ∷ []) ≡ map f (range_with_len 0 n)
unfolding chunks
ones_range f zero = refl
ones_range f (suc n) =
    let more : map f (range_with_len 0 (n + 1)) ≡ map f (range_with_len 0 n) ++ f n ∷ [] = map-range_with_len_more f 0 n n (zero-add n) in
    rw (ones_range f n) (sym (rw add-one at more))

-- of the numbers below n
pub all-below : (test : ℕ → Bool) (n : ℕ) → list_all test (range_with_len 0 n) ≡ all (chunks n (λ i. test i ∷ []))
all-below test n = all_map test _ ∙ ap all (sym (ones_range test n))

-- of the items of a list
pub all-items : {A : Type 0} (test : A → Bool) (d : A) (xs : List A) {n : ℕ} → length xs ≡ n
    → list_all test xs ≡ all (chunks n (λ i. test (get_or xs i d) ∷ []))
all-items test d xs {n} h = all_map test xs ∙ ap all (fill_by_all _ (map test xs) n (test d) (length-map xs test ∙ h) (λ k u. get_or-map test xs k d) ∙ sym (ones_range (λ i. test (get_or xs i d)) n))

-- ---- a loop that joins one test a turn

-- a loop over n lists of tests that has joined the first i
pub record Joined (n : ℕ) (f : ℕ → List Bool) (right : Bool) (i : ℕ) : Type 0 where
  pub most : i ≤ n
  pub so_far : right ≡ all (chunks i f)

pub joined-start : {n : ℕ} {f : ℕ → List Bool} → Joined n f true 0
unfolding all chunks
joined-start = record { most = omega arith; so_far = refl }

module _ {n i : ℕ} {f : ℕ → List Bool} {right : Bool} (j : Joined n f right i) where
  pub joined-next : {b : Bool} → i < n → b ∷ [] ≡ f i → Joined n f (right && b) (i + 1)
  joined-next h e = record { most = omega arith; so_far = rw (j.so_far, chunks_more, all_append, ← e, all_one) }

  pub joined_end : n ≤ i → right ≡ all (chunks n f)
  joined_end h = let e : i ≡ n = omega arith in rw e at j.so_far

pub ruleset joining = (joined-start, joined-next, joined_end)

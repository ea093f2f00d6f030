-- Patterns and toggles as the code reads them: a pattern is put together half register by half register, and the highest toggle is found output by
-- output.
-- Assumes nothing.
use Prim.Native.Nat.{ℕ, ◌+◌, ◌≤◌, ◌<◌, max}
use native.Mathlib.Numerals.{add-one}
use native.Mathlib.Omega.{arith}
use mathlib.Core.Path.{◌≡◌, refl, sym, ap, ◌∙◌}
use mathlib.Core.List.{List, []}
use borrow.Author.Tests.{eq-eqb, ne_eqb, eqb-true, eqb-false}
use lib.Dec.{eqb}
use lib.ListN.{get_or}
use Rattle.std.specs.Prelude.{Some, None}
use Rattle.profile.specs.Lists.{chunks}
use Rattle.profile.specs.Layout.{half_pattern, pattern_named, part_named, Follows}
use Rattle.profile.specs.Patterns.{empty_pattern, with_part, pattern_up_to, pattern_of, row_of, rows_of, fault_named, highest_in, highest_used}
use Rattle.profile.specs.declared.layout.Part.{Part}
use Rattle.profile.specs.declared.Pattern.{Pattern}
use Rattle.profile.proofs.Laws.{get_d_ones, by_cases}

pub highest_none : (row : ℕ → List ℕ) → highest_used row 0 ≡ 0
unfolding highest_used
highest_none row = refl

pub highest_more : (row : ℕ → List ℕ) (n : ℕ) → highest_used row (n + 1) ≡ max (highest_used row n) (highest_in (row n))
unfolding highest_used
highest_more row n = rw add-one

-- a fault as code answers it
pub fault_some : (fault : ℕ) {toggle : ℕ} → Some toggle ≡ fault_named fault → (toggle ≡ fault) × (toggle ≡ 0 → ⊥)
fault_some fault {toggle} e =
    by_cases (eqb fault 0)
    (λ u. let n = rw u at e in (cc, λ z. cc))
    (λ u. let s = rw u at e in let t : toggle ≡ fault = cc in (t, λ z. eqb-false fault 0 u (sym t ∙ z)))

pub fault_none : (fault : ℕ) → None ≡ fault_named fault → fault ≡ 0
fault_none fault e = by_cases (eqb fault 0) (λ u. eqb-true fault 0 u) (λ u. let s = rw u at e in cc)

-- row k of the six
pub row_at : (l : List ℕ) (k : ℕ) → k < 6 → get_or (rows_of l) k [] ≡ row_of l k
unfolding chunks
row_at l k h = get_d_ones 6 (row_of l) [] k h

-- of the six rows
pub highest_rows : (l : List ℕ) → highest_used (λ k. get_or (rows_of l) k []) 6 ≡ highest_used (row_of l) 6
unfolding highest_used
highest_rows l = refl

-- a pattern half register by half register, by a table that follows the layout
pub pattern-first : (l : List ℕ) (k : ℕ) → empty_pattern ≡ pattern_up_to l k 0
unfolding pattern_up_to
pattern-first l k = refl

module _ (l table : List ℕ) (k n : ℕ) {a b : Pattern} {named : ℕ} (f : Follows table) (h : n < 240) (e : a ≡ pattern_up_to l k n)
    (m : named ≡ pattern_named (get_or table n 0)) where
  -- a half register of pattern k goes into its part
  pub pattern-part : {part : Part} → named ≡ k → part ≡ part_named (get_or table n 0) → b ≡ with_part part (get_or l n 0) a
      → b ≡ pattern_up_to l k (n + 1)
  unfolding pattern_up_to
  pattern-part u v s = s ∙ rw (v ∙ f.part n h, e, add-one, eq-eqb (half_pattern n) k (sym (m ∙ f.pattern n h) ∙ u))

  -- another leaves it
  pub pattern-other : (named ≡ k → ⊥) → b ≡ a → b ≡ pattern_up_to l k (n + 1)
  unfolding pattern_up_to
  pattern-other u s = s ∙ rw (e, add-one, ne_eqb (half_pattern n) k (λ z. u (m ∙ f.pattern n h ∙ z)))

pub pattern-all : (l : List ℕ) (k n : ℕ) {a : Pattern} → n ≤ 240 → 240 ≤ n → a ≡ pattern_up_to l k n → a ≡ pattern_of l k
unfolding pattern_of
pattern-all l k n u v e = let h : n ≡ 240 = omega arith in e ∙ ap (pattern_up_to l k) h

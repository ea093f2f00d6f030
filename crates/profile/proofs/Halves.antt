-- The layout of the half registers: what holds of a pattern's 24 parts is one test over their list, and a table's test, computed over all of its
-- entries, gives the rule at each. So a table that follows the layout has each part of each pattern exactly once.
-- Assumes nothing.
use Prim.Native.Nat.{ℕ, zero, suc, ◌+◌, ◌-◌, ◌*◌, ◌%◌, ◌≤◌, ◌<◌}
use native.Mathlib.Omega.{arith}
use native.Mathlib.Nat.{le_refl}
use mathlib.Core.Path.{◌≡◌, refl, sym, ap, ◌∙◌}
use mathlib.Core.Bool.{Bool, true, ◌&&◌}
use mathlib.Core.List.{List, [], ◌∷◌, map}
use lib.ListN.{length, length-map, get_or}
use lib.Dec.{leb}
use Rattle.profile.specs.Lists.{all, chunks}
use Rattle.profile.specs.Layout.{parts, half_pattern, half_part, IsPart, part_limit, pattern_named, part_named, Follows, EachOnce}
use Rattle.profile.specs.declared.layout.Part.{Part}
use Rattle.profile.specs.declared.layout.Part.TheVariants.{Levels, Length, Toggle, Freeze, Resume}
use Rattle.profile.proofs.Laws.{length_ones, image_at, each_at}
use Rattle.profile.proofs.Reflects.{Says, says_le, says_and, says_map}

-- ---- parts

-- whether a part is one that a pattern has
is_part : Part → Bool
is_part Levels = true
is_part Length = true
is_part (Toggle output toggle) = leb 1 output && leb output 6 && leb 1 toggle && leb toggle 3
is_part (Freeze pair) = leb 1 pair && leb pair 2
is_part (Resume pair) = leb 1 pair && leb pair 2

says_part : (part : Part) → Says (is_part part) (IsPart part)
unfolding is_part
says_part Levels = ((λ e. tt), λ w. refl)
says_part Length = ((λ e. tt), λ w. refl)
says_part (Toggle output toggle) =
    let w = says_and (says_and (says_and (says_le 1 output) (says_le output 6)) (says_le 1 toggle)) (says_le toggle 3) in
    ((λ e. let q = w.0 e in (q.0.0.0, q.0.0.1, q.0.1, q.1)), λ q. w.1 (((q.0, q.1), q.2), q.3))
says_part (Freeze pair) = says_and (says_le 1 pair) (says_le pair 2)
says_part (Resume pair) = says_and (says_le 1 pair) (says_le pair 2)

-- every half register holds one
pub part_is : (i : ℕ) → IsPart (half_part i)
unfolding half_part is_part all
part_is i = each_at IsPart parts Levels ((says_map is_part IsPart says_part parts).0 refl) tt (i % 24)

-- ---- limits

pub part_most : (part : Part) → part_limit part ≤ 4095
part_most Levels = omega arith
part_most Length = le_refl 4095
part_most (Toggle output toggle) = le_refl 4095
part_most (Freeze pair) = le_refl 4095
part_most (Resume pair) = le_refl 4095

-- ---- a table

-- what an entry names, and what half register i is
abbrev named : ℕ → ℕ × Part
named entry = (pattern_named entry, part_named entry)

abbrev held : ℕ → ℕ × Part
held i = (half_pattern i, half_part i)

-- one test over the whole table, of what its entries name, gives the rule at each
pub table_follows : (table : List ℕ) → map named table ≡ chunks 240 (λ i. held i ∷ []) → Follows table
table_follows table e =
    record {
      size = sym (length-map table named) ∙ ap length e ∙ length_ones 240 held;
      pattern = λ i h. ap (λ (x : ℕ × Part). x.0) (image_at named table 240 held 0 e i h);
      part = λ i h. ap (λ (x : ℕ × Part). x.1) (image_at named table 240 held 0 e i h);
    }

-- ---- one entry a part

-- where a part stands among a pattern's 24
offset : Part → ℕ
offset Levels = 0
offset Length = 1
offset (Toggle output toggle) = 3 * output + toggle - 2
offset (Freeze pair) = 2 * pair + 18
offset (Resume pair) = 2 * pair + 19

up_to_two : (P : ℕ → Type 0) → P 1 → P 2 → (n : ℕ) → 1 ≤ n → n ≤ 2 → P n
up_to_two P a b zero l h = absurd (omega arith)
up_to_two P a b (suc zero) l h = a
up_to_two P a b (suc (suc zero)) l h = b
up_to_two P a b (suc (suc (suc n))) l h = absurd (omega arith)

up_to_three : (P : ℕ → Type 0) → P 1 → P 2 → P 3 → (n : ℕ) → 1 ≤ n → n ≤ 3 → P n
up_to_three P a b c zero l h = absurd (omega arith)
up_to_three P a b c (suc zero) l h = a
up_to_three P a b c (suc (suc zero)) l h = b
up_to_three P a b c (suc (suc (suc zero))) l h = c
up_to_three P a b c (suc (suc (suc (suc n)))) l h = absurd (omega arith)

up_to-six : (P : ℕ → Type 0) → P 1 → P 2 → P 3 → P 4 → P 5 → P 6 → (n : ℕ) → 1 ≤ n → n ≤ 6 → P n
up_to-six P a b c d e f zero l h = absurd (omega arith)
up_to-six P a b c d e f (suc zero) l h = a
up_to-six P a b c d e f (suc (suc zero)) l h = b
up_to-six P a b c d e f (suc (suc (suc zero))) l h = c
up_to-six P a b c d e f (suc (suc (suc (suc n)))) l h = up_to_three (λ m. P (suc (suc (suc m)))) d e f (suc n) (omega arith) (omega arith)

-- a part stands where it is said to, and a pattern's part at j says j
part_at : (part : Part) → IsPart part → get_or parts (offset part) Levels ≡ part
unfolding offset
part_at Levels w = refl
part_at Length w = refl
part_at (Toggle output toggle) w =
    let row : (o : ℕ) → Type 0 = λ o. (j : ℕ) → 1 ≤ j → j ≤ 3 → get_or parts (3 * o + j - 2) Levels ≡ Toggle o j in
    up_to-six row (up_to_three _ refl refl refl) (up_to_three _ refl refl refl) (up_to_three _ refl refl refl) (up_to_three _ refl refl refl)
    (up_to_three _ refl refl refl) (up_to_three _ refl refl refl) output w.0 w.1 toggle w.2 w.3
part_at (Freeze pair) w = up_to_two (λ q. get_or parts (2 * q + 18) Levels ≡ Freeze q) refl refl pair w.0 w.1
part_at (Resume pair) w = up_to_two (λ q. get_or parts (2 * q + 19) Levels ≡ Resume q) refl refl pair w.0 w.1

offset_at : (j : ℕ) → j < 24 → offset (get_or parts j Levels) ≡ j
unfolding offset chunks
offset_at = image_at offset parts 24 (λ j. j) Levels refl

offset_below : (part : Part) → IsPart part → offset part < 24
unfolding offset
offset_below Levels w = omega arith
offset_below Length w = omega arith
offset_below (Toggle output toggle) w = omega (arith, w.0, w.1, w.2, w.3)
offset_below (Freeze pair) w = omega (arith, w.0, w.1)
offset_below (Resume pair) w = omega (arith, w.0, w.1)

-- half register 24k + j is j of pattern k, and no other is
module _ (k : ℕ) (part : Part) (w : IsPart part) where
  place : ℕ
  place = 24 * k + offset part

  placed_pattern : half_pattern place ≡ k
  unfolding half_pattern place
  placed_pattern = let h = offset_below part w in omega arith

  placed_part : half_part place ≡ part
  unfolding half_part place
  placed_part =
      let h = offset_below part w in
      let e : (24 * k + offset part) % 24 ≡ offset part = omega arith in
      ap (λ (j : ℕ). get_or parts j Levels) e ∙ part_at part w

  placed_only : (i : ℕ) → half_pattern i ≡ k → half_part i ≡ part → i ≡ place
  unfolding half_pattern half_part place
  placed_only i a b =
      let e : offset part ≡ i % 24 = ap offset (sym b) ∙ offset_at (i % 24) (omega arith) in
      omega arith

-- every part of every pattern has exactly one entry
pub one_entry : (table : List ℕ) → Follows table → EachOnce table
unfolding place
one_entry table f k h part w =
    let l : place k part w < 240 = omega (arith, offset_below part w) in
    record {
      at = place k part w;
      within = l;
      pattern = f.pattern _ l ∙ placed_pattern k part w;
      part = f.part _ l ∙ placed_part k part w;
      only = λ i m a b. placed_only k part w i (sym (f.pattern i m) ∙ a) (sym (f.part i m) ∙ b);
    }

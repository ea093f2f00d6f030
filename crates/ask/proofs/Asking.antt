-- Laws of a question's parts: where a byte stands first, and a number that is cut while it is read.
-- Assumes nothing.
use Prim.Native.Nat.{ℕ, ◌+◌, ◌*◌, ◌-◌, ◌≤◌, ◌<◌, min}
use native.Mathlib.Numerals.{add-one}
use native.Mathlib.Omega.{arith}
use mathlib.Core.Path.{◌≡◌, refl, sym, ap, ◌∙◌}
use mathlib.Core.List.{List, [], ◌∷◌, ◌++◌}
use lib.Dec.{eqb}
use lib.ListN.{length, get_or, take}
use lib.Seq.{take-suc}
use Rattle.std.specs.List.{position, position_or_len}
use Rattle.std.specs.Option.{unwrap_or}
use Rattle.std.proofs.Common.{Option}
use Rattle.std.proofs.lemmas.Bool.Decides.{nat_tests}
use Rattle.std.proofs.lemmas.List.Recursion.{is_position_or_len}
use Rattle.profile.proofs.Laws.{by_cases}
use Rattle.holdlist.specs.Text.{value_after, value_of}
use Rattle.ask.specs.Question.{end_of}

-- ---- where a byte stands first

pub end_inside : (c : ℕ) (s : List ℕ) → end_of c s ≤ length s
unfolding end_of
end_inside c [] = omega arith
end_inside c (x ∷ s) =
    by_cases (eqb x c) (λ q. rw q (omega arith)) (λ q. rw q (omega (arith, end_inside c s)))

pub end_first : (c : ℕ) (s : List ℕ) → end_of c s ≡ position_or_len (λ b. eqb b c) s
unfolding end_of
end_first c s = is_position_or_len (end_of c) (λ b. eqb b c) refl (λ _ _. refl) s

-- the place where the library finds it, or the length
pub end_found :
    (c : ℕ) (s : List ℕ) (r : Option ℕ) → r ≡ position (λ b. eqb b c) s → {n : ℕ} → n ≡ unwrap_or r (length s) → n ≡ end_of c s
end_found c s r e h = rw (h, e, end_first) (grind (arith, nat_tests, end_first c s, end_inside c s))

-- ---- a number that is cut while it is read

abbrev pub cap : ℕ
cap = 1000000000000

-- a number that was cut before goes on as one that was not, and is cut in the end
pub cut_after : (v : ℕ) (ds : List ℕ) → min (value_after (min v cap) ds) cap ≡ min (value_after v ds) cap
unfolding value_after
cut_after v [] = omega arith
cut_after v (d ∷ ds) =
    let e : min (10 * min v cap + (d - 48)) cap ≡ min (10 * v + (d - 48)) cap = omega arith in
    sym (cut_after (10 * min v cap + (d - 48)) ds) ∙ ap (λ (n : ℕ). min (value_after n ds) cap) e ∙ cut_after (10 * v + (d - 48)) ds

value_more : (v : ℕ) (ds : List ℕ) (d : ℕ) → value_after v (ds ++ (d ∷ [])) ≡ 10 * value_after v ds + (d - 48)
unfolding value_after
value_more v [] d = refl
value_more v (x ∷ ds) d = value_more (10 * v + (x - 48)) ds d

pub value_none : value_of [] ≡ 0
unfolding value_after
value_none = refl

-- the first digits, and one more
pub value_next : (ds : List ℕ) (i : ℕ) → i < length ds → value_of (take (i + 1) ds) ≡ 10 * value_of (take i ds) + (get_or ds i 0 - 48)
value_next ds i h = rw (add-one, take-suc ds i 0 h) (value_more 0 (take i ds) (get_or ds i 0))

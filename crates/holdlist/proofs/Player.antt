-- Playing a list: 20 before all else, then walking its first steps, one a turn of the player's loop. What a player of a list of words shows,
-- and that it tells the words. By computing the tests, and by recursion on the words.
-- Assumes nothing.
use Prim.Native.Nat.{ℕ, zero, suc, ◌-◌, ◌≤◌, ◌<◌}
use native.Mathlib.Omega.{arith}
use mathlib.Core.Path.{◌≡◌, refl, sym, ap, ◌∙◌}
use mathlib.Core.List.{List, [], ◌∷◌}
use mathlib.Core.Bool.{cond}
use lib.ListN.{length, get_or, take}
use lib.Dec.{ltb}
use borrow.Author.Tests.{le-leb, lt-leb, lt-ltb, le-ltb}
use denote.Ref.{Bor}
use mathlib.Core.Logic.{◌⊎◌}
use Rattle.std.specs.declared.iter.Zip.{Zip}
use Rattle.std.specs.Iterator.Adapters.{zip_first, zip_second}
use Rattle.std.specs.Slice.Iter.{iter_rest}
use Rattle.std.proofs.Common.{Option, Some, None, Iter, inl, inr}
use Rattle.std.proofs.iter.Yields.{fronts}
use Rattle.std.proofs.lemmas.Iterator.{zips}
use Rattle.std.proofs.lemmas.Slice.Zip.{Zip-more, either_empty_from_Zip}
use Rattle.holdlist.specs.Play.{Played}
use Rattle.holdlist.specs.Play.{walk, play_answer, played_word, played_nothing}

-- ---- 20, and what is played otherwise

module _ (cs ws : List ℕ) (used n : ℕ) where
  pub play_no_counts : length cs < used → played_nothing 20 ≡ play_answer cs ws used n
  unfolding play_answer
  play_no_counts h = rw (lt-leb used (length cs) h)

  pub play_no_words : used ≤ length cs → length ws < used → played_nothing 20 ≡ play_answer cs ws used n
  unfolding play_answer
  play_no_words k h = rw (le-leb used (length cs) k, lt-leb used (length ws) h)

  pub play_walk : used ≤ length cs → used ≤ length ws → play_answer cs ws used n ≡ walk (take used cs) (take used ws) n
  unfolding play_answer
  play_walk k h = rw (le-leb used (length cs) k, le-leb used (length ws) h)

-- ---- the player's loop: to play n is to play `left` of the steps that are still to come

pub record Playing (cs ws : List ℕ) (used n : ℕ) (here : Zip (Iter ℕ) (Iter ℕ)) (left : ℕ) : Type 0 where
  pub rest : play_answer cs ws used n ≡ walk (iter_rest (zip_first here)) (iter_rest (zip_second here)) left

walked_out : (xs ys : List ℕ) (n : ℕ) → (xs ≡ []) ⊎ (ys ≡ []) → walk xs ys n ≡ played_nothing 19
unfolding walk
walked_out [] ys n h = refl
walked_out (x ∷ xs) [] n h = refl
walked_out (x ∷ xs) (y ∷ ys) n (inl h) = cc
walked_out (x ∷ xs) (y ∷ ys) n (inr h) = cc

module _
    {cs ws : List ℕ} {used n left : ℕ} {here : Zip (Iter ℕ) (Iter ℕ)} (v : Playing cs ws used n here left)
    (after : Zip (Iter ℕ) (Iter ℕ)) {r : Option (Bor ℕ × Bor ℕ)} (steps : zips fronts fronts here r after)
  where
    module _ {x : Bor ℕ × Bor ℕ} (e : r ≡ Some x) where
      playing_more :
          play_answer cs ws used n ≡
          cond (ltb left x.0.now) (played_word x.1.now) (walk (iter_rest (zip_first after)) (iter_rest (zip_second after)) (left - x.0.now))
      unfolding walk
      playing_more = let next = Zip-more here after r x e steps in v.rest ∙ rw (next.0, next.1)

      pub playing_here : left < x.0.now → played_word x.1.now ≡ play_answer cs ws used n
      playing_here l = sym (playing_more ∙ rw (lt-ltb left x.0.now l))

      pub playing_on : x.0.now ≤ left → Playing cs ws used n after (left - x.0.now)
      playing_on l = record { rest = playing_more ∙ rw (le-ltb left x.0.now l) }

    pub playing_end : r ≡ None → played_nothing 19 ≡ play_answer cs ws used n
    playing_end e = sym (v.rest ∙ walked_out _ _ left (either_empty_from_Zip here after r e steps))

-- ---- a player of words

-- what a player of the words xs shows at position n
unfoldable pub showing : List ℕ → ℕ → Played
showing [] n = played_nothing 19
showing (x ∷ xs) zero = played_word x
showing (x ∷ xs) (suc n) = showing xs n

pub showing-below : (xs : List ℕ) (n : ℕ) → n < length xs → showing xs n ≡ played_word (get_or xs n 0)
unfolding showing
showing-below [] n h = absurd (omega arith)
showing-below (x ∷ xs) zero h = refl
showing-below (x ∷ xs) (suc n) h = showing-below xs n (omega arith)

pub showing_past : (xs : List ℕ) (n : ℕ) → length xs ≤ n → showing xs n ≡ played_nothing 19
unfolding showing
showing_past [] n h = refl
showing_past (x ∷ xs) zero h = absurd (omega arith)
showing_past (x ∷ xs) (suc n) h = showing_past xs n (omega arith)

-- answers with different numbers differ
pub differ : (i j : ℕ) (p q : Played) → p.verdict.number ≡ i → q.verdict.number ≡ j → i < j → p ≡ q → ⊥
differ i j p q a b h e = let t : p.verdict.number ≡ q.verdict.number = ap (λ (r : Played). r.verdict.number) e in omega arith

-- what is played at every position tells the words
pub showing_ext : (xs ys : List ℕ) → ((n : ℕ) → showing xs n ≡ showing ys n) → xs ≡ ys
unfolding showing
showing_ext [] [] e = refl
showing_ext [] (y ∷ ys) e = absurd (differ 0 19 (played_word y) (played_nothing 19) refl refl (omega arith) (sym (e 0)))
showing_ext (x ∷ xs) [] e = absurd (differ 0 19 (played_word x) (played_nothing 19) refl refl (omega arith) (e 0))
showing_ext (x ∷ xs) (y ∷ ys) e =
    let t : x ≡ y = ap (λ (r : Played). r.word) (e 0) in
    rw (t, showing_ext xs ys (λ n. e (suc n)))

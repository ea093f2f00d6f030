-- A loop over the steps of two lists side by side, whose lines are put one after the other.
-- Assumes nothing.
use Prim.Native.Nat.{ℕ, ◌≤◌, ◌<◌}
use native.Mathlib.Omega.{arith}
use mathlib.Core.Path.{◌≡◌, ◌∙◌}
use mathlib.Core.List.{List, [], ◌∷◌, ◌++◌}
use lib.ListN.{length, take, length-append, length-take}
use denote.Ref.{Bor}
use Rattle.std.specs.declared.iter.Zip.{Zip}
use Rattle.std.specs.Iterator.{Yields}
use Rattle.std.specs.Iterator.Adapters.{zip_first, zip_second}
use Rattle.std.specs.Slice.Iter.{iter_rest}
use Rattle.std.proofs.Common.{Option, Some, None, Iter}
use Rattle.std.proofs.iter.Yields.{fronts}
use Rattle.std.proofs.lemmas.Iterator.{zips}
use Rattle.std.proofs.lemmas.List.{get_or-take}
use Rattle.std.proofs.lemmas.Slice.Zip.{zip_turn, zip_end}
use Rattle.profile.specs.Lists.{chunks}
use Rattle.holdlist.specs.Text.{step_line, step_line_at, Puts}
use Rattle.holdlist.proofs.Puts.{Chunked, chunked_more, chunked_all}

-- it passes the first n steps, and has put the lines of xs
pub record Listed (cs ws : List ℕ) (n : ℕ) (first : Zip (Iter ℕ) (Iter ℕ)) (l : List ℕ) (k m : ℕ) (l' : List ℕ) (xs : List (Bor ℕ × Bor ℕ)) : Type 0 where
  pub counts : iter_rest (zip_first first) ≡ take n cs
  pub words : iter_rest (zip_second first) ≡ take n ws
  pub counts_there : n ≤ length cs
  pub words_there : n ≤ length ws
  pub lines : Chunked (step_line_at cs ws) n l k m l' (length xs)

module _
    {cs ws : List ℕ} {n : ℕ} {first : Zip (Iter ℕ) (Iter ℕ)} {l l' : List ℕ} {k m : ℕ} {xs : List (Bor ℕ × Bor ℕ)} {r : Option (Bor ℕ × Bor ℕ)}
    (v : Listed cs ws n first l k m l' xs) (here after : Zip (Iter ℕ) (Iter ℕ)) (y : Yields (zips fronts fronts) first xs here)
  where
    pub listed_more : {x : Bor ℕ × Bor ℕ} {m' : ℕ} {l'' : List ℕ} → r ≡ Some x → zips fronts fronts here r after
        → Puts (step_line x.0.now x.1.now) l' m m' l'' → Listed cs ws n first l k m' l'' (xs ++ (x ∷ []))
    listed_more {x} {m'} {l''} e steps p =
        let (below, _, count, word) = zip_turn _ _ xs first here after r v.counts v.words y x e steps in
        let within : length xs < n = omega (arith, below, length-take n cs) in
        let same : step_line x.0.now x.1.now ≡ step_line_at cs ws (length xs) =
        λ i. step_line ((count 0 ∙ get_or-take n cs (length xs) 0 within) i) ((word 0 ∙ get_or-take n ws (length xs) 0 within) i) in
        record {
          counts = v.counts;
          words = v.words;
          counts_there = v.counts_there;
          words_there = v.words_there;
          lines = rw (length-append xs (x ∷ [])) (chunked_more v.lines within (rw same at p));
        }

    pub listed_all : r ≡ None → zips fronts fronts here r after → Puts (chunks n (step_line_at cs ws)) l k m l'
    listed_all e steps =
        let all = zip_end _ _ xs first here after r v.counts v.words y e steps in
        chunked_all v.lines (omega (arith, all, length-take n cs, length-take n ws, v.counts_there, v.words_there))

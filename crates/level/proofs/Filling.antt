-- Laws of a list filled from the front: each store is one element more, at the end the list is all new, and where it ends earlier the new ones lie over what it held.
-- Assumes nothing.
use Prim.Native.Nat.{ℕ, suc, ◌+◌, ◌≤◌, ◌<◌}
use native.Mathlib.Numerals.{add-one}
use native.Mathlib.Omega.{arith}
use mathlib.Core.Path.{◌≡◌, refl, sym, ◌∙◌}
use mathlib.Core.List.{List, [], ◌∷◌, ◌++◌, append_assoc, append-nil}
use lib.ListN.{length, get_or, drop, set, length-set}
use lib.Seq.{set_at, drop-cons, drop-length, ext_get_or}
use Rattle.profile.specs.Lists.{chunks, over}
use Rattle.profile.proofs.Laws.{chunks-none, chunks_more, length_ones, get_d_ones}

-- the first i entries are new and the rest as they were
pub record Filled (f : ℕ → ℕ) (l m : List ℕ) (i : ℕ) : Type 0 where
  pub within : i ≤ length l
  pub stored : m ≡ chunks i (λ k. f k ∷ []) ++ drop i l
  pub long : length m ≡ length l

pub filled_none : {f : ℕ → ℕ} {l : List ℕ} → Filled f l l 0
filled_none = record { within = omega arith; stored = rw chunks-none; long = refl }

module _ {f : ℕ → ℕ} {l m : List ℕ} {i : ℕ} (p : Filled f l m i) where
  pub filled_more : {x : ℕ} → i < length m → x ≡ f i → Filled f l (set m i x) (i + 1)
  filled_more h e =
      let k : i < length l = omega (arith, p.long) in
      record {
        within = omega arith;
        stored =
            rw (
              p.stored,
              e,
              drop-cons l i 0 k,
              set_at (chunks i (λ k. f k ∷ [])) (get_or l i 0) (drop (suc i) l) (f i) i (length_ones i f),
              chunks_more,
              append_assoc,
              add-one,
            );
        long = simp length-set p.long;
      }

  pub filled-all : length m ≤ i → m ≡ chunks (length l) (λ k. f k ∷ [])
  filled-all h = let e : i ≡ length l = omega (arith, p.within, p.long) in rw (p.stored, e, drop-length, append-nil)

  -- the first i are a list of that length
  pub filled-over : (xs : List ℕ) → length xs ≡ i → ((k : ℕ) → k < i → f k ≡ get_or xs k 0) → m ≡ over xs l
  filled-over xs e same =
      let ones : chunks i (λ k. f k ∷ []) ≡ xs =
      ext_get_or 0 (chunks i (λ k. f k ∷ [])) xs (length_ones i f ∙ sym e)
      (λ k h. let j : k < i = omega (arith, length_ones i f) in get_d_ones i f 0 k j ∙ same k j) in
      p.stored ∙ (λ j. ones j ++ drop (sym e j) l)

pub ruleset filling = (filled_none, filled_more)

-- Laws of `Puts`: stores one after the other are one run of stores, whether or not they reach the end.
-- Assumes nothing.
use Prim.Native.Nat.{ℕ, suc, ◌+◌, ◌≤◌, ◌<◌, min, max}
use native.Mathlib.Omega.{arith}
use mathlib.Core.Path.{◌≡◌, refl, sym, ap, ◌∙◌}
use mathlib.Core.List.{List, [], ◌∷◌, ◌++◌}
use lib.ListN.{length, take, drop, length-append}
use lib.Seq.{sets, set_out, length-sets, take-append_seam}
use lib.Dec.{leb}
use borrow.Author.Tests.{leb-true, leb-false}
use Rattle.profile.specs.Lists.{chunks}
use Rattle.profile.proofs.Laws.{by_cases, chunks_more, chunks-none}
use Rattle.profile.proofs.Stores.{sets_more, sets_front}
use Rattle.holdlist.specs.Text.{Puts}

-- past the end nothing is stored
sets_out : (l vs : List ℕ) (i : ℕ) → length l ≤ i → sets l i vs ≡ l
sets_out l [] i h = refl
sets_out l (v ∷ vs) i h = rw (set_out l i v h) (sets_out l vs (suc i) (omega arith))

pub puts_none : (l : List ℕ) (k : ℕ) → Puts [] l k k l
puts_none l k = record { stored = refl; ended = omega arith }

pub puts_past : (l : List ℕ) (x k : ℕ) → length l ≤ k → Puts (x ∷ []) l k k l
puts_past l x k h = record { stored = sym (set_out l k x h); ended = omega arith }

puts_after : (a b l : List ℕ) (k m : ℕ) → m ≡ max k (min (k + length a) (length l)) → sets (sets l k a) m b ≡ sets l k (a ++ b)
puts_after a b l k m e =
    by_cases (leb (k + length a) (length l))
    (λ t. let h : k + length a ≤ length l = leb-true _ _ t in sets_more l a b k m (omega arith))
    (λ t.
    let h : length l < k + length a = leb-false _ _ t in
    let n : length (sets l k a) ≡ length l = length-sets l k a in
    sets_out (sets l k a) b m (omega arith) ∙ sym (sets_out (sets l k a) b (k + length a) (omega arith))
    ∙ sets_more l a b k (k + length a) refl)

pub puts_more : {a b l l' l'' : List ℕ} {k m n : ℕ} → Puts a l k m l' → Puts b l' m n l'' → Puts (a ++ b) l k n l''
puts_more {a} {b} {l} {l'} {l''} {k} {m} {n} p q =
    record {
      stored = q.stored ∙ rw p.stored (puts_after a b l k m p.ended);
      ended =
          omega (arith, p.ended, q.ended, length-append a b, ap length p.stored, length-sets l k a);
    }

pub puts_length : {b l l' : List ℕ} {k n : ℕ} → Puts b l k n l' → length l' ≡ length l
puts_length {b} {l} {l'} {k} p = ap length p.stored ∙ length-sets l k b

pub puts_as : {a b l l' : List ℕ} {k n : ℕ} → Puts a l k n l' → a ≡ b → Puts b l k n l'
puts_as p e = rw (← e) p

-- ---- a loop that puts chunk after chunk

-- the first i of n chunks are put
pub record Chunked (f : ℕ → List ℕ) (n : ℕ) (l : List ℕ) (k m : ℕ) (l' : List ℕ) (i : ℕ) : Type 0 where
  pub within : i ≤ n
  pub put : Puts (chunks i f) l k m l'
  pub long : length l' ≡ length l

pub chunked_none : {f : ℕ → List ℕ} {n : ℕ} {l : List ℕ} {k : ℕ} → Chunked f n l k k l 0
chunked_none = record { within = omega arith; put = rw chunks-none (puts_none _ _); long = refl }

module _ {f : ℕ → List ℕ} {n : ℕ} {l : List ℕ} {k m : ℕ} {l' : List ℕ} {i : ℕ} (p : Chunked f n l k m l' i) where
  pub chunked_more : {m' : ℕ} {l'' : List ℕ} → i < n → Puts (f i) l' m m' l'' → Chunked f n l k m' l'' (i + 1)
  chunked_more h q =
      record { within = omega arith; put = rw chunks_more (puts_more p.put q); long = puts_length q ∙ p.long }

  pub chunked_all : n ≤ i → Puts (chunks n f) l k m l'
  chunked_all h = let e : i ≡ n = omega (arith, p.within) in rw e at p.put

-- `search putting` finds the parts of a text that are put one after the other
pub ruleset putting = (puts_more, chunked_none, chunked_more, chunked_all)

-- what fits whole stands at the front
pub puts_whole : {b l l' : List ℕ} {n : ℕ} → Puts b l 0 n l' → length b ≤ length l → (n ≤ length l) × (take n l' ≡ b)
puts_whole {b} {l} {l'} {n} p h =
    let e : n ≡ length b = omega (arith, p.ended) in
    (omega arith, rw (e, p.stored, sets_front b l h) (take-append_seam b (drop (length b) l)))

-- What the two engines want to know of a line: its words up to pixel p are pushed, and a word held up to the next stop, or for one pixel, are the words up to there.
-- The stops, and the words at them or at every pixel, lie in buffers that the line has filled.
-- Assumes nothing.
use Prim.Native.Nat.{ℕ, ◌+◌, ◌-◌, ◌*◌, ◌≤◌, ◌<◌, ◌^◌, min}
use native.Mathlib.Omega.{arith}
use mathlib.Core.Path.{◌≡◌, sym, ap, ◌∙◌}
use mathlib.Core.List.{List, [], ◌∷◌, ◌++◌, map}
use lib.ListN.{length, get_or, take, replicate, length-map, length-append}
use lib.Seq.{take_all, take-append_seam}
use borrow.Rule.Slice.PartMut.{mid_of, put_mid}
use denote.Ref.{Bor}
use Rattle.std.specs.declared.iter.Zip.{Zip}
use Rattle.std.specs.Iterator.{Yields}
use Rattle.std.specs.Iterator.Adapters.{zip_first, zip_second}
use Rattle.std.specs.Slice.Iter.{iter_rest}
use Rattle.std.proofs.Common.{Option, Some, None, Iter}
use Rattle.std.proofs.iter.Yields.{fronts}
use Rattle.std.proofs.lemmas.Iterator.{zips}
use Rattle.std.proofs.lemmas.Slice.Zip.{zip_turn, zip_end}
use Rattle.profile.specs.Lists.{over}
use Rattle.profile.proofs.Laws.{chunks-none}
use Rattle.level.specs.declared.Line.{Line}
use Rattle.level.specs.Fieldwords.{line_words}
use Rattle.level.specs.Edges.{Stretch, stretches_of, stretch_ends, stretch_words}
use Rattle.level.proofs.Words.{line_words-length, line_words-at}
use Rattle.level.proofs.Stopping.{stop_is, words_one, words_stop, Along, stretch-below, stretch-end, stretch-word, stretch_none, along-more}
use Rattle.holdlist.specs.declared.Step.{Step}
use Rattle.holdlist.specs.Fills.{Fills}
use Rattle.holdlist.proofs.Fills.{fills_as, fills_none, fills_more, Filling, filling, hold_few}

-- ---- the words up to pixel p are pushed

pub record Pushed (l : Line) (o : Step) (cs ws : List ℕ) (p steps : ℕ) (held : Step) (cs' ws' : List ℕ) : Type 0 where
  pub within : p ≤ l.length
  pub few : o.count + l.length < 2 ^ 32
  pub done : Filling o (line_words l p) cs ws steps held cs' ws'
  pub counts_room : 4 * length cs < 2 ^ 63
  pub words_room : 2 * length ws < 2 ^ 63

pub pushed_start :
    (l : Line) (o : Step) (cs ws : List ℕ) →
    o.count + l.length < 2 ^ 32 → 4 * length cs < 2 ^ 63 → 2 * length ws < 2 ^ 63 → Pushed l o cs ws 0 0 o cs ws
unfolding line_words
pushed_start l o cs ws b c w =
    record { within = omega arith; few = b; done = filling (fills_as (sym (chunks-none _)) (fills_none o cs ws)); counts_room = c; words_room = w }

module _ {l : Line} {o held : Step} {cs ws cs' ws' : List ℕ} {p steps : ℕ} (x : Pushed l o cs ws p steps held cs' ws') where
  -- a word held for n pixels more can be counted, and so can its steps
  pub pushed-counted : (n : ℕ) → p + n ≤ l.length → held.count + n < 2 ^ 32
  pushed-counted n h = omega (arith, x.few, x.done.small, line_words-length l p)

  pub pushed-steps : (w n : ℕ) {h : Step} {m : ℕ} {ps qs ps' qs' : List ℕ} → n ≤ l.length → Fills held (replicate n w) ps qs m h ps' qs' → steps + m < 2 ^ 64
  pushed-steps w n h f = omega (arith, x.few, x.within, x.done.few, line_words-length l p, hold_few w n f)

  pub pushed_more :
      (w n s : ℕ) {held' : Step} {ps qs : List ℕ} {m j k : ℕ} → s ≤ l.length → line_words l s ≡ line_words l p ++ replicate n w →
      j ≡ min steps (length cs') → k ≡ min steps (length ws') →
      Fills held (replicate n w) (mid_of j (length cs' - j) cs') (mid_of k (length ws' - k) ws') m held' ps qs →
      Pushed l o cs ws s (steps + m) held' (put_mid j (length cs' - j) cs' ps) (put_mid k (length ws' - k) ws' qs)
  pushed_more w n s h e ej ek y =
      record {
        within = h;
        few = x.few;
        done = filling (fills_more x.done.fills ej ek y e);
        counts_room = x.counts_room;
        words_room = x.words_room;
      }

  pub pushed-all : l.length ≤ p → Fills o (line_words l l.length) cs ws steps held cs' ws'
  pushed-all h = let e : p ≡ l.length = omega (arith, x.within) in fills_as (ap (line_words l) e) x.done.fills

-- ---- buffers that a line has filled

-- the front of it has the words at each pixel
pub words_lent : (l : Line) (s s' : List ℕ) (n : ℕ) → l.length ≤ length s → s' ≡ over (line_words l (min l.length (length s))) s
    → n ≡ l.length → take n s' ≡ line_words l l.length
words_lent l s s' n h e k =
    let all : min l.length (length s) ≡ l.length = omega arith in
    let long : n ≡ length (line_words l l.length) = k ∙ sym (line_words-length l l.length) in
    rw (e, all, long) (take-append_seam (line_words l l.length) _)

-- each of these is held for one pixel
pub words_long : (l : Line) {s : List ℕ} → s ≡ line_words l l.length → length s ≡ l.length
words_long l e = ap length e ∙ line_words-length l l.length

pub word_held : (l : Line) {s : List ℕ} (p : ℕ) → s ≡ line_words l l.length → p < length s → line_words l (p + 1) ≡ line_words l p ++ replicate 1 (get_or s p 0)
word_held l p e h = words_one l p (ap (λ (r : List ℕ). get_or r p 0) e ∙ line_words-at l l.length p (omega (arith, words_long l e)))

-- the front of it has the ends of the stretches, or their words
pub stretches_lent : (l : Line) (f : Stretch → ℕ) (s s' : List ℕ) (n : ℕ) → n ≡ length (stretches_of l) → s' ≡ over (take n (map f (stretches_of l))) s
    → take n s' ≡ map f (stretches_of l)
stretches_lent l f s s' n k e =
    let long = length-map (stretches_of l) f in
    let all : take n (map f (stretches_of l)) ≡ map f (stretches_of l) = take_all n (map f (stretches_of l)) (omega arith) in
    let size : n ≡ length (map f (stretches_of l)) = k ∙ sym long in
    rw (e, all, size) (take-append_seam (map f (stretches_of l)) _)

-- ---- a loop over the stretches' ends and words side by side: it has passed xs, and is at pixel p

pub record Reached (l : Line) (first : Zip (Iter ℕ) (Iter ℕ)) (p : ℕ) (xs : List (Bor ℕ × Bor ℕ)) : Type 0 where
  pub ends : iter_rest (zip_first first) ≡ stretch_ends l
  pub words : iter_rest (zip_second first) ≡ stretch_words l
  pub along : Along l p (length xs)

-- the next stretch goes from there to s
pub record Next (l : Line) (first : Zip (Iter ℕ) (Iter ℕ)) (p : ℕ) (xs : List (Bor ℕ × Bor ℕ)) (x : Bor ℕ × Bor ℕ) : Type 0 where
  pub later : p < x.0.now
  pub within : x.0.now ≤ l.length
  pub made : line_words l x.0.now ≡ line_words l p ++ replicate (x.0.now - p) x.1.now
  pub reached : Reached l first x.0.now (xs ++ (x ∷ []))

module _
    {l : Line} {first : Zip (Iter ℕ) (Iter ℕ)} {p : ℕ} {xs : List (Bor ℕ × Bor ℕ)} {r : Option (Bor ℕ × Bor ℕ)}
    (v : Reached l first p xs) (here after : Zip (Iter ℕ) (Iter ℕ)) (y : Yields (zips fronts fronts) first xs here)
  where
    pub next_stretch : {x : Bor ℕ × Bor ℕ} → r ≡ Some x → zips fronts fronts here r after → Next l first p xs x
    next_stretch {x} e steps =
        let (below, _, end_at, word_at) = zip_turn _ _ xs first here after r v.ends v.words y x e steps in
        let inside : p < l.length = grind (arith, stretch_none v.along, length-map (stretches_of l) (λ (s : Stretch). s.end)) in
        let stop = end_at 0 ∙ stretch-end v.along inside in
        let is = stop_is l p inside in
        record {
          later = omega (arith, stop, is.later);
          within = omega (arith, stop, is.within);
          made = words_stop l p inside stop (word_at 0 ∙ stretch-word v.along inside);
          reached = record { ends = v.ends; words = v.words; along = rw (length-append xs (x ∷ [])) (along-more v.along inside stop) };
        }

    -- after the last of them the line ends
    pub stretches_end : r ≡ None → zips fronts fronts here r after → l.length ≤ p
    stretches_end e steps =
        let all = zip_end _ _ xs first here after r v.ends v.words y e steps in
        grind (arith, all, stretch-below v.along, length-map (stretches_of l) (λ (s : Stretch). s.end), length-map (stretches_of l) (λ (s : Stretch). s.word))

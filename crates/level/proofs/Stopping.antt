-- The stop after a pixel is what a stop is, and the only number that is: the next pixel on the list, up to which no word changes, for none changes
-- where no output can. A line made ready gives the line's stops, and a line's stretches are its words.
-- Assumes nothing.
use mathlib.Core.Path.{◌≡◌, refl, sym, ap, ◌∙◌}
use mathlib.Core.Logic.{◌⊎◌, inl, inr}
use mathlib.Core.Bool.{true}
use mathlib.Core.List.{List, [], ◌∷◌, ◌++◌}
use Prim.Native.Nat.{ℕ, zero, suc, ◌+◌, ◌-◌, ◌≤◌, ◌<◌}
use native.Mathlib.Nat.{add-zero}
use native.Mathlib.Omega.{arith}
use borrow.Author.Tests.{ltb-true, ltb-false, lt-ltb, le-ltb}
use lib.Dec.{ltb}
use lib.ListN.{length, get_or, take, drop, set, replicate, length-drop, length-map, get_or-map}
use lib.Seq.{get_or-drop, get_or-take, drop-drop, length-take-le}
use Rattle.profile.specs.Lists.{chunks, over}
use Rattle.profile.proofs.Laws.{by_cases, chunks-none, chunks_more, chunks_ext, chunks_upto}
use Rattle.level.specs.declared.Line.{Line}
use Rattle.level.specs.declared.ready.Ready.{Ready}
use Rattle.level.specs.Word.{word_of}
use Rattle.level.specs.Fieldwords.{line_words}
use Rattle.level.specs.Next.{next}
use Rattle.level.specs.Edges.{edge_of, stop_after, Stop, Stretch, stretches_from, stretches_of, stretch_ends, stretch_words}
use Rattle.level.specs.Ready.{ready_edge}
use Rattle.level.specs.Made.{ReadyFor}
use Rattle.level.proofs.Nexts.{next_is, is_next, next_on, stays}
use Rattle.level.proofs.Stays.{word_stays}
use Rattle.level.proofs.Filling.{Filled, filled_none, filled_more, filled-over}

-- one word n times
ones_same : (w n : ℕ) → chunks n (λ k. w ∷ []) ≡ replicate n w
ones_same w zero = chunks-none (λ k. w ∷ [])
ones_same w (suc n) =
    let one : suc n ≡ n + 1 = omega arith in
    ap (λ m. chunks m (λ k. w ∷ [])) one ∙ chunks_more n (λ k. w ∷ []) ∙ ap (λ l. l ++ (w ∷ [])) (ones_same w n) ∙ ends n
  where
    ends : (n : ℕ) → replicate n w ++ (w ∷ []) ≡ replicate (suc n) w
    ends zero = refl
    ends (suc n) = ap {B = List ℕ} (λ l. w ∷ l) (ends n)

module _ (l : Line) (p : ℕ) (h : p < l.length) where
  pub stop_is : Stop l p (stop_after l p)
  unfolding stop_after
  stop_is =
      let x = next_is (λ q. edge_of l q) p l.length h in
      let s : ℕ = next (λ q. edge_of l q) p l.length in
      record {
        later = x.low;
        within = x.less;
        listed = by_cases (ltb s l.length) (λ e. inr (x.some (ltb-true s l.length e))) (λ e. inl (omega (arith, x.less, ltb-false s l.length e)));
        first = x.none;
        one_word = stays (λ q. edge_of l q) (word_of l) (word_stays l) p l.length h;
      }

  -- and no other number
  pub stop_only : (s : ℕ) → Stop l p s → s ≡ stop_after l p
  unfolding stop_after
  stop_only s x = is_next (record { low = x.later; less = x.within; none = x.first; some = some x.listed })
    where
      some : (s ≡ l.length) ⊎ (edge_of l s ≡ true) → s < l.length → edge_of l s ≡ true
      some (inl e) k = absurd (omega arith)
      some (inr e) k = e

  -- by a line made ready
  pub ready_stop : {r : Ready} → ReadyFor r l → l.length < 65536 → next (λ q. ready_edge r q) p l.length ≡ stop_after l p
  unfolding stop_after
  ready_stop x k = next_on h (λ q a b. x.edges q (omega arith) (omega arith))

-- ---- the stretches from a stop on: after n of them, at pixel p

abbrev none : Stretch
none = record { word = 0; end = 0 }

from_few : (l : Line) (n p : ℕ) → length (stretches_from l n p) ≤ n
unfolding stretches_from
from_few l zero p = omega arith
from_few l (suc n) p =
    by_cases (ltb p l.length)
    (λ e. rw e (omega (arith, from_few l n (stop_after l p))))
    (λ e. rw e (omega arith))

pub stretches_few : (l : Line) → length (stretches_of l) ≤ l.length
stretches_few l = from_few l l.length 0

-- n of them lead up to pixel p, and those from there on are left
pub record Along (l : Line) (p n : ℕ) : Type 0 where
  pub paced : n ≤ p
  pub left : drop n (stretches_of l) ≡ stretches_from l (l.length - n) p

pub along_none : (l : Line) → Along l 0 0
along_none l =
    record { paced = omega arith; left = let all : l.length ≡ l.length - 0 = omega arith in ap (λ n. stretches_from l n 0) all }

module _ {l : Line} {p n : ℕ} (x : Along l p n) where
  module _ (h : p < l.length) where
    here : drop n (stretches_of l) ≡ record { word = word_of l p; end = stop_after l p } ∷ stretches_from l (l.length - (n + 1)) (stop_after l p)
    unfolding stretches_from
    here =
        let more : l.length - n ≡ suc (l.length - (n + 1)) = omega (arith, x.paced) in
        x.left ∙ rw (more, lt-ltb p l.length h)

    at : get_or (stretches_of l) n none ≡ record { word = word_of l p; end = stop_after l p }
    at =
        ap (λ k. get_or (stretches_of l) k none) (sym (add-zero n)) ∙ sym (get_or-drop n (stretches_of l) 0 none)
        ∙ ap (λ (r : List Stretch). get_or r 0 none) here

    pub stretch-below : n < length (stretches_of l)
    stretch-below = omega (arith, length-drop n (stretches_of l), ap (λ (r : List Stretch). length r) here)

    pub stretch-end : get_or (stretch_ends l) n 0 ≡ stop_after l p
    stretch-end = get_or-map (λ (s : Stretch). s.end) (stretches_of l) n none ∙ ap (λ (s : Stretch). s.end) at

    pub stretch-word : get_or (stretch_words l) n 0 ≡ word_of l p
    stretch-word = get_or-map (λ (s : Stretch). s.word) (stretches_of l) n none ∙ ap (λ (s : Stretch). s.word) at

    -- one more, up to the stop
    pub along-more : {s : ℕ} → s ≡ stop_after l p → Along l s (n + 1)
    along-more e =
        record {
          paced = omega (arith, e, (stop_is l p h).later, x.paced);
          left = sym (drop-drop 1 n (stretches_of l)) ∙ ap (λ (r : List Stretch). drop 1 r) here ∙ ap (stretches_from l (l.length - (n + 1))) (sym e);
        }

  -- at the line's end none is left
  pub stretch_none : l.length ≤ p → length (stretches_of l) ≤ n
  unfolding stretches_from
  stretch_none h =
      let rest : length (drop n (stretches_of l)) ≡ 0 = ap (λ (r : List Stretch). length r) (x.left ∙ past (l.length - n)) in
      omega (arith, length-drop n (stretches_of l))
    where
      past : (m : ℕ) → stretches_from l m p ≡ []
      past zero = refl
      past (suc m) = rw (le-ltb p l.length h)

-- ---- a line's stretches written from the front, one a turn

-- n of them are written, up to pixel p
pub record Stretching (l : Line) (es ws es' ws' : List ℕ) (p n : ℕ) : Type 0 where
  pub within : p ≤ l.length
  pub along : Along l p n
  pub few : n ≤ length (stretches_of l)
  pub ends : Filled (λ k. get_or (stretch_ends l) k 0) es es' n
  pub words : Filled (λ k. get_or (stretch_words l) k 0) ws ws' n

pub stretching_none : (l : Line) (es ws : List ℕ) → Stretching l es ws es ws 0 0
stretching_none l es ws =
    record { within = omega arith; along = along_none l; few = omega arith; ends = filled_none; words = filled_none }

module _ {l : Line} {es ws es' ws' : List ℕ} {p n : ℕ} (x : Stretching l es ws es' ws' p n) where
  pub stretching_more : p < l.length → {s w : ℕ} → s ≡ stop_after l p → w ≡ word_of l p → n < length es' → n < length ws'
      → Stretching l es ws (set es' n s) (set ws' n w) s (n + 1)
  stretching_more h {s} {w} e g a b =
      record {
        within = rw e (stop_is l p h).within;
        along = along-more x.along h e;
        few = omega (arith, stretch-below x.along h);
        ends = filled_more x.ends a (e ∙ sym (stretch-end x.along h));
        words = filled_more x.words b (g ∙ sym (stretch-word x.along h));
      }

  -- all are written at the line's end
  pub stretching_all : l.length ≤ p → n ≡ length (stretches_of l)
  stretching_all h = omega (arith, stretch_none x.along h, x.few)

  -- what is written
  pub stretched_ends : es' ≡ over (take n (stretch_ends l)) es
  stretched_ends =
      let long : length (take n (stretch_ends l)) ≡ n = length-take-le n (stretch_ends l) (rw (length-map (stretches_of l) (λ (s : Stretch). s.end)) x.few) in
      filled-over x.ends (take n (stretch_ends l)) long (λ k h. sym (get_or-take n (stretch_ends l) k 0 h))

  pub stretched_words : ws' ≡ over (take n (stretch_words l)) ws
  stretched_words =
      let long : length (take n (stretch_words l)) ≡ n = length-take-le n (stretch_words l) (rw (length-map (stretches_of l) (λ (s : Stretch). s.word)) x.few) in
      filled-over x.words (take n (stretch_words l)) long (λ k h. sym (get_or-take n (stretch_words l) k 0 h))

-- ---- a line's words, up to the next stop

pub words_stop : (l : Line) (p : ℕ) {s w : ℕ} → p < l.length → s ≡ stop_after l p → w ≡ word_of l p → line_words l s ≡ line_words l p ++ replicate (s - p) w
unfolding line_words
words_stop l p {s} {w} h es ew =
    let stop = stop_is l p h in
    sym (chunks_upto p s (λ q. word_of l q ∷ []) (omega (arith, es, stop.later)))
    ∙ ap (λ r. chunks p (λ q. word_of l q ∷ []) ++ r)
    (chunks_ext (s - p) (λ k. word_of l (p + k) ∷ []) (λ k. w ∷ [])
    (λ k b. ap (λ x. x ∷ []) (stop.one_word (p + k) (omega arith) (omega (arith, es)) ∙ sym ew))
    ∙ ones_same w (s - p))

pub words_one : (l : Line) (p : ℕ) {w : ℕ} → w ≡ word_of l p → line_words l (p + 1) ≡ line_words l p ++ replicate 1 w
unfolding line_words
words_one l p e = chunks_more p (λ q. word_of l q ∷ []) ∙ ap (λ w. chunks p (λ q. word_of l q ∷ []) ++ (w ∷ [])) (sym e)

-- The next edge: in a line it is sought from stop to stop, for up to a stop there is one word; in a field line after line, for a place has the word of its
-- line and pixel. So the answer is the nearest later pixel of another word.
-- Assumes nothing.
use mathlib.Core.Path.{◌≡◌, refl, sym, ap, ◌∙◌}
use mathlib.Core.Bool.{Bool, true, false, not}
use Prim.Native.Nat.{ℕ, ◌+◌, ◌-◌, ◌≤◌, ◌<◌}
use native.Mathlib.Omega.{arith}
use borrow.Author.Tests.{ltb-true, ltb-false, lt-ltb, le-ltb, eqb-true, eq-eqb, ne_eqb}
use lib.Dec.{ltb, eqb}
use Rattle.profile.specs.Values.{accepted, refused, accepts}
use Rattle.profile.specs.Geometry.{line_length, pixels_before, pixel_count, has_pixel}
use Rattle.profile.specs.Rules.{check_profile}
use Rattle.profile.specs.declared.Tables.{Tables}
use Rattle.profile.specs.declared.Field.{Field}
use Rattle.profile.specs.declared.Profile.{Profile}
use Rattle.profile.specs.declared.Verdict.{Verdict}
use Rattle.profile.specs.declared.Ruleset.{Ruleset}
use Rattle.profile.proofs.Laws.{cond-case, tested_yes}
use Rattle.profile.proofs.Lines.{before_more, before-all, before-below, before_later, has_both}
use Rattle.level.specs.declared.Line.{Line}
use Rattle.level.specs.Place.{Edge}
use Rattle.level.specs.Line.{line_of}
use Rattle.level.specs.Word.{word_of}
use Rattle.level.specs.Next.{first_from, next}
use Rattle.level.specs.Edges.{stop_after}
use Rattle.level.specs.Place.{place_of, word_at, change_after, no_edge, edge_at, next_edge_answer, EdgeMeans}
use Rattle.level.proofs.Nexts.{clash, Is, next_is, From, first_from_lem, first_here, first_past, first_skip, next-first}
use Rattle.level.proofs.Stopping.{stop_is}
use Rattle.level.proofs.Words.{line_of-length, place_below, line_at_place, pixel_at_place, at_has, place_at}

-- ---- another word than w

differs : {v w : ℕ} → (v ≡ w → ⊥) → not (eqb v w) ≡ true
differs {v} {w} n = ap not (ne_eqb v w n)

agrees : {v w : ℕ} → v ≡ w → not (eqb v w) ≡ false
agrees {v} {w} e = ap not (eq-eqb v w e)

-- ---- the first in a line from p on, up to its end

abbrev pub other_in : Line → ℕ → ℕ → Bool
other_in l w q = not (eqb (word_of l q) w)

abbrev pub change_from : Line → ℕ → ℕ → ℕ
change_from l w p = first_from (other_in l w) (l.length - p) p

module _ (l : Line) (w : ℕ) {p : ℕ} where
  pub change_here : p < l.length → (word_of l p ≡ w → ⊥) → p ≡ change_from l w p
  change_here h n = first_here (other_in l w) h (differs n)

  pub change_past : l.length ≤ p → p ≡ change_from l w p
  change_past h = first_past (other_in l w) h

  pub change_skip : {s : ℕ} → s ≡ stop_after l p → p < l.length → word_of l p ≡ w → change_from l w p ≡ change_from l w s
  change_skip {s} e h g =
      let stop = stop_is l p h in
      first_skip (other_in l w) (omega (arith, stop.later)) (omega (arith, stop.within))
      (λ q a b. agrees (stop.one_word q a (omega arith) ∙ g))

-- ---- the first in a field from pixel p of line n on, line after line

abbrev pub other_at : ℕ → Tables → Field → ℕ → ℕ → Bool
other_at version t f w m = not (eqb (word_at version t f m) w)

abbrev pub edge_found : Verdict → ℕ → ℕ → Edge
edge_found v line pixel = record { verdict = v; found = true; line = line; pixel = pixel }

-- e is the first from there on
pub record Seeking (version : ℕ) (t : Tables) (f : Field) (w e n p : ℕ) : Type 0 where
  pub inside : p ≤ line_length t f n
  pub left : e ≡ first_from (other_at version t f w) (pixel_count t f - place_of t f n p) (place_of t f n p)

module _ (version : ℕ) (t : Tables) (f : Field) where
  -- the word of a place is its line's
  pub word_at_place : (line pixel : ℕ) → has_pixel t f line pixel ≡ true → word_at version t f (place_of t f line pixel) ≡ word_of (line_of version t f line) pixel
  word_at_place line pixel h =
      λ i. word_of (line_of version t f (line_at_place t f line pixel h i)) (pixel_at_place t f line pixel h i)

  pub seeking_start : (line pixel w : ℕ) → line < f.lines → pixel < line_length t f line → w ≡ word_of (line_of version t f line) pixel
      → Seeking version t f w (change_after version t f (place_of t f line pixel)) line pixel
  unfolding change_after
  seeking_start line pixel w h l e =
      let has = has_both t f line pixel h l in
      let same = word_at_place line pixel has ∙ sym e in
      record {
        inside = omega arith;
        left = ap (λ v. next (other_at version t f v) (place_of t f line pixel) (pixel_count t f)) same
            ∙ next-first (other_at version t f w) (place_below t f line pixel has) (agrees same);
      }

module _ {version : ℕ} {t : Tables} {f : Field} {w e n p : ℕ} (x : Seeking version t f w e n p) where
  -- past the last line there is none
  pub seeking_none : {v : Verdict} → v ≡ accepted → f.lines ≤ n → no_edge v ≡ edge_at t f e
  seeking_none g h =
      let past : pixel_count t f ≤ place_of t f n p = omega (arith, before-below t f f.lines n h, before-all t f) in
      rw (g, x.left, ← (first_past (other_at version t f w) past), le-ltb (place_of t f n p) (pixel_count t f) past)

  module _ (h : n < f.lines) {l : Line} (line : l ≡ line_of version t f n) {q : ℕ} (first : q ≡ change_from l w p) where
    long : l.length ≡ line_length t f n
    long = ap (λ (l : Line). l.length) line ∙ line_of-length version t f n h

    from : From (other_in l w) (l.length - p) p q
    from = rw first (first_from_lem (other_in l w) (l.length - p) p)

    -- on this line the places' words are the pixels'
    same : (k : ℕ) → k < l.length → other_at version t f w (place_of t f n k) ≡ other_in l w k
    same k b =
        ap (λ v. not (eqb v w)) (word_at_place version t f n k (has_both t f n k h (omega (arith, long))) ∙ ap (λ (l : Line). word_of l k) (sym line))

    skip : e ≡ first_from (other_at version t f w) (pixel_count t f - place_of t f n q) (place_of t f n q)
    skip =
        x.left
        ∙ first_skip (other_at version t f w) (omega (arith, from.low)) (omega (arith, from.less, long, x.inside, before_later t f n f.lines h, before-all t f))
        (λ m a b.
        let k : ℕ = m - pixels_before t f n in
        let here : m ≡ place_of t f n k = omega arith in
        ap (other_at version t f w) here ∙ same k (omega (arith, from.less, long, x.inside)) ∙ from.none k (omega arith) (omega arith))

    pub seeking-found : {v : Verdict} → v ≡ accepted → q < l.length → edge_found v n q ≡ edge_at t f e
    seeking-found g b =
        let has = has_both t f n q h (omega (arith, long)) in
        let below = place_below t f n q has in
        rw (g, skip, ← (first_here (other_at version t f w) below (same q b ∙ from.some (omega arith))), lt-ltb (place_of t f n q) (pixel_count t f) below)
        (λ i. edge_found accepted (sym (line_at_place t f n q has) i) (sym (pixel_at_place t f n q has) i))

    pub seeking-more : l.length ≤ q → Seeking version t f w e (n + 1) 0
    seeking-more b =
        let next-line : place_of t f n q ≡ place_of t f (n + 1) 0 = omega (arith, from.less, long, x.inside, before_more t f n) in
        record { inside = omega arith; left = rw next-line at skip }

-- ---- the answer, case by case: a refused profile, a pixel that the field does not have, and one that it has

module _ (rules : Ruleset) (p : Profile) (line pixel : ℕ) {v : Verdict} where
  pub edge_refused : v ≡ check_profile rules p → accepts (check_profile rules p) ≡ false → no_edge v ≡ next_edge_answer rules p line pixel
  unfolding next_edge_answer
  edge_refused f e = rw (f, e)

  pub edge_nowhere : v ≡ refused 19 0 → accepts (check_profile rules p) ≡ true → has_pixel p.tables p.field line pixel ≡ false
      → no_edge v ≡ next_edge_answer rules p line pixel
  unfolding next_edge_answer
  edge_nowhere f e h = rw (f, e, h)

module _ (rules : Ruleset) (p : Profile) (line pixel : ℕ) (e : accepts (check_profile rules p) ≡ true) (h : has_pixel p.tables p.field line pixel ≡ true) where
  pub edge_there : {r : Edge} → r ≡ edge_at p.tables p.field (change_after rules.version p.tables p.field (place_of p.tables p.field line pixel))
      → r ≡ next_edge_answer rules p line pixel
  unfolding next_edge_answer
  edge_there g = rw (g, e, h)

-- ---- what the answer means

module _ (version : ℕ) (t : Tables) (f : Field) (line pixel : ℕ) (h : has_pixel t f line pixel ≡ true) where
  abbrev other : ℕ → Bool
  other = other_at version t f (word_at version t f (place_of t f line pixel))

  abbrev change : ℕ
  change = change_after version t f (place_of t f line pixel)

  change_is : Is other (place_of t f line pixel) (pixel_count t f) change
  unfolding change_after
  change_is = next_is other (place_of t f line pixel) (pixel_count t f) (place_below t f line pixel h)

  -- up to the change there is one word
  one_word : (n q : ℕ) → has_pixel t f n q ≡ true → place_of t f line pixel < place_of t f n q → place_of t f n q < change
      → word_of (line_of version t f n) q ≡ word_of (line_of version t f line) pixel
  one_word n q has a b =
      sym (word_at_place version t f n q has) ∙ eqb-true _ _ (tested_yes refl (change_is.none (place_of t f n q) a b)) ∙ word_at_place version t f line pixel h

  edge_means : EdgeMeans version t f line pixel (edge_at t f change)
  edge_means =
      cond-case (EdgeMeans version t f line pixel) (ltb change (pixel_count t f)) _ _
      (λ b.
      let below = ltb-true change (pixel_count t f) b in
      let place = place_at t f change below in
      record {
        there = λ e. at_has t f change below;
        later = λ e. omega (arith, place, change_is.low);
        another = λ e g. clash (change_is.some below) (agrees (g ∙ sym (word_at_place version t f line pixel h)));
        between = λ e n q has a b. one_word n q has a (omega (arith, place));
        none = λ e. absurd (clash refl e);
      })
      (λ b.
      record {
        there = λ e. absurd (clash e refl);
        later = λ e. absurd (clash e refl);
        another = λ e. absurd (clash e refl);
        between = λ e. absurd (clash e refl);
        none = λ e n q has a. one_word n q has a (omega (arith, place_below t f n q has, ltb-false change (pixel_count t f) b));
      })

pub next_edge_means : (rules : Ruleset) (p : Profile) (line pixel : ℕ) → accepts (check_profile rules p) ≡ true → has_pixel p.tables p.field line pixel ≡ true
    → EdgeMeans rules.version p.tables p.field line pixel (next_edge_answer rules p line pixel)
next_edge_means rules p line pixel e h =
    rw (← (edge_there rules p line pixel e h refl)) (edge_means rules.version p.tables p.field line pixel h)

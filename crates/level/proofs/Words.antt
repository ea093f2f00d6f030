-- The words of lines and of a field: each is below 2 ^ 14, and field pixel n is the pixel of one line, found either way round. Every level is
-- a number mod 2, and a line starts where the lengths of the lines before it add up to.
-- Assumes nothing.
use mathlib.Core.Path.{◌≡◌, refl, sym, ap, ◌∙◌}
use mathlib.Core.Bool.{Bool, true, false, ◌||◌}
use mathlib.Core.List.{List}
use Prim.Native.Nat.{ℕ, ◌+◌, ◌*◌, ◌-◌, ◌%◌, ◌^◌, ◌≤◌, ◌<◌}
use native.Mathlib.Omega.{arith}
use borrow.Author.Tests.{ltb-true, ltb-false, lt-ltb}
use lib.Dec.{ltb, leb}
use lib.ListN.{length, get_or, get_or-eq_default}
use Rattle.std.proofs.Common.{Option, None, Some}
use Rattle.profile.proofs.Laws.{
  cond-case,
  by_cases,
  length-chunks-sum,
  get_d_chunks,
  length_ones,
  get_d_ones,
  sum_shift,
  sum_ext,
  last_below,
  last_is,
  last_starts,
  last_next,
}
use Rattle.profile.proofs.Lines.{
  before-none,
  before_more,
  before-all,
  before_later,
  size_product,
  pixels_lines,
  has_line,
  has_pixel_lem,
  has_both,
  end_most,
  region_is,
  regions_lines,
  line-length-in,
  region-pixels,
}
use Rattle.profile.specs.Lists.{chunks, last_start}
use Rattle.profile.specs.Geometry.{
  region_count,
  Ordered,
  first_line,
  end_line,
  region_of,
  region_size,
  length_in,
  line_length,
  pixels_before,
  pixel_count,
  has_pixel,
}
use Rattle.profile.specs.declared.Pattern.{Pattern}
use Rattle.profile.specs.declared.Tables.{Tables}
use Rattle.profile.specs.declared.Field.{Field}
use Rattle.level.specs.declared.Run.{Run}
use Rattle.level.specs.declared.Run.TheVariants.{Afresh, Carried, Multiplied}
use Rattle.level.specs.declared.Pulse.{Pulse}
use Rattle.level.specs.declared.Span.{Span}
use Rattle.level.specs.declared.Line.{Line}
use Rattle.level.specs.Line.{line_with, line_in, line_of}
use Rattle.level.specs.Strips.{strip_with, strip_of, line_on}
use Rattle.level.specs.Word.{
  run_level,
  carried_level,
  times_level,
  first_level,
  second_level,
  of_second,
  unmasked,
  shown_at,
  v_level,
  pulse_level,
  no_pulse,
  gate_level,
  span_level,
  six,
  five,
  v_word,
  gate_word,
  word_of,
}
use Rattle.level.specs.Fieldwords.{line_words, words_on_line, field_words}
use Rattle.level.specs.Place.{place_of, line_at, pixel_at}

-- ---- a word is below 2 ^ 14: every level is a number mod 2

mod_small : (n : ℕ) → n % 2 < 2
mod_small n = omega arith

pub run_small : (a : Pattern) (start r k q : ℕ) → run_level a start r k q < 2
run_small a start r k q =
    cond-case (λ n. n < 2) (ltb q start) _ _ (λ e. mod_small _)
    (λ e. cond-case (λ n. n < 2) (ltb (q - start) (r * a.length)) _ _ (λ u. mod_small _) (λ u. mod_small _))

pub carried_small : (a : Pattern) (start r k q : ℕ) → carried_level a start r k q < 2
carried_small a start r k q =
    cond-case (λ n. n < 2) (ltb q start) _ _ (λ e. mod_small _)
    (λ e. cond-case (λ n. n < 2) (ltb (q - start) (r * a.length)) _ _ (λ u. mod_small _) (λ u. mod_small _))

pub times_small : (a : Pattern) (start k q : ℕ) → times_level a start k q < 2
times_small a start k q = cond-case (λ n. n < 2) (ltb q start) _ _ (λ e. mod_small _) (λ e. mod_small _)

pub first_small : (run : Run) (a : Pattern) (start r k q : ℕ) → first_level run a start r k q < 2
first_small Afresh a start r k q = run_small a start r k q
first_small Carried a start r k q = carried_small a start r k q
first_small Multiplied a start r k q = times_small a start k q

of_second_small : (o : Option Pattern) (k p : ℕ) {first : ℕ} → first < 2 → of_second o p (λ a. second_level a k p) first < 2
of_second_small None k p h = h
of_second_small (Some a) k p h = cond-case (λ n. n < 2) (leb a.length p) _ _ (λ e. mod_small _) (λ e. h)

pub unmasked_small : (l : Line) (k p : ℕ) → unmasked l k p < 2
unmasked_small l k p = of_second_small l.second k p (first_small l.run l.pattern l.start l.repetitions k (l.origin + p))

pub v_level_small : (l : Line) (k p : ℕ) → v_level l k p < 2
v_level_small l k p = unmasked_small l k (shown_at l.mask1 l.mask2 p)

pub pulse_small : (g : Pulse) (p : ℕ) → pulse_level g p < 2
pulse_small g p = mod_small _

pub span_small : (s : Span) (p : ℕ) → span_level s p < 2
span_small s p = mod_small _

six_small : (g : ℕ → ℕ) → ((k : ℕ) → g k < 2) → six g < 64
six_small g h = omega (arith, h 0, h 1, h 2, h 3, h 4, h 5)

five_small : (g : ℕ → ℕ) → ((k : ℕ) → g k < 2) → five g < 32
five_small g h = omega (arith, h 0, h 1, h 2, h 3, h 4)

pub v_word_small : (l : Line) (p : ℕ) → v_word l p < 64
unfolding v_word
v_word_small l p = six_small (λ k. v_level l k p) (λ k. v_level_small l k p)

pub gate_word_small : (gates : List Pulse) (p : ℕ) → gate_word gates p < 32
unfolding gate_word
gate_word_small gates p = five_small (λ k. gate_level gates k p) (λ k. pulse_small (get_or gates k no_pulse) p)

pub word_small : (l : Line) (p : ℕ) → word_of l p < 2 ^ 14
unfolding word_of
word_small l p =
    let v = v_word_small l p in
    let g = gate_word_small l.gates p in
    let s : pulse_level l.subck p < 2 = pulse_small l.subck p in
    let m : span_level l.mshut p < 2 = span_small l.mshut p in
    let r : span_level l.strobe p < 2 = span_small l.strobe p in
    omega arith

-- ---- the words of a line

pub line_words-length : (l : Line) (n : ℕ) → length (line_words l n) ≡ n
unfolding line_words
line_words-length l n = length_ones n (word_of l)

pub line_words-at : (l : Line) (n p : ℕ) → p < n → get_or (line_words l n) p 0 ≡ word_of l p
unfolding line_words
line_words-at l n p h = get_d_ones n (word_of l) 0 p h

-- ---- one of one number

pub or_none : (b : Bool) → b || false ≡ b
or_none true = refl
or_none false = refl

-- ---- the line of a number that the field has

module _ (version : ℕ) (t : Tables) (f : Field) (line : ℕ) where
  pub line_of_lem : line < f.lines → line_of version t f line ≡ line_in version t f line (region_of f line)
  unfolding line_of
  line_of_lem h = rw (lt-ltb line f.lines h)

  pub line_of-length : line < f.lines → (line_of version t f line).length ≡ line_length t f line
  unfolding line_with line_length
  line_of-length h = ap (λ (l : Line). l.length) (line_of_lem h)

  -- a pixel that the field has is one of the line's
  pub pixel_of_line : (pixel : ℕ) {l : Line} → l ≡ line_of version t f line → has_pixel t f line pixel ≡ true → pixel < l.length
  pixel_of_line pixel e h =
      omega (arith, has_pixel_lem t f line pixel h, ap (λ (l : Line). l.length) e, line_of-length (has_line t f line pixel h))

  -- in region i
  module _ (o : Ordered f) (i : ℕ) (h : i < region_count f) (l : first_line f i ≤ line) (u : line < end_line f i) where
    pub line-of-region : line_of version t f line ≡ line_in version t f line i
    line-of-region = line_of_lem (omega (arith, end_most f o i)) ∙ ap (line_in version t f line) (region_is f o i line h l u)

    pub words-of-region : words_on_line version t f line ≡ line_words (line_in version t f line i) (length_in t f i line)
    words-of-region = rw (line-of-region, line-length-in f o t i line h l u)

-- what code makes of what the lines of a region share: a region's pixels before a line are their product
pub strip_line : (version : ℕ) (t : Tables) (f : Field) (i line : ℕ) → line_on (strip_of version t f i) line ≡ line_in version t f line i
unfolding line_on strip_with line_with length_in
strip_line version t f i line = rw (size_product t f i line)

-- ---- a field pixel, and its line and pixel: of two lines that start at one place the later has it, for the earlier has no pixel

module _ (t : Tables) (f : Field) where
  pub place_below : (line pixel : ℕ) → has_pixel t f line pixel ≡ true → place_of t f line pixel < pixel_count t f
  place_below line pixel e =
      omega (arith, has_pixel_lem t f line pixel e, before_later t f line f.lines (has_line t f line pixel e), before-all t f)

  pub line_at_place : (line pixel : ℕ) → has_pixel t f line pixel ≡ true → line_at t f (place_of t f line pixel) ≡ line
  unfolding line_at
  line_at_place line pixel e =
      let l = has_pixel_lem t f line pixel e in
      last_is (pixels_before t f) f.lines (place_of t f line pixel) line (has_line t f line pixel e) (omega arith)
      (λ i a b. omega (arith, before_later t f line i a))

  pub pixel_at_place : (line pixel : ℕ) → has_pixel t f line pixel ≡ true → pixel_at t f (place_of t f line pixel) ≡ pixel
  pixel_at_place line pixel e = omega (arith, ap (pixels_before t f) (line_at_place line pixel e))

  module _ (n : ℕ) (h : n < pixel_count t f) where
    pub line-at-below : line_at t f n < f.lines
    unfolding line_at
    line-at-below = last_below (pixels_before t f) f.lines n (pixels_lines t f (omega arith))

    pub line-at-starts : pixels_before t f (line_at t f n) ≤ n
    unfolding line_at
    line-at-starts = last_starts (pixels_before t f) f.lines n (pixels_lines t f (omega arith)) (omega (arith, before-none t f))

    -- the next line starts later, and so does the field's end
    line-at-ends : n < pixels_before t f (line_at t f n + 1)
    unfolding line_at
    line-at-ends =
        let line : ℕ = last_start (pixels_before t f) f.lines n in
        by_cases (ltb (line + 1) f.lines)
        (λ e. last_next (pixels_before t f) f.lines n (line + 1) (omega arith) (ltb-true (line + 1) f.lines e))
        (λ e.
        let end : line + 1 ≡ f.lines = omega (arith, ltb-false (line + 1) f.lines e, line-at-below) in
        rw (end, before-all t f) h)

    pub pixel-at-below : pixel_at t f n < line_length t f (line_at t f n)
    pixel-at-below = omega (arith, line-at-starts, line-at-ends, before_more t f (line_at t f n))

    pub at_has : has_pixel t f (line_at t f n) (pixel_at t f n) ≡ true
    at_has = has_both t f (line_at t f n) (pixel_at t f n) line-at-below pixel-at-below

    pub place_at : place_of t f (line_at t f n) (pixel_at t f n) ≡ n
    place_at = omega (arith, line-at-starts)

-- ---- the words of a field, for every version and every field

module _ (version : ℕ) (t : Tables) (f : Field) where
  pub lines_words-length : (n : ℕ) → length (chunks n (words_on_line version t f)) ≡ pixels_before t f n
  unfolding pixels_before
  lines_words-length n =
      length-chunks-sum n (words_on_line version t f)
      ∙ sum_ext (λ line. length (words_on_line version t f line)) (line_length t f) 0 n (λ line a b. line_words-length (line_of version t f line) (line_length t f line))

  pub field_words-length : length (field_words version t f) ≡ pixel_count t f
  unfolding field_words
  field_words-length = lines_words-length f.lines ∙ before-all t f

  pub field-word_at : (line pixel : ℕ) → line < f.lines → pixel < line_length t f line
      → get_or (field_words version t f) (place_of t f line pixel) 0 ≡ word_of (line_of version t f line) pixel
  unfolding field_words
  field-word_at line pixel h l =
      let long = line_words-length (line_of version t f line) (line_length t f line) in
      ap (λ (n : ℕ). get_or (chunks f.lines (words_on_line version t f)) (n + pixel) 0) (sym (lines_words-length line))
      ∙ get_d_chunks f.lines (words_on_line version t f) 0 line pixel h (omega arith)
      ∙ line_words-at (line_of version t f line) (line_length t f line) pixel l

  module _ (n : ℕ) (h : n < pixel_count t f) where
    pub field-word : get_or (field_words version t f) n 0 ≡ word_of (line_of version t f (line_at t f n)) (pixel_at t f n)
    field-word =
        ap (λ (k : ℕ). get_or (field_words version t f) k 0) (sym (place_at t f n h))
        ∙ field-word_at (line_at t f n) (pixel_at t f n) (line-at-below t f n h) (pixel-at-below t f n h)

  -- past the end there is the default, 0
  pub field_words_small : (n : ℕ) → get_or (field_words version t f) n 0 < 2 ^ 14
  field_words_small n =
      by_cases (ltb n (pixel_count t f))
      (λ e. rw (field-word n (ltb-true n (pixel_count t f) e)) (word_small (line_of version t f (line_at t f n)) (pixel_at t f n)))
      (λ e.
      let past = ltb-false n (pixel_count t f) e in
      rw (get_or-eq_default (field_words version t f) 0 {n = n} (omega (arith, field_words-length))) (omega arith))

  -- ---- the words region by region

  module _ (o : Ordered f) where
    pub region-words : field_words version t f
        ≡ chunks (region_count f) (λ i. chunks (end_line f i - first_line f i) (λ k. words_on_line version t f (first_line f i + k)))
    unfolding field_words
    region-words = sym (regions_lines f o (words_on_line version t f))

    pub region-words-length : (i : ℕ) → i < region_count f
        → length (chunks (end_line f i - first_line f i) (λ k. words_on_line version t f (first_line f i + k))) ≡ region_size t f i
    region-words-length i h =
        let n : ℕ = end_line f i - first_line f i in
        length-chunks-sum n (λ k. words_on_line version t f (first_line f i + k))
        ∙ sum_ext (λ k. length (words_on_line version t f (first_line f i + k))) (λ k. line_length t f (first_line f i + k)) 0 n
        (λ k a b. line_words-length (line_of version t f (first_line f i + k)) (line_length t f (first_line f i + k)))
        ∙ sym (sum_shift (line_length t f) (first_line f i) n)
        ∙ sym (region-pixels f o t i (end_line f i) h (omega arith))

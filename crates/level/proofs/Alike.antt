-- What runs that flip changed and what they did not: an output with no or two used toggles, a multiplier region, a second pattern, gates, SUBCK and shutters have
-- the same level at every pixel by every version, for an even number of flips leaves a level; and a field pixel has the same place.
-- Assumes nothing.
use Prim.Native.Nat.{ℕ, ◌+◌, ◌-◌, ◌*◌, ◌/◌, ◌%◌, ◌<◌}
use native.Mathlib.Nat.{mul-zero}
use native.Mathlib.Omega.{arith}
use mathlib.Core.Path.{◌≡◌, refl, sym, ap, ◌∙◌}
use mathlib.Core.Logic.{◌⊎◌, inl, inr}
use mathlib.Core.Bool.{Bool, true, false, cond, ◌&&◌}
use mathlib.Core.List.{[], ◌∷◌}
use lib.Dec.{ltb, leb}
use Rattle.std.specs.Bool.{then_some}
use Rattle.profile.specs.Geometry.{region_at, region_of, sequence_of, region_pixels, line_length, repetitions}
use Rattle.profile.specs.Rules.{has_second, second_of}
use Rattle.profile.specs.Patterns.{pattern_of}
use Rattle.profile.specs.declared.Mode.{Mode}
use Rattle.profile.specs.declared.Mode.TheVariants.{Plain, Sweep, Multiplier}
use Rattle.profile.specs.declared.Pattern.{Pattern}
use Rattle.profile.specs.declared.Sequence.{Sequence}
use Rattle.profile.specs.declared.Tables.{Tables}
use Rattle.profile.specs.declared.Field.{Field}
use Rattle.profile.specs.declared.Profile.{Profile}
use Rattle.profile.specs.declared.Ruleset.{Ruleset}
use Rattle.profile.proofs.Laws.{cond-case, by_cases, chunks_ext}
use Rattle.profile.proofs.Alike.{check_alike}
use Rattle.level.specs.Line.{on_gate_line, repeated, run_of, origin_of, line_with, line_of}
use Rattle.level.specs.Word.{flipped, start_level, run_flips, run_toggles, run_level, carried_level, first_level, of_second, unmasked, shown_at, v_level, pulse_level, span_level, v_word, gate_word, word_of}
use Rattle.level.specs.Fieldwords.{line_words, words_on_line, field_words}
use Rattle.level.specs.Place.{locate_answer}
use Rattle.level.proofs.Nexts.{clash}

-- an output of a pattern that runs has no or two used toggles
abbrev pub EvenUsed : Pattern → ℕ → Type 0
EvenUsed a k = (run_toggles a k ≡ 0) ⊎ (run_toggles a k ≡ 2)

-- a level that i such runs leave
none-flipped : (a : Pattern) (k i n : ℕ) → EvenUsed a k → flipped (start_level a k) (i * run_toggles a k + n) ≡ flipped (start_level a k) n
none-flipped a k i n (inl e) =
    let z : i * run_toggles a k ≡ 0 = ap (λ u. i * u) e ∙ mul-zero i in
    omega arith
none-flipped a k i n (inr e) =
    let z : i * run_toggles a k ≡ i * 2 = ap (λ u. i * u) e in
    omega arith

pub carried_even : (a : Pattern) (start r k q : ℕ) → EvenUsed a k → carried_level a start r k q ≡ run_level a start r k q
carried_even a start r k q e =
    let after : flipped (start_level a k) (r * run_toggles a k) ≡ start_level a k = omega (arith, none-flipped a k r 0 e) in
    λ i.
    cond (ltb q start) (start_level a k)
    (cond (ltb (q - start) (r * a.length))
    (none-flipped a k ((q - start) / a.length) (run_flips a k ((q - start) % a.length)) e i)
    (after i))

-- in a multiplier region every output, in another one with no or two used toggles
abbrev pub Steady : Mode → Pattern → ℕ → Type 0
Steady Plain a k = EvenUsed a k
Steady Sweep a k = EvenUsed a k
Steady Multiplier a k = Unit {0}

repeated-first : (version : ℕ) (a : Pattern) (start r k q : ℕ) → EvenUsed a k → first_level (repeated version) a start r k q ≡ run_level a start r k q
repeated-first version a start r k q e =
    cond-case (λ run. first_level run a start r k q ≡ run_level a start r k q) (ltb version 2) _ _ (λ h. refl) (λ h. carried_even a start r k q e)

first_alike : (v w : ℕ) (m : Mode) (a : Pattern) (start r k q : ℕ) → Steady m a k
    → first_level (run_of v m) a start r k q ≡ first_level (run_of w m) a start r k q
first_alike v w Plain a start r k q e = repeated-first v a start r k q e ∙ sym (repeated-first w a start r k q e)
first_alike v w Sweep a start r k q e = repeated-first v a start r k q e ∙ sym (repeated-first w a start r k q e)
first_alike v w Multiplier a start r k q e = refl

-- the second pattern has taken over, or the first gives the same
chosen : (acts : Bool) (a : Pattern) (p : ℕ) (s : Pattern → ℕ) (x y : ℕ) → (acts && leb a.length p ≡ true) ⊎ (x ≡ y)
    → of_second (then_some acts a) p s x ≡ of_second (then_some acts a) p s y
chosen true a p s x y (inl e) = rw e
chosen false a p s x y (inl e) = absurd (clash e refl)
chosen acts a p s x y (inr e) = ap (of_second (then_some acts a) p s) e

module _ (t : Tables) (f : Field) (line : ℕ) where
  abbrev mode : Mode
  mode = (region_at f (region_of f line)).mode

  abbrev sequence : Sequence
  sequence = sequence_of t (region_at f (region_of f line)).sequence

  abbrev pattern : Pattern
  pattern = pattern_of t.registers sequence.pattern

  -- the second pattern has taken over at a pixel
  abbrev second : ℕ → Bool
  second p = (has_second f && on_gate_line f line) && leb (second_of t f).length p

  -- output k at pixel p of the line: the second pattern's, or steady
  abbrev pub Same : ℕ → ℕ → Type 0
  Same k p = (second p ≡ true) ⊎ Steady mode pattern k

  module _ (v w : ℕ) where
    -- before masks
    pub unmasked-alike : (k p : ℕ) → Same k p → unmasked (line_of v t f line) k p ≡ unmasked (line_of w t f line) k p
    unfolding line_of line_with
    unmasked-alike k p h =
        by_cases (ltb line f.lines)
        (λ e. rw e (chosen (has_second f && on_gate_line f line) (second_of t f) p _ _ _ (either h)))
        (λ e. rw e)
      where
        either : Same k p
            → (second p ≡ true)
            ⊎ (first_level (run_of v mode) pattern sequence.start (repetitions sequence line) k (origin_of mode (region_pixels t f (region_of f line) line) + p)
            ≡ first_level (run_of w mode) pattern sequence.start (repetitions sequence line) k (origin_of mode (region_pixels t f (region_of f line) line) + p))
        either (inl e) = inl e
        either (inr e) = inr (first_alike v w mode pattern sequence.start (repetitions sequence line) k _ e)

    -- masks, gates, SUBCK and shutters are those of the line by either version
    pub parts-alike : let a = line_of v t f line in let b = line_of w t f line in
        (a.mask1 ≡ b.mask1) × (a.mask2 ≡ b.mask2) × (a.gates ≡ b.gates) × (a.subck ≡ b.subck) × (a.mshut ≡ b.mshut) × (a.strobe ≡ b.strobe)
    unfolding line_of line_with
    parts-alike = by_cases (ltb line f.lines) (λ e. rw e (refl, refl, refl, refl, refl, refl)) (λ e. rw e (refl, refl, refl, refl, refl, refl))

    -- and so is the pixel that shows, so that a level is the same at every pixel
    pub shown-alike : (p : ℕ)
        → shown_at (line_of v t f line).mask1 (line_of v t f line).mask2 p ≡ shown_at (line_of w t f line).mask1 (line_of w t f line).mask2 p
    shown-alike p = λ i. shown_at (parts-alike.0 i) (parts-alike.1 i) p

    pub level-alike : (k p : ℕ) → Same k (shown_at (line_of v t f line).mask1 (line_of v t f line).mask2 p) → v_level (line_of v t f line) k p ≡ v_level (line_of w t f line) k p
    level-alike k p h = unmasked-alike k _ h ∙ ap (unmasked (line_of w t f line) k) (shown-alike p)

    -- a line whose outputs are all steady has the same words
    pub word-alike : (p : ℕ) → ((k : ℕ) → k < 6 → Steady mode pattern k) → word_of (line_of v t f line) p ≡ word_of (line_of w t f line) p
    unfolding word_of v_word
    word-alike p h =
        let parts = parts-alike in
        let one : (k : ℕ) → k < 6 → v_level (line_of v t f line) k p ≡ v_level (line_of w t f line) k p = λ k l. level-alike k p (inr (h k l)) in
        λ i.
        one 0 (omega arith) i + one 1 (omega arith) i * 2 + one 2 (omega arith) i * 4 + one 3 (omega arith) i * 8 + one 4 (omega arith) i * 16
        + one 5 (omega arith) i * 32
        + gate_word (parts.2 i) p * 64
        + pulse_level (parts.3 i) p * 2048
        + span_level (parts.4 i) p * 4096
        + span_level (parts.5 i) p * 8192

-- a field whose outputs are steady on every line has the same words
pub words_alike : (v w : ℕ) (t : Tables) (f : Field) → ((line k : ℕ) → line < f.lines → k < 6 → Steady (mode t f line) (pattern t f line) k)
    → field_words v t f ≡ field_words w t f
unfolding field_words line_words
words_alike v w t f h =
    chunks_ext f.lines (words_on_line v t f) (words_on_line w t f)
    (λ line l. chunks_ext (line_length t f line) _ _ (λ p m. ap (λ (x : ℕ). x ∷ []) (word-alike t f line v w p (λ k. h line k l))))

-- the place of a field pixel
pub locate_alike : (rules rules' : Ruleset) (p : Profile) (n : ℕ) → locate_answer rules p n ≡ locate_answer rules' p n
unfolding locate_answer
locate_alike rules rules' p n = rw (check_alike rules rules' p)

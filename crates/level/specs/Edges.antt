-- The pixels of a line at which some output can change, by the rules: "where the rules put a start, toggle, run end, freeze, resume, on or off". A line's
-- first pixel needs no rule: it is where a line's first stretch begins. From each of these pixels to the next, or to the line's end, there is one word
-- (proofs/Stopping.antt: stop-is).
-- Assumes nothing.
use Rattle.std.specs.Prelude.{ℕ, zero, suc, ◌+◌, ◌-◌, ◌*◌, ◌%◌, ◌≤◌, ◌<◌, ◌≡◌, ◌⊎◌, List, [], ◌∷◌, map, Bool, true, false, Option, None, Some, cond, not, ◌&&◌, ◌||◌, get_or, ltb, leb, eqb}
use Rattle.profile.specs.Patterns.{not4095, used}
use Rattle.profile.specs.declared.Mode.TheVariants.{Plain}
use Rattle.profile.specs.declared.Pattern.{Pattern}
use Rattle.level.specs.declared.Run.{Run}
use Rattle.level.specs.declared.Run.TheVariants.{Afresh, Carried, Multiplied}
use Rattle.level.specs.declared.Mask.{Mask}
use Rattle.level.specs.declared.Pulse.{Pulse}
use Rattle.level.specs.declared.Span.{Span}
use Rattle.level.specs.declared.Line.{Line}
use Rattle.level.specs.Word.{of_second, frozen, no_pulse, word_of}
use Rattle.level.specs.Next.{next, any_of}

-- a used toggle of some output, times the scale, is at t
abbrev pub toggle_at : (ℕ → Bool) → Pattern → ℕ → ℕ → Bool
toggle_at uses a scale t = any_of 18 (λ k. uses (get_or a.toggles k 0) && eqb t (get_or a.toggles k 0 * scale))

-- plain and sweep, t pixels after the start: a repetition's start, which is the start's own and the last one's end, the run's end, a toggle
unfoldable pub run_edge_of : Pattern → ℕ → ℕ → Bool
run_edge_of a r t = leb t (r * a.length) && (eqb (t % a.length) 0 || toggle_at (used Plain a.length) a 1 (t % a.length))

-- multiplier: the start, a toggle times the length
unfoldable pub times_edge_of : Pattern → ℕ → Bool
times_edge_of a t = eqb t 0 || toggle_at not4095 a a.length t

-- the first pattern, at pixel q since its start level was set
abbrev pub first_edge_of : Run → Pattern → ℕ → ℕ → ℕ → Bool
first_edge_of Afresh a start r q = leb start q && run_edge_of a r (q - start)
first_edge_of Carried a start r q = leb start q && run_edge_of a r (q - start)
first_edge_of Multiplied a start r q = leb start q && times_edge_of a (q - start)

-- the second pattern: its start, a toggle
unfoldable pub second_edge_of : Pattern → ℕ → Bool
second_edge_of a p = eqb p a.length || toggle_at not4095 a 1 (p - a.length)

-- V1 to V6 before masks
abbrev pub unmasked_edge_of : Line → ℕ → Bool
unmasked_edge_of l p =
    of_second l.second p (λ a. second_edge_of a p) (first_edge_of l.run l.pattern l.start l.repetitions (l.origin + p))

-- a freeze or a resume that the mask turns on
abbrev pub mask_edge : Option Mask → ℕ → Bool
mask_edge None p = false
mask_edge (Some m) p = eqb p m.freeze || eqb p m.resume

-- a gate or SUBCK that acts flips at its toggles, a shutter where its span begins and ends
abbrev pub toggles_edge : Option (ℕ × ℕ) → ℕ → Bool
toggles_edge None p = false
toggles_edge (Some t) p = eqb p t.0 || eqb p t.1

abbrev pub pulse_edge : Pulse → ℕ → Bool
pulse_edge g p = toggles_edge g.toggles p

abbrev pub span_edge : Span → ℕ → Bool
span_edge s p = leb s.from s.to && (eqb p s.from || eqb p s.to)

-- VSG1 to VSG5, SUBCK, MSHUT, STROBE
unfoldable pub others_edge : List Pulse → Pulse → Span → Span → ℕ → Bool
others_edge gates subck mshut strobe p =
    ((any_of 5 (λ k. pulse_edge (get_or gates k no_pulse) p) || pulse_edge subck p) || span_edge mshut p) || span_edge strobe p

-- some output can change at pixel p: one of those eight, or V1 to V6, which a mask that holds lets change at its freeze and its resume alone
unfoldable pub edge_of : Line → ℕ → Bool
edge_of l p =
    ((others_edge l.gates l.subck l.mshut l.strobe p || mask_edge l.mask1 p) || mask_edge l.mask2 p)
    || (not (frozen l.mask1 p) && (not (frozen l.mask2 p) && unmasked_edge_of l p))

-- the stop: the first pixel after p at which some output can change, else the line's end; p is a pixel of the line
unfoldable pub stop_after : Line → ℕ → ℕ
stop_after l p = next (λ q. edge_of l q) p l.length

-- what a stop is (proofs/Stopping.antt: stop-is): later, on the list or the line's end, and before it no pixel is on the list and no word another
pub record Stop (l : Line) (p s : ℕ) : Type 0 where
  pub later : p < s
  pub within : s ≤ l.length
  pub listed : (s ≡ l.length) ⊎ (edge_of l s ≡ true)
  pub first : (q : ℕ) → p < q → q < s → edge_of l q ≡ false
  pub one_word : (q : ℕ) → p ≤ q → q < s → word_of l q ≡ word_of l p

-- a stretch of a line: one word, up to the pixel where it ends
pub record Stretch : Type 0 where
  pub word : ℕ
  pub end : ℕ

-- the stretches from pixel p on, n at most: the word there up to the stop, and so on from the stop
unfoldable pub stretches_from : Line → ℕ → ℕ → List Stretch
stretches_from l zero p = []
stretches_from l (suc n) p =
    cond (ltb p l.length) (record { word = word_of l p; end = stop_after l p } ∷ stretches_from l n (stop_after l p)) []

-- those of the whole line: a stretch has a pixel, so there are no more than pixels
abbrev pub stretches_of : Line → List Stretch
stretches_of l = stretches_from l l.length 0

abbrev pub stretch_ends : Line → List ℕ
stretch_ends l = map (λ (s : Stretch). s.end) (stretches_of l)

abbrev pub stretch_words : Line → List ℕ
stretch_words l = map (λ (s : Stretch). s.word) (stretches_of l)

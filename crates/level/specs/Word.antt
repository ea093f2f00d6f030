-- The word of 14 output levels at a pixel of a line, output by output. A line says how V1 to V6 run on it; no version and no mode is looked at.
-- Assumes nothing.
use Rattle.std.specs.Prelude.{ℕ, ◌+◌, ◌-◌, ◌*◌, ◌/◌, ◌%◌, ◌^◌, List, Bool, true, false, Option, None, Some, cond, ◌&&◌, get_or, ltb, leb}
use Rattle.profile.specs.Patterns.{row_of, not4095, used}
use Rattle.profile.specs.declared.Mode.TheVariants.{Plain}
use Rattle.profile.specs.declared.Pattern.{Pattern}
use Rattle.level.specs.declared.Run.{Run}
use Rattle.level.specs.declared.Run.TheVariants.{Afresh, Carried, Multiplied}
use Rattle.level.specs.declared.Mask.{Mask}
use Rattle.level.specs.declared.Pulse.{Pulse}
use Rattle.level.specs.declared.Span.{Span}
use Rattle.level.specs.declared.Line.{Line}

abbrev pub bit : Bool → ℕ
bit true = 1
bit false = 0

-- a level flipped n times
abbrev pub flipped : ℕ → ℕ → ℕ
flipped level n = (level + n) % 2

-- from ≤ p < to
abbrev pub within : ℕ → ℕ → ℕ → Bool
within from to p = leb from p && ltb p to

-- The toggle count, for all six outputs and the second pattern: how many used toggles of a row have toggle × scale at or below t.
abbrev pub flips : (ℕ → Bool) → ℕ → List ℕ → ℕ → ℕ
flips uses scale row t =
    bit (uses (get_or row 0 0) && leb (get_or row 0 0 * scale) t)
    + bit (uses (get_or row 1 0) && leb (get_or row 1 0 * scale) t)
    + bit (uses (get_or row 2 0) && leb (get_or row 2 0 * scale) t)

-- the start level of output k
abbrev pub start_level : Pattern → ℕ → ℕ
start_level a k = a.levels / 2 ^ k % 2

-- the number of an output's used toggles
abbrev pub used_toggles : (ℕ → Bool) → List ℕ → ℕ
used_toggles uses row = bit (uses (get_or row 0 0)) + bit (uses (get_or row 1 0)) + bit (uses (get_or row 2 0))

-- output k in plain and sweep: how many of its used toggles are at or below t, and how many it has
abbrev pub run_flips : Pattern → ℕ → ℕ → ℕ
run_flips a k t = flips (used Plain a.length) 1 (row_of a.toggles k) t

abbrev pub run_toggles : Pattern → ℕ → ℕ
run_toggles a k = used_toggles (used Plain a.length) (row_of a.toggles k)

-- Version 1: "t = pixel − start. Before start the level is the start level. .. While t < r × length, the level is the start level flipped once for
-- each used toggle at or below t mod length: each repetition starts afresh. After that it is the start level."
abbrev pub run_level : Pattern → ℕ → ℕ → ℕ → ℕ → ℕ
run_level a start r k q =
    cond (ltb q start) (start_level a k)
    (cond (ltb (q - start) (r * a.length))
    (flipped (start_level a k) (run_flips a k ((q - start) % a.length)))
    (start_level a k))

-- Version 2: "A new repetition takes over the level the last one ended with, and after the last run the level stays." While t < r × length, the
-- start level is flipped t / length times by all its used toggles, and by those at or below t mod length; after that r times by all.
abbrev pub carried_level : Pattern → ℕ → ℕ → ℕ → ℕ → ℕ
carried_level a start r k q =
    cond (ltb q start) (start_level a k)
    (cond (ltb (q - start) (r * a.length))
    (flipped (start_level a k) ((q - start) / a.length * run_toggles a k + run_flips a k ((q - start) % a.length)))
    (flipped (start_level a k) (r * run_toggles a k)))

-- "Multiplier: t likewise; one flip for each used toggle with toggle × length at or below t, and no return afterwards."
abbrev pub times_level : Pattern → ℕ → ℕ → ℕ → ℕ
times_level a start k q =
    cond (ltb q start) (start_level a k)
    (flipped (start_level a k) (flips not4095 a.length (row_of a.toggles k) (q - start)))

-- the first pattern, as it runs, at pixel q since its start level was set; "Sweep: the same with t counted from the region's first pixel, through
-- line ends."
abbrev pub first_level : Run → Pattern → ℕ → ℕ → ℕ → ℕ → ℕ
first_level Afresh a start r k q = run_level a start r k q
first_level Carried a start r k q = carried_level a start r k q
first_level Multiplied a start r k q = times_level a start k q

-- "Second pattern: .. from the pixel equal to its length, its start level flipped for each used toggle at or below pixel − length."
abbrev pub second_level : Pattern → ℕ → ℕ → ℕ
second_level a k p = flipped (start_level a k) (flips not4095 1 (row_of a.toggles k) (p - a.length))

-- what the second pattern gives from there on, where it acts; else what the first gives
abbrev pub of_second : {A : Type 0} → Option Pattern → ℕ → (Pattern → A) → A → A
of_second None p second first = first
of_second (Some a) p second first = cond (leb a.length p) (second a) first

abbrev pub unmasked : Line → ℕ → ℕ → ℕ
unmasked l k p =
    of_second l.second p (λ a. second_level a k p) (first_level l.run l.pattern l.start l.repetitions k (l.origin + p))

-- "Mask, last: in freeze ≤ pixel < resume, the level that the unmasked rules give at pixel freeze."
abbrev pub frozen : Option Mask → ℕ → Bool
frozen None p = false
frozen (Some m) p = within m.freeze m.resume p

-- its freeze while a mask holds, else another pixel
abbrev pub held_at : Option Mask → ℕ → ℕ → ℕ
held_at None p other = other
held_at (Some m) p other = cond (within m.freeze m.resume p) m.freeze other

-- the pixel whose unmasked levels show
abbrev pub shown_at : Option Mask → Option Mask → ℕ → ℕ
shown_at a b p = held_at a p (held_at b p p)

abbrev pub v_level : Line → ℕ → ℕ → ℕ
v_level l k p = unmasked l k (shown_at l.mask1 l.mask2 p)

-- a gate's or SUBCK's toggles at or below the pixel, where they act
abbrev pub toggles_passed : Option (ℕ × ℕ) → ℕ → ℕ
toggles_passed None p = 0
toggles_passed (Some t) p = bit (leb t.0 p) + bit (leb t.1 p)

-- gates and SUBCK: "the start level flipped for each toggle at or below the pixel; else the start level"
abbrev pub pulse_level : Pulse → ℕ → ℕ
pulse_level g p = flipped g.level (toggles_passed g.toggles p)

abbrev pub no_pulse : Pulse
no_pulse = record { level = 0; toggles = None }

abbrev pub gate_level : List Pulse → ℕ → ℕ → ℕ
gate_level gates k p = pulse_level (get_or gates k no_pulse) p

-- shutters: the active level, "else the opposite"
abbrev pub span_level : Span → ℕ → ℕ
span_level s p = flipped s.level (cond (within s.from s.to p) 0 1)

-- six levels as bits 0 to 5, five as bits 0 to 4
abbrev pub six : (ℕ → ℕ) → ℕ
six f = f 0 + f 1 * 2 + f 2 * 4 + f 3 * 8 + f 4 * 16 + f 5 * 32

abbrev pub five : (ℕ → ℕ) → ℕ
five f = f 0 + f 1 * 2 + f 2 * 4 + f 3 * 8 + f 4 * 16

-- V1..V6 and VSG1..VSG5
unfoldable pub v_word : Line → ℕ → ℕ
v_word l p = six (λ k. v_level l k p)

unfoldable pub gate_word : List Pulse → ℕ → ℕ
gate_word gates p = five (λ k. gate_level gates k p)

-- "Bits 0..5 V1..V6, 6..10 VSG1..VSG5, 11 SUBCK, 12 MSHUT, 13 STROBE, 14 and 15 zero."
unfoldable pub word_of : Line → ℕ → ℕ
word_of l p =
    v_word l p + gate_word l.gates p * 64 + pulse_level l.subck p * 2048 + span_level l.mshut p * 4096
    + span_level l.strobe p * 8192

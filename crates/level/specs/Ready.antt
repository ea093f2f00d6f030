-- Nobody has to believe this file: it says what a line made ready holds, its levels at a pixel and whether some output can change there.
-- proofs/Making.antt and RuleEdges.antt show that these are Word's levels and the edges of Edges.
-- Assumes nothing.
use Rattle.std.specs.Prelude.{ℕ, min, ◌+◌, ◌-◌, ◌*◌, ◌/◌, ◌%◌, Bool, false, Option, None, Some, cond, not, ◌&&◌, ◌||◌, ltb, leb, eqb}
use Rattle.profile.specs.Patterns.{rows_of}
use Rattle.level.specs.Word.{frozen, shown_at}
use Rattle.level.specs.declared.first.First.{First}
use Rattle.level.specs.declared.second.Second.{Second}
use Rattle.level.specs.declared.ready.Ready.{Ready}
use Rattle.level.specs.Keys.{among, six_at}
use Rattle.level.specs.Eight.{eight_at, eight_edge}
use Rattle.level.specs.Edges.{mask_edge}

-- ---- the first pattern, t pixels after its start

-- the levels that repetition i begins with
abbrev pub begins_with : First → ℕ → ℕ
begins_with f i = cond (eqb (i % 2) 0) f.levels f.turned

abbrev pub run_pixels : First → ℕ
run_pixels f = f.repetitions * f.length

unfoldable pub run_at : First → ℕ → ℕ
run_at f t =
    cond (ltb t (run_pixels f))
    (six_at (begins_with f (t / f.length)) (rows_of f.keys) (t % f.length + 1))
    (begins_with f f.repetitions)

-- a repetition's start, the run's end, a toggle
unfoldable pub run_edge : First → ℕ → Bool
run_edge f t = leb t (run_pixels f) && (eqb (t % f.length) 0 || among f.keys (t % f.length))

unfoldable pub times_at : First → ℕ → ℕ
times_at f t = six_at f.levels (rows_of f.keys) (cond (eqb f.length 0) 65536 (min (t / f.length) 65535 + 1))

-- the start, a used toggle times the length
unfoldable pub times_edge : First → ℕ → Bool
times_edge f t = eqb t 0 || eqb (t % f.length) 0 && (ltb (t / f.length) 65536 && among f.keys (t / f.length))

-- by the region's pixel
abbrev pub first_at : First → ℕ → ℕ
first_at f q = cond (ltb q f.start) f.levels (cond f.times (times_at f (q - f.start)) (run_at f (q - f.start)))

abbrev pub first_edge : First → ℕ → Bool
first_edge f q = leb f.start q && cond f.times (times_edge f (q - f.start)) (run_edge f (q - f.start))

-- ---- the second pattern

-- where it acts and has taken over
abbrev pub begun_at : Option Second → ℕ → Option Second
begun_at None p = None
begun_at (Some s) p = cond (leb s.length p) (Some s) None

abbrev pub starts_at : Option Second → ℕ → Bool
starts_at None q = false
starts_at (Some s) q = eqb q s.length

unfoldable pub second_at : Second → ℕ → ℕ
second_at s p = six_at s.levels (rows_of s.keys) (p - s.length + 1)

unfoldable pub second_edge : Second → ℕ → Bool
second_edge s p = eqb p s.length || among s.keys (p - s.length)

-- ---- V1 to V6, before masks: of the second pattern where there is one, else of the first

abbrev pub over : {A : Type 0} → Option Second → (Second → A) → A → A
over None f x = x
over (Some s) f x = f s

unfoldable pub unmasked_at : Ready → ℕ → ℕ
unmasked_at r p = over (begun_at r.second p) (λ s. second_at s p) (first_at r.first (r.first.origin + p))

unfoldable pub unmasked_edge : Ready → ℕ → Bool
unmasked_edge r p = over (begun_at r.second p) (λ s. second_edge s p) (first_edge r.first (r.first.origin + p))

-- ---- the word

unfoldable pub ready_word : Ready → ℕ → ℕ
ready_word r p = unmasked_at r (shown_at r.mask1 r.mask2 p) + eight_at r.others.edges p * 64

-- a gate, SUBCK or shutter flips at p, or a mask begins or ends
abbrev pub still_edge : Ready → ℕ → Bool
still_edge r p = (eight_edge r.others.edges p || mask_edge r.mask1 p) || mask_edge r.mask2 p

-- whether some output can change at p: while a mask holds, V1 to V6 do not
unfoldable pub ready_edge : Ready → ℕ → Bool
ready_edge r p = still_edge r p || (not (frozen r.mask1 p) && (not (frozen r.mask2 p) && unmasked_edge r p))

-- Nobody has to believe this file: it says what making a line ready gives.
-- Assumes nothing.
use Rattle.std.specs.Prelude.{ℕ, ◌+◌, ◌*◌, ◌<◌, ◌≡◌, Bool, Option, List, [], ◌∷◌, get_or}
use Rattle.profile.specs.declared.Pattern.{Pattern}
use Rattle.level.specs.Word.{first_level, second_level, of_second, six, pulse_level, span_level, gate_word, word_of}
use Rattle.level.specs.declared.Run.{Run}
use Rattle.level.specs.declared.Pulse.{Pulse}
use Rattle.level.specs.declared.Span.{Span}
use Rattle.level.specs.declared.Line.{Line}
use Rattle.level.specs.declared.first.First.{First}
use Rattle.level.specs.declared.second.Second.{Second}
use Rattle.level.specs.declared.ready.Ready.{Ready}
use Rattle.level.specs.Ready.{first_at, first_edge, begun_at, second_at, second_edge, over, ready_word, ready_edge}
use Rattle.level.specs.Edges.{second_edge_of, edge_of}

-- ---- the rules, six or eight outputs at a time

unfoldable pub first_word : Run → Pattern → ℕ → ℕ → ℕ → ℕ
first_word run a start r q = six (λ k. first_level run a start r k q)

unfoldable pub second_word : Pattern → ℕ → ℕ
second_word a p = six (λ k. second_level a k p)

-- gates, SUBCK, MSHUT and STROBE as bits 0 to 7
unfoldable pub others_word : List Pulse → Pulse → Span → Span → ℕ → ℕ
others_word gates subck mshut strobe p =
    gate_word gates p + pulse_level subck p * 32 + span_level mshut p * 64 + span_level strobe p * 128

-- ---- made ready

-- eighteen toggles, each with its key
abbrev pub keyed : (ℕ → ℕ) → List ℕ → List ℕ
keyed key l =
    key (get_or l 0 0) ∷ key (get_or l 1 0) ∷ key (get_or l 2 0) ∷ key (get_or l 3 0) ∷ key (get_or l 4 0) ∷ key (get_or l 5 0)
    ∷ key (get_or l 6 0) ∷ key (get_or l 7 0) ∷ key (get_or l 8 0) ∷ key (get_or l 9 0) ∷ key (get_or l 10 0) ∷ key (get_or l 11 0)
    ∷ key (get_or l 12 0) ∷ key (get_or l 13 0) ∷ key (get_or l 14 0) ∷ key (get_or l 15 0) ∷ key (get_or l 16 0)
    ∷ key (get_or l 17 0) ∷ []

-- the first pattern made ready: its levels are those of w, its edges those of e
pub record Makes (f : First) (origin : ℕ) (w : ℕ → ℕ) (e : ℕ → Bool) : Type 0 where
  pub place : f.origin ≡ origin
  pub same : (q : ℕ) → first_at f q ≡ w q
  pub edges : (q : ℕ) → first_edge f q ≡ e q

-- the second pattern made ready: where it acts and has taken over its levels and edges are the rules'
pub record Seconds (o : Option Second) (second : Option Pattern) : Type 0 where
  pub levels : (p first : ℕ) → p < 65536
      → over (begun_at o p) (λ s. second_at s p) first ≡ of_second second p (λ a. second_word a p) first
  pub edges : (p : ℕ) (first : Bool) → p < 65536
      → over (begun_at o p) (λ s. second_edge s p) first ≡ of_second second p (λ a. second_edge_of a p) first

-- a line made ready: its words are the line's at every pixel of 16 bits, and so are its edges past the first
pub record ReadyFor (r : Ready) (l : Line) : Type 0 where
  pub words : (p : ℕ) → p < 65536 → ready_word r p ≡ word_of l p
  pub edges : (p : ℕ) → 0 < p → p < 65536 → ready_edge r p ≡ edge_of l p

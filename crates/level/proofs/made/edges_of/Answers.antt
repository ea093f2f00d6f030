-- The eight outputs, each by its edges.
-- Assumes nothing.
use Prim.Native.Nat.{◌+◌, ◌*◌}
use mathlib.Core.Bool.{false, ◌||◌}
use Rattle.level.specs.Next.{any_of}
use Rattle.level.specs.Edges.{others_edge}
use Rattle.level.specs.Word.{gate_word}
use Rattle.level.specs.Eight.{eight_at}
use Rattle.level.specs.Made.{others_word}
use Rattle.level.proofs.made.edges_of.Goals as goal

pub returns : goal.returns
unfolding others_word gate_word eight_at others_edge any_of
returns c = record {
  by_index = λ p i.
      c.pulse_edges.ensures.by_index p i + c.pulse_edges-2.ensures.by_index p i * 2 + c.pulse_edges-3.ensures.by_index p i * 4
      + c.pulse_edges-4.ensures.by_index p i * 8
      + c.pulse_edges-5.ensures.by_index p i * 16
      + c.pulse_edges-6.ensures.by_index p i * 32
      + c.span_edges.ensures.by_index p i * 64
      + c.span_edges-2.ensures.by_index p i * 128;
  by_index_2 = λ p h i.
      ((((((((false || c.pulse_edges.ensures.by_index_2 p h i) || c.pulse_edges-2.ensures.by_index_2 p h i) || c.pulse_edges-3.ensures.by_index_2 p h i) || c.pulse_edges-4.ensures.by_index_2 p h i) || c.pulse_edges-5.ensures.by_index_2 p h i) || c.pulse_edges-6.ensures.by_index_2 p h i) || c.span_edges.ensures.by_index_2 p h i) || c.span_edges-2.ensures.by_index_2 p h i);
}

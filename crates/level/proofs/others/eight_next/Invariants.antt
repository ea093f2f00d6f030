-- The next edge of the outputs that the loop has passed.
-- Assumes nothing.
use mathlib.Core.Path.{◌≡◌}
use lib.ListN.{get_or}
use Rattle.level.specs.Next.{next, any_of}
use Rattle.level.specs.Eight.{edges_edge, no_edges}
use Rattle.level.proofs.others.eight_next.Given as goal

abbrev pub invariant-loop-edges : goal.invariant-loop-edges
invariant-loop-edges l = l.best ≡ next (λ q. any_of l.edges-index (λ j. edges_edge (get_or l.t j no_edges) q)) l.p l.end

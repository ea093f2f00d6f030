-- The next edge so far and that of one more output.
-- Assumes nothing.
use lib.ListN.{get_or}
use Rattle.level.specs.Next.{any_of}
use Rattle.level.specs.Eight.{edges_edge, no_edges}
use Rattle.level.proofs.Nexts.{next_low, any_start, any_step}
use Rattle.level.proofs.others.eight_next.Goals as goal

pub loop-edges-init : goal.loop-edges-init
loop-edges-init c = let a = c.args in any_start (λ j q. edges_edge (get_or a.t.now j no_edges) q) a.p a.end c.requires

pub edges_next-best-requires : goal.edges_next-best-requires
edges_next-best-requires c = let l = c.loop-edges in
    let a = c.args in
    rw l.invariant (next_low (λ q. any_of l.edges-index (λ j. edges_edge (get_or a.t.now j no_edges) q)) a.p a.end c.requires)

pub loop-edges-preserved : goal.loop-edges-preserved
loop-edges-preserved c = let l = c.loop-edges in
    let a = c.args in
    any_step (λ j q. edges_edge (get_or a.t.now j no_edges) q) a.p a.end c.requires l.edges-index l.invariant c.edges_next-best.ensures

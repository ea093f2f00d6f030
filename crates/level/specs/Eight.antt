-- Nobody has to believe this file: it says how the code holds gates, SUBCK and shutters, and their levels at a pixel.
-- Assumes nothing.
use Rattle.std.specs.Prelude.{ℕ, ◌+◌, ◌*◌, List, Bool, ◌||◌, get_or, leb, eqb}
use Rattle.level.specs.Word.{bit, flipped}
use Rattle.level.specs.declared.others.Edges.{Edges}
use Rattle.level.specs.Next.{any_of}

abbrev pub edges_at : Edges → ℕ → ℕ
edges_at e p = flipped e.level (bit (leb e.on p) + bit (leb e.off p))

abbrev pub edges_edge : Edges → ℕ → Bool
edges_edge e p = eqb p e.on || eqb p e.off

abbrev pub no_edges : Edges
no_edges = record { level = 0; on = 0; off = 0 }

unfoldable pub eight_at : List Edges → ℕ → ℕ
eight_at t p =
    edges_at (get_or t 0 no_edges) p
    + edges_at (get_or t 1 no_edges) p * 2
    + edges_at (get_or t 2 no_edges) p * 4
    + edges_at (get_or t 3 no_edges) p * 8
    + edges_at (get_or t 4 no_edges) p * 16
    + edges_at (get_or t 5 no_edges) p * 32
    + edges_at (get_or t 6 no_edges) p * 64
    + edges_at (get_or t 7 no_edges) p * 128

abbrev pub eight_edge : List Edges → ℕ → Bool
eight_edge t p = any_of 8 (λ k. edges_edge (get_or t k no_edges) p)

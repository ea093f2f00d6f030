-- The lowest of the keys that the loop has passed.
-- Assumes nothing.
use mathlib.Core.Path.{◌≡◌}
use lib.Dec.{eqb}
use lib.ListN.{get_or}
use Rattle.level.specs.Next.{next, any_of}
use Rattle.level.proofs.keys.next_key.Given as goal

abbrev pub invariant-loop-key : goal.invariant-loop-key
invariant-loop-key l = l.best ≡ next (λ q. any_of l.key-index (λ j. eqb q (get_or l.keys j 0))) l.n l.end

-- The first i are put.
-- Assumes nothing.
use Prim.Native.Nat.{ℕ}
use mathlib.Core.List.{List}
use lib.ListN.{length, get_or}
use Rattle.holdlist.specs.Text.{Puts}
use Rattle.holdlist.proofs.Puts.{Chunked}
use Rattle.cases.proofs.text.put_each.Given as goal

abbrev pub invariant-loop-i : goal.invariant-loop-i
invariant-loop-i g l =
    (text : ℕ → _ → List ℕ) (d : _) → ((o p : _) (to i n : ℕ) (x : _) → goal.F-post g l.put o to i x n p → Puts (text i x) o.now to n p.now)
    → Chunked (λ j. text j (get_or l.items j d)) (length l.items) l.initial.out l.at l.to l.out l.i

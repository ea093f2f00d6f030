-- The key of the next toggle beside those so far.
-- Assumes nothing.
use Prim.Native.Nat.{ℕ, ◌+◌, ◌<◌}
use mathlib.Core.List.{List}
use mathlib.Core.Path.{◌≡◌}
use native.Mathlib.Omega.{arith}
use borrow.Author.Tests.{ltb-true, ltb-false}
use lib.Dec.{ltb}
use lib.ListN.{length, get_or, set}
use Rattle.std.proofs.lemmas.List.{length-set, get_or-set_same, get_or-set_other}
use Rattle.profile.proofs.Laws.{by_cases}
use Rattle.level.proofs.made.keys_of.Goals as goal

set_more : (P : ℕ → ℕ → Type 0) (keys : List ℕ) (i : ℕ) {x : ℕ} → i < length keys → ((k : ℕ) → k < i → P k (get_or keys k 0)) → P i x
    → (k : ℕ) → k < i + 1 → P k (get_or (set keys i x) k 0)
set_more P keys i {x} h before here k l =
    by_cases (ltb k i)
    (λ e. rw (get_or-set_other keys i k x 0 (λ same. omega (arith, ltb-true k i e))) (before k (ltb-true k i e)))
    (λ e. let at : k ≡ i = omega (arith, ltb-false k i e) in rw (at, get_or-set_same keys i x 0 h) here)

pub loop-i-preserved : goal.loop-i-preserved
loop-i-preserved g c = (
  omega (arith, length-set c.loop-i.keys c.loop-i.i c.key.result),
  set_more (λ k. goal.F-post g c.args.key (get_or c.args.t.now k 0)) c.loop-i.keys c.loop-i.i (omega arith) c.loop-i.invariant.1 c.key.ensures,
)

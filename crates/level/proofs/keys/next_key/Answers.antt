-- The lowest key so far and the next one.
-- Assumes nothing.
use Prim.Native.Nat.{ℕ, min}
use mathlib.Core.Bool.{Bool}
use mathlib.Core.Path.{◌∙◌, ap}
use lib.Dec.{eqb}
use lib.ListN.{get_or}
use Rattle.level.specs.Next.{any_of}
use Rattle.level.proofs.Nexts.{next_low, next_less, next_lower, any_start, any_step}
use Rattle.level.proofs.keys.next_key.Goals as goal

pub loop-key-init : goal.loop-key-init
loop-key-init c = let a = c.args in any_start (λ j q. eqb q (get_or a.keys.now j 0)) a.n a.end c.requires

pub loop-key-preserved : goal.loop-key-preserved
loop-key-preserved c = let l = c.loop-key in
    let a = c.args in
    let f : ℕ → Bool = λ q. any_of l.key-index (λ j. eqb q (get_or a.keys.now j 0)) in
    let key : ℕ = get_or a.keys.now l.key-index 0 in
    any_step (λ j q. eqb q (get_or a.keys.now j 0)) a.n a.end c.requires l.key-index l.invariant
    (c.min-best.ensures ∙ ap (min l.best) c.above.ensures
    ∙ next_lower key a.n l.best a.end (rw l.invariant (next_low f a.n a.end c.requires))
    (rw l.invariant (next_less f a.n a.end c.requires)))

-- An output whose toggles are in order passes; the first fault answers.
-- Assumes nothing.
use native.Mathlib.Omega.{arith}
use mathlib.Core.Path.{refl}
use mathlib.Core.List.{[]}
use lib.ListN.{get_or}
use lib.Dec.{lit≤}
use Rattle.profile.specs.Patterns.{used}
use Rattle.profile.proofs.Registers.{fault_some, fault_none}
use Rattle.profile.proofs.Judging.{fine-on, fine-stop, row-broken, row_fine, numbered_rows, passing}
use Rattle.profile.proofs.rules.check_toggles.Goals as goal

pub loop-k-init : goal.loop-k-init
loop-k-init c = search (passing, numbered_rows)

pub returns-in-Some : goal.returns-in-Some
returns-in-Some c =
    let a = c.args in
    let w = fault_some _ c.in-Some.ensures in
    fine-stop c.loop-k.invariant (omega arith) (lit≤ tt)
    (row-broken a.i (used a.mode a.length) (get_or a.rows c.loop-k.k []) c.loop-k.k w.0 w.1)

pub loop-k-preserved : goal.loop-k-preserved
loop-k-preserved c =
    let a = c.args in
    fine-on c.loop-k.invariant (omega arith)
    (row_fine a.i (used a.mode a.length) (get_or a.rows c.loop-k.k []) c.loop-k.k refl (fault_none _ c.in_default.ensures))

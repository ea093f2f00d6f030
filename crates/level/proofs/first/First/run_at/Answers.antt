-- A run that goes on has a length; in it the keys decide, from the levels that the repetition begins with.
-- Assumes nothing.
use native.Mathlib.Omega.{arith}
use Prim.Native.Nat.{◌<◌}
use Rattle.level.specs.Ready.{run_pixels}
use Rattle.level.proofs.Parts.{run_at_inside, run_at-after}
use Rattle.level.proofs.first.First.run_at.Goals as goal

pub returns-then-t-run_pixels : goal.returns-then-t-run_pixels
returns-then-t-run_pixels c =
    let inside : (let a = c.args in a.t < run_pixels a.self) = omega (arith, c.if-t-run_pixels.true, c.run_pixels.ensures) in
    let a = c.args in
    record { value = run_at_inside a.self a.t inside c.begins.ensures.value c.six.ensures.value; upper_bound = c.six.ensures.upper_bound }

pub returns : goal.returns
returns c = let a = c.args in
    record { value = run_at-after a.self a.t (omega (arith, c.if-t-run_pixels.false, c.run_pixels.ensures)) c.begins-2.ensures.value; upper_bound = c.begins-2.ensures.upper_bound }

-- The levels as by themselves. In the run the next edge is the next key above the place in the repetition, or its end; after it there is none.
-- Assumes nothing.
use native.Mathlib.Omega.{arith}
use Prim.Native.Nat.{◌%◌, ◌≤◌, ◌<◌}
use mathlib.Core.Path.{◌∙◌}
use Rattle.level.specs.Keys.{among}
use Rattle.level.specs.Ready.{run_pixels}
use Rattle.level.proofs.Nexts.{next_low}
use Rattle.level.proofs.Parts.{run_mod, run_inside, run_after, run_at_inside, run_at-after}
use Rattle.level.proofs.first.First.run_both.Goals as goal

pub overflow_sub-key : goal.overflow_sub-key
overflow_sub-key c =
    let inside : (let a = c.args in a.t < run_pixels a.self) = omega (arith, c.if-t-run_pixels.true, c.run_pixels.ensures) in
    let place : (let a = c.args in a.t % a.self.length < a.self.length) = let a = c.args in run_mod a.self a.t inside in
    let a = c.args in
    omega (arith, c.next_key-key.ensures, next_low (λ q. among a.self.keys q) (a.t % a.self.length) a.self.length place)

pub returns-then-t-run_pixels : goal.returns-then-t-run_pixels
returns-then-t-run_pixels c =
    let inside : (let a = c.args in a.t < run_pixels a.self) = omega (arith, c.if-t-run_pixels.true, c.run_pixels.ensures) in
    let a = c.args in
    let six = c.six.ensures in record { levels_value = run_at_inside a.self a.t inside c.begins.ensures.value six.value; levels_bound = six.upper_bound; far_value = c.within.ensures ∙ run_inside a.self a.t inside a.room c.next_key-key.result c.requires c.next_key-key.ensures }

pub returns : goal.returns
returns c = let a = c.args in
    let h : run_pixels a.self ≤ a.t = omega (arith, c.if-t-run_pixels.false, c.run_pixels.ensures) in
    record { levels_value = run_at-after a.self a.t h c.begins-2.ensures.value; levels_bound = c.begins-2.ensures.upper_bound; far_value = run_after a.self a.t a.room c.requires h }

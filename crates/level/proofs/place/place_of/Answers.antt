-- What the check leaves open, by the laws cited.
-- Assumes nothing.
use Prim.Native.Nat.{ℕ}
use mathlib.Core.Path.{◌≡◌, ap, ◌∙◌}
use Rattle.profile.specs.Lists.{sum}
use Rattle.profile.specs.Geometry.{region_count, region_size, regions_pixels}
use Rattle.profile.proofs.Laws.{sum-none, sum-next}
use Rattle.profile.proofs.Lines.{regions-start, regions-pixels}
use Rattle.level.specs.Place.{place_answer}
use Rattle.level.proofs.Places.{placed_nowhere}
use native.Mathlib.Omega.{arith}
use Rattle.level.proofs.place.place_of.Goals as goal

pub loop-i-init : goal.loop-i-init
loop-i-init c = let a = c.args in
    (omega arith, c.region_count-count.ensures.value, c.region_count-count.ensures.upper_bound, omega (arith, sum-none (region_size a.tables a.field)))

pub returns-then-left-size : goal.returns-then-left-size
returns-then-left-size c = let start = regions-start c.args.field c.requires c.args.tables c.loop-i.i (omega arith) in
    c.place_in.ensures ∙ ap (place_answer c.args.tables c.args.field) (omega (arith, start, c.loop-i.invariant.3))

pub loop-i-preserved : goal.loop-i-preserved
loop-i-preserved c = let a = c.args in
    (omega arith, c.loop-i.invariant.1, c.loop-i.invariant.2, omega (arith, c.region_size-size.ensures.value, sum-next (region_size a.tables a.field) c.loop-i.i))

pub returns : goal.returns
unfolding regions_pixels
returns c = let end : c.loop-i.i ≡ region_count c.args.field = omega arith in
    let all = regions-pixels c.args.field c.requires c.args.tables in
    placed_nowhere c.args.tables c.args.field c.args.n
    (omega (arith, ap (λ (i : ℕ). sum (region_size c.args.tables c.args.field) 0 i) end, all))

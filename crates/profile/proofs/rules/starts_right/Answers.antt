-- Each return decides a test of the definition, of the starts of the region and the one before it.
-- Assumes nothing.
use borrow.Author.Tests.{lt-ltb, le-ltb, eq-eqb, ne_eqb}
use mathlib.Core.Path.{◌≡◌, ap}
use Rattle.profile.specs.Geometry.{first_line}
use Rattle.profile.specs.Rules.{starts_right}
use Rattle.profile.specs.declared.Region.{Region}
use Rattle.profile.proofs.rules.starts_right.Goals as goal

pub returns-then-field-region : goal.returns-then-field-region
unfolding starts_right
returns-then-field-region c =
    let start : (let s = c.args in c.region_at-region.result.first ≡ first_line s.field s.i) = ap (λ (r : Region). r.first) c.region_at-region.ensures in
    rw (le-ltb _ _ (rw start at c.if-field-region.true))

pub returns-then-i-eq0 : goal.returns-then-i-eq0
unfolding starts_right
returns-then-i-eq0 c =
    let start : (let s = c.args in c.region_at-region.result.first ≡ first_line s.field s.i) = ap (λ (r : Region). r.first) c.region_at-region.ensures in
    let e = start in
    rw (lt-ltb _ _ (rw e at c.if-field-region.false), eq-eqb _ _ c.if-i-eq0.true, e)

pub returns : goal.returns
unfolding starts_right
returns c =
    let start : (let s = c.args in c.region_at-region.result.first ≡ first_line s.field s.i) = ap (λ (r : Region). r.first) c.region_at-region.ensures in
    let e = start in
    let d = ap (λ (r : Region). r.first) c.region_at-earlier.ensures in
    rw (lt-ltb _ _ (rw e at c.if-field-region.false), ne_eqb _ _ c.if-i-eq0.false, e, d)

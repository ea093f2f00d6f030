-- The test of each region, by its number.
-- Assumes nothing.
use borrow.Author.Rules.{rules}
use borrow.Author.Tests.{tests}
use mathlib.Core.Path.{◌∙◌, refl}
use Rattle.std.proofs.lemmas.Iterator.{YieldsList-from_range}
use Rattle.std.proofs.lemmas.Iterator.Search.{all_from_yields_List}
use Rattle.profile.specs.Ranges.{region_in}
use Rattle.profile.proofs.Tested.{all-below}
use Rattle.profile.proofs.ranges.field_in.Goals as goal

pub returns : goal.returns
returns c = let e =
    all_from_yields_List (region_in c.args.f) _ _ _ c.all.ensures.ran (YieldsList-from_range 0 7 7 refl refl) (λ x b q k. search (rules, tests))
    ∙ all-below (region_in c.args.f) 7 in
    cc

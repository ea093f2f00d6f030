-- The test of each half register, by its number.
-- Assumes nothing.
use Prim.Native.Nat.{ℕ}
use borrow.Author.Rules.{rules}
use borrow.Author.Tests.{tests}
use lib.Dec.{leb}
use lib.ListN.{get_or}
use mathlib.Core.Path.{◌∙◌, refl}
use Rattle.std.proofs.lemmas.Iterator.{YieldsList-from_range}
use Rattle.std.proofs.lemmas.Iterator.Search.{all_from_yields_List}
use Rattle.profile.specs.Layout.{half_limit}
use Rattle.profile.proofs.Tested.{all-below}
use Rattle.profile.proofs.ranges.halves_in.Goals as goal

pub returns : goal.returns
returns c = let half : ℕ → _ = λ i. leb (get_or c.args.registers.now i 0) (half_limit i) in
    all_from_yields_List half _ _ _ c.all.ensures.ran (YieldsList-from_range 0 240 240 refl refl) (λ x b q k. search (rules, tests)) ∙ all-below half 240

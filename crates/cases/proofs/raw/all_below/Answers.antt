-- The numbers are tested one after the other.
-- Assumes nothing.
use Prim.Native.Nat.{◌+◌, ◌*◌}
use native.Mathlib.Omega.{arith}
use mathlib.Core.Path.{refl, ◌∙◌}
use lib.Dec.{ltb}
use Rattle.std.proofs.Common.{rules, tests}
use Rattle.std.proofs.lemmas.Iterator.{YieldsList-from_range}
use Rattle.std.proofs.lemmas.Iterator.Search.{all_from_yields_List}
use Rattle.profile.specs.Bytes.{number_at}
use Rattle.cases.specs.Faults.{below}
use Rattle.cases.proofs.Listed.{all_below as tests_below}
use Rattle.cases.proofs.raw.all_below.Goals as goal

pub returns : goal.returns
unfolding below
returns c =
    all_from_yields_List (λ i. ltb (number_at c.args.body.now (c.args.at + c.args.step * i)) c.args.limit) _ _ _ c.all.ensures.ran (YieldsList-from_range 0 c.args.n c.args.n refl (omega arith)) (λ x b q k. search (rules, tests))
    ∙ tests_below (λ i. ltb (number_at c.args.body.now (c.args.at + c.args.step * i)) c.args.limit) c.args.n

-- One region after the other.
-- Assumes nothing.
use borrow.Author.Rules.{rules}
use Rattle.profile.specs.Values.{empty_region}
use Rattle.cases.specs.Answer.{afters, region_numbers}
use Rattle.cases.proofs.text.put_regions.Goals as goal

pub returns : goal.returns
returns c =
    c.put_each.ensures (λ i x. afters (region_numbers x)) empty_region 7 (search rules) (λ o p to i n x s. search rules)

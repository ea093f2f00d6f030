-- Each item is read.
-- Assumes nothing.
use Prim.Native.Nat.{◌+◌, ◌*◌}
use Rattle.std.proofs.Common.{rules, tests}
use Rattle.profile.specs.Values.{empty_region}
use Rattle.cases.specs.Raw.{raw_region}
use Rattle.cases.proofs.Listed.{made}
use Rattle.cases.proofs.raw.raw_regions.Goals as goal

pub returns : goal.returns
returns c = made _ (λ k. raw_region c.args.n.now (360 + 3 * k)) _ (λ k y q s. search (rules, tests)) empty_region c.from_fn.ensures.items

-- Each item is read.
-- Assumes nothing.
use Prim.Native.Nat.{◌+◌, ◌*◌}
use Rattle.std.proofs.Common.{rules, tests}
use Rattle.profile.specs.Values.{empty_shutter}
use Rattle.cases.specs.Raw.{raw_shutter}
use Rattle.cases.proofs.Listed.{made}
use Rattle.cases.proofs.raw.raw_shutters.Goals as goal

pub returns : goal.returns
returns c = made _ (λ k. raw_shutter c.args.n.now (341 + 6 * k)) _ (λ k y q s. search (rules, tests)) empty_shutter c.from_fn.ensures.items

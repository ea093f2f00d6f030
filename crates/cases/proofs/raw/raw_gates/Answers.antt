-- Each item is read.
-- Assumes nothing.
use Prim.Native.Nat.{◌+◌, ◌*◌}
use Rattle.std.proofs.Common.{rules, tests}
use Rattle.profile.specs.Values.{empty_gate}
use Rattle.cases.specs.Raw.{raw_gate}
use Rattle.cases.proofs.Listed.{made}
use Rattle.cases.proofs.raw.raw_gates.Goals as goal

pub returns : goal.returns
returns c = made _ (λ k. raw_gate c.args.n.now (310 + 5 * k)) _ (λ k y q s. search (rules, tests)) empty_gate c.from_fn.ensures.items

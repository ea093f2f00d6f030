-- Each item is read.
-- Assumes nothing.
use Prim.Native.Nat.{◌+◌, ◌*◌}
use Rattle.std.proofs.Common.{rules, tests}
use Rattle.profile.specs.Values.{empty_sequence}
use Rattle.cases.specs.Raw.{raw_sequence}
use Rattle.cases.proofs.Listed.{made}
use Rattle.cases.proofs.raw.raw_sequences.Goals as goal

pub returns : goal.returns
returns c = made _ (λ k. raw_sequence c.args.n.now (240 + 7 * k)) _ (λ k y q s. search (rules, tests)) empty_sequence c.from_fn.ensures.items

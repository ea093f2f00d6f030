-- Each byte is read.
-- Assumes nothing.
use Prim.Native.Nat.{◌+◌}
use lib.ListN.{get_or}
use Rattle.std.proofs.Common.{rules, tests}
use Rattle.cases.proofs.Listed.{made_ones}
use Rattle.cases.proofs.chunks.held_bytes.Goals as goal

pub returns : goal.returns
returns c = made_ones _ (λ k. get_or c.args.payload.now (790 + k) 0) _ (λ k y q s. search (rules, tests)) 0 c.from_fn.ensures.items

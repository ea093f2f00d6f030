-- Each number is read.
-- Assumes nothing.
use Prim.Native.Nat.{◌+◌, ◌*◌}
use borrow.Author.Rules.{rules}
use Rattle.cases.specs.Raw.{four_at}
use Rattle.cases.proofs.Listed.{listed}
use Rattle.cases.proofs.raw.fill_fours.Goals as goal

pub returns : goal.returns
returns c =
    listed (λ k. four_at c.args.body.now (c.args.at + 4 * k)) c.fill.ensures.long (λ k h. let told = c.fill.ensures.filled k 0 h in search rules)

-- Each element is that of the call at its index.
-- Assumes nothing.
use borrow.Author.Rules.{rules}
use Rattle.level.proofs.Listed.{keyed_of}
use Rattle.level.proofs.made.run_keys.Goals as goal

pub returns : goal.returns
returns c = keyed_of (λ x. x) c.args.t.now (search rules) (λ i h. let at = c.keys_of.ensures i h in search rules)

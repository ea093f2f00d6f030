-- The eight outputs, each by its edges.
-- Assumes nothing.
use borrow.Author.Rules.{rules}
use Rattle.level.specs.Eight.{eight_at}
use Rattle.level.proofs.others.eight.Goals as goal

pub returns : goal.returns
unfolding eight_at
returns c = search rules

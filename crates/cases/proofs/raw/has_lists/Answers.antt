-- By the tests, one after the other.
-- Assumes nothing.
use Rattle.cases.proofs.Refusing.{counts_long, words_long, lists_fit}
use Rattle.cases.proofs.raw.has_lists.Goals as goal

pub returns-then-counts-gt4096 : goal.returns-then-counts-gt4096
returns-then-counts-gt4096 c = search counts_long

pub returns-then-words-gt4096 : goal.returns-then-words-gt4096
returns-then-words-gt4096 c = search words_long

pub returns : goal.returns
returns c = search lists_fit

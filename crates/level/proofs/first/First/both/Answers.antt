-- Before the start the next edge is the start; from there the run decides, or the multiples.
-- Assumes nothing.
use mathlib.Core.Path.{◌∙◌}
use borrow.Author.Tests.{lt-ltb}
use Rattle.level.proofs.Parts.{first-before}
use Rattle.level.proofs.first.First.both.Goals as goal

pub returns-then-q-s : goal.returns-then-q-s
returns-then-q-s c = let a = c.args in record { levels_value = rw (lt-ltb a.q a.self.start c.if-q-s.true); levels_bound = c.args.self.six_levels; far_value = c.within.ensures ∙ first-before a.self a.q a.room c.requires c.if-q-s.true }

-- The word of the line made ready, joined of its halves.
-- Assumes nothing.
use mathlib.Core.Path.{◌∙◌}
use borrow.Author.Rules.{rules}
use Rattle.level.proofs.Edges.{word_joined}
use Rattle.level.proofs.pixels.word_of.Goals as goal

pub returns : goal.returns
returns c = let p = c.args.pixel in
    word_joined c.prepare-ready.result p c.six_at.ensures.value c.eight_at.ensures.value c.join.ensures
    ∙ c.prepare-ready.ensures.words p (search rules)

-- `text::spell` meets its contract. The loop's invariant: the digits from `from` on are spelt, `rest` is left.
-- Assumes nothing.
use Rattle.holdlist.proofs.Spelling.{Spells}
use Rattle.holdlist.proofs.text.spell.Given as goal

abbrev pub invariant-loop-rest : goal.invariant-loop-rest
invariant-loop-rest l = Spells l.n l.digits l.from l.rest

abbrev pub decreases-loop-rest : goal.decreases-loop-rest
decreases-loop-rest l = l.rest

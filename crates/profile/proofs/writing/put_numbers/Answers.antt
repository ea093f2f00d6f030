-- Two bytes a number, each after the one before it.
-- Assumes nothing.
use Rattle.profile.proofs.Stores.{stored_none, stored_next, stored_all, all-numbers, two_le}
use mathlib.Core.Path.{◌∙◌, refl}
use native.Mathlib.Omega.{arith}
use borrow.Author.Rules.{rules}
use lib.ListN.{get_or}
use Rattle.profile.proofs.writing.put_numbers.Goals as goal

pub loop-i-init : goal.loop-i-init
loop-i-init c = stored_none (omega arith)

pub loop-i-preserved : goal.loop-i-preserved
loop-i-preserved c = let number = two_le (get_or c.args.numbers.now c.loop-i.i 0) (search rules) c.to_le_bytes.ensures in
    stored_next {m = 2} c.loop-i.invariant c.loop-i-test.true (c.store.ensures ∙ rw number) refl

pub returns : goal.returns
returns c = stored_all c.loop-i.invariant c.loop-i-test.false ∙ rw all-numbers

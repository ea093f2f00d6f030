-- The length is tested, then the digits.
-- Assumes nothing.
use borrow.Author.Tests.{le-leb, lt-leb}
use Rattle.std.proofs.Common.{rules, tests, arith, length}
use Rattle.std.proofs.lemmas.Iterator.{YieldsList-from_slice}
use Rattle.std.proofs.lemmas.Iterator.Search.{all_from_yields_List}
use Rattle.ask.specs.Question.{is_digit, is_number}
use Rattle.ask.proofs.question.is_number.Goals as goal

pub returns-then-not-is_empty : goal.returns-then-not-is_empty
unfolding is_number
returns-then-not-is_empty c =
    let tested = all_from_yields_List is_digit _ _ _ c.all.ensures.ran (YieldsList-from_slice c.args.bytes.now cc) (λ x b q k. search (rules, tests)) in
    rw (le-leb 1 (length c.args.bytes.now) (grind arith)) tested

pub returns-else-not-is_empty : goal.returns-else-not-is_empty
unfolding is_number
returns-else-not-is_empty c = rw (lt-leb 1 (length c.args.bytes.now) (grind arith)) (search rules)

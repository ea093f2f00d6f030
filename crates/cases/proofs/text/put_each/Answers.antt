-- A turn puts one item more.
-- Assumes nothing.
use borrow.Author.Rules.{rules}
use Rattle.std.proofs.lemmas.List.{get_or_read}
use Rattle.holdlist.proofs.Puts.{chunked_none, chunked_more, chunked_all}
use Rattle.cases.proofs.text.put_each.Goals as goal

pub loop-i-init : goal.loop-i-init
loop-i-init g c = λ text d tells. chunked_none

pub loop-i-preserved : goal.loop-i-preserved
loop-i-preserved g c = λ text d tells.
    let puts = tells _ _ _ _ _ _ c.put-to.ensures in
    chunked_more (c.loop-i.invariant text d tells) c.loop-i-test.true
    (rw (get_or_read _ _ _ c.loop-i-test.true c.index-items-i.is d) at puts)

pub returns : goal.returns
returns g c = λ text d m long tells. rw long at (chunked_all (c.loop-i.invariant text d tells) (search rules))

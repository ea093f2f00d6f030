-- The bytes are counted; the record that is held is filled; where it is whole it is taken with what comes after it.
-- Assumes nothing.
use mathlib.Core.Path.{◌≡◌, ◌∙◌}
use Rattle.profile.proofs.Chunks.{fed, take_counted, take-waits, test_is, front-is}
use Rattle.profile.proofs.upload.take.Goals as goal

pub returns-then-total-is_some : goal.returns-then-total-is_some
returns-then-total-is_some c = let k = fed c.args.upload c.args.chunk.now c.held_of-held.ensures.0 c.max-before.ensures c.count_on-total.ensures c.refusal.ensures c.is_some.ensures in
    take_counted k c.if-total-is_some.true

pub returns-then-first : goal.returns-then-first
returns-then-first c = let k = fed c.args.upload c.args.chunk.now c.held_of-held.ensures.0 c.max-before.ensures c.count_on-total.ensures c.refusal.ensures c.is_some.ensures in
    rw c.waiting-after.ensures (take-waits k c.if-total-is_some.false c.fill-first.ensures c.if-first.true)

pub take_whole-requires-clause-few : goal.take_whole-requires-clause-few
take_whole-requires-clause-few c = let k = fed c.args.upload c.args.chunk.now c.held_of-held.ensures.0 c.max-before.ensures c.count_on-total.ensures c.refusal.ensures c.is_some.ensures in
    test_is k ∙ c.if-total-is_some.false

pub take_whole-requires-clause-filled : goal.take_whole-requires-clause-filled
take_whole-requires-clause-filled c = let k = fed c.args.upload c.args.chunk.now c.held_of-held.ensures.0 c.max-before.ensures c.count_on-total.ensures c.refusal.ensures c.is_some.ensures in
    front-is k c.if-total-is_some.false c.fill-first.ensures

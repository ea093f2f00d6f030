-- After k turns the records of the first k that are present are stored.
-- Assumes nothing.
use lib.ListN.{get_or}
use Rattle.profile.proofs.Stores.{StoredTo}
use Rattle.profile.proofs.writing.put_items.Given as goal

abbrev pub invariant-loop-k : goal.invariant-loop-k
invariant-loop-k g l = let t = g.T.Item in StoredTo (λ k. t.written k (get_or l.items k t.none)) l.k-end l.initial.out l.at l.k l.out l.to

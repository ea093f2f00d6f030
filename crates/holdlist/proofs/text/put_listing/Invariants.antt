-- `text::put_listing` meets its contract. The loop's invariant: the lines of the steps passed are put.
-- Assumes nothing.
use Rattle.holdlist.proofs.Listing.{Listed}
use Rattle.holdlist.proofs.text.put_listing.Given as goal

abbrev pub invariant-loop-count : goal.invariant-loop-count
invariant-loop-count l = Listed l.fn.counts l.fn.words l.n l.initial.count-iterator l.initial.out l.initial.to l.to l.out l.yielded

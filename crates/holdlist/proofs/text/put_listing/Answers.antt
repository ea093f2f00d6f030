-- What the check leaves open, by the laws cited.
-- Assumes nothing.
use Rattle.holdlist.specs.Text.{listing}
use Rattle.holdlist.proofs.Puts.{puts_more, chunked_none}
use Rattle.holdlist.proofs.Listing.{listed_more, listed_all}
use native.Mathlib.Omega.{arith}
use Rattle.holdlist.proofs.text.put_listing.Goals as goal

pub loop-count-init : goal.loop-count-init
loop-count-init c =
    let zipped = c.zip-count-items.ensures in
    record {
      counts = rw (c.into_iter-count-iterator.ensures.into_iter_gives, zipped.first) c.iter.ensures.rest;
      words = rw c.into_iter-count-iterator.ensures.into_iter_gives zipped.second.0;
      counts_there = omega arith;
      words_there = omega arith;
      lines = chunked_none;
    }

pub loop-count-preserved : goal.loop-count-preserved
loop-count-preserved c = listed_more c.loop-count.invariant c.loop-count.count-iterator c.next.new.self c.loop-count.yielded_by c.in-Some.is c.next.ensures.steps c.put_step_line-to.ensures

pub returns : goal.returns
unfolding listing
returns c = rw (← c.min.ensures, ← c.min-n.ensures)
    (puts_more c.put_head_line-to.ensures (listed_all c.loop-count.invariant c.loop-count.count-iterator c.next.new.self c.loop-count.yielded_by c.in-None.is c.next.ensures.steps))

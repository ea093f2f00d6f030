-- The listing or the refusal's line is put, each no longer than is said.
-- Assumes nothing.
use native.Mathlib.Omega.{arith}
use borrow.Author.Rules.{rules}
use Rattle.holdlist.proofs.Spelling.{listing-length, refused-length}
use Rattle.holdlist.proofs.text.put_printed.Goals as goal

pub returns-in-Ok : goal.returns-in-Ok
returns-in-Ok c = let a = c.args in
    let size = c.in-Ok.size in
    let short = listing-length size.steps size.pixels a.counts.now a.words.now (search rules) (search rules) (λ i. omega (arith, c.shared_slice_known-1.given i)) in
    rw c.in-Ok.is (record { puts = c.put_listing.ensures; short = omega (arith, short) })

pub returns-in-Err : goal.returns-in-Err
returns-in-Err c =
    let short = refused-length c.in-Err.verdict (search rules) in
    rw c.in-Err.is (record { puts = c.put_refused_line.ensures; short = omega (arith, short) })

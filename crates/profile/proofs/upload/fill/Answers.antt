-- The loop stops at the first byte that the record does not wait for, or with the last.
-- Assumes nothing.
use mathlib.Core.Path.{sym}
use lib.ListN.{drop_of_length-le}
use Rattle.profile.proofs.Chunks.{filling_more, filling_room, filling_whole, filling_all}
use Rattle.profile.proofs.upload.fill.Goals as goal

pub returns-then-not-is_cut : goal.returns-then-not-is_cut
returns-then-not-is_cut c = filling_whole c.loop-byte.invariant (sym c.if-not-is_cut.ensures)

pub bounds-bytes-held : goal.bounds-bytes-held
bounds-bytes-held c = filling_room c.loop-byte.invariant (sym c.if-not-is_cut.ensures)

pub loop-byte-preserved : goal.loop-byte-preserved
loop-byte-preserved c = let l = c.loop-byte in
    filling_more c.args.more.now l.byte-index l.invariant c.loop-byte-test.true (sym c.if-not-is_cut.ensures)

pub returns : goal.returns
returns c = let l = c.loop-byte in
    filling_all l.invariant (drop_of_length-le _ c.loop-byte-test.false) _ c.is_cut-2.ensures

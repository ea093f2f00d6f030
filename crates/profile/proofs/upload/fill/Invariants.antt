-- The loop's invariant is the record Filling.
-- Assumes nothing.
use lib.ListN.{take, drop}
use Rattle.profile.proofs.Chunks.{Filling}
use Rattle.profile.proofs.upload.fill.Given as goal

abbrev pub invariant-loop-byte : goal.invariant-loop-byte
invariant-loop-byte l = Filling l.initial.bytes (take l.initial.held l.initial.bytes) l.more l.bytes l.held (drop l.byte-index l.more)

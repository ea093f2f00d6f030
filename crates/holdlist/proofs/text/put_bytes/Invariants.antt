-- `text::put_bytes` meets its contract. The loop's invariant: the first bytes are put.
-- Assumes nothing.
use mathlib.Core.List.{[], ◌∷◌}
use lib.ListN.{length, get_or}
use Rattle.holdlist.proofs.Puts.{Chunked}
use Rattle.holdlist.proofs.text.put_bytes.Given as goal

abbrev pub invariant-loop-byte : goal.invariant-loop-byte
invariant-loop-byte l = Chunked (λ j. get_or l.bytes j 0 ∷ []) (length l.bytes) l.initial.out l.at l.to l.out l.byte-index

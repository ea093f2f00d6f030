-- After i turns the first i numbers are stored.
-- Assumes nothing.
use Prim.Native.Nat.{◌+◌, ◌*◌}
use mathlib.Core.List.{[], ◌∷◌}
use lib.ListN.{length, get_or}
use Rattle.profile.specs.Bytes.{two_bytes}
use Rattle.profile.proofs.Stores.{StoredTo}
use Rattle.profile.proofs.writing.put_numbers.Given as goal

abbrev pub invariant-loop-i : goal.invariant-loop-i
invariant-loop-i l = StoredTo (λ j. two_bytes (get_or l.numbers j 0 ∷ [])) (length l.numbers) l.initial.out l.at l.i l.out (l.at + 2 * l.i)

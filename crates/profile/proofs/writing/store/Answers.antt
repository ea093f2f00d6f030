-- The bytes stand in their part of the slice, and the rest is as before.
-- Assumes nothing.
use native.Mathlib.Omega.{arith}
use Rattle.profile.proofs.Stores.{part_stored}
use Rattle.profile.proofs.writing.store.Goals as goal

pub returns : goal.returns
returns c = let a = c.args in
    part_stored a.out.now a.bytes.now _ a.at _ (omega arith) c.copy_from_slice.ensures.after c.requires

-- After a turns the first a records are stored, eight bytes each.
-- Assumes nothing.
use Prim.Native.Nat.{◌*◌}
use Rattle.profile.specs.Writing.{register_chunk}
use Rattle.profile.proofs.Stores.{StoredTo}
use Rattle.profile.proofs.writing.put_registers.Given as goal

abbrev pub invariant-loop-a : goal.invariant-loop-a
invariant-loop-a l = StoredTo (register_chunk l.registers) 120 l.initial.out 0 l.a l.out (8 * l.a)

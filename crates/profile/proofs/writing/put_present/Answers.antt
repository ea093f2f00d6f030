-- By its presence: a record of two bytes a number, or nothing.
-- Assumes nothing.
use Rattle.profile.proofs.Stores.{length_two}
use native.Mathlib.Omega.{arith}
use Rattle.profile.proofs.writing.put_present.Goals as goal

pub put_numbers-requires : goal.put_numbers-requires
put_numbers-requires c = let h = rw c.if-present.true at c.requires in
    omega (arith, length_two c.args.numbers.now)

pub returns-then-present : goal.returns-then-present
returns-then-present c = record {
  value = rw c.if-present.true (omega (arith, length_two c.args.numbers.now));
  out_after = rw c.if-present.true c.put_numbers.ensures;
}

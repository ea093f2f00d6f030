-- The address and the data are those of the body, so the tests are those of the definition; where they hold both halves are stored.
-- Assumes nothing.
use mathlib.Core.Path.{refl}
use Rattle.profile.proofs.Readers.{register_past, register_test, register-set, when_no, when_yes}
use Rattle.profile.proofs.records.read_register.Goals as goal

pub returns-then-address-gt119 : goal.returns-then-address-gt119
returns-then-address-gt119 c = when_no refl _ (register_past _ _ c.from-address.ensures c.if-address-gt119.true)

pub returns-then-not-fits : goal.returns-then-not-fits
returns-then-not-fits c = search (register_test, when_no)

pub returns : goal.returns
returns c = search (register_test, register-set, when_yes)

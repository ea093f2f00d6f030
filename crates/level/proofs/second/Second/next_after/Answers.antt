-- The next key above the pixels since its length.
-- Assumes nothing.
use native.Mathlib.Omega.{arith}
use Prim.Native.Nat.{◌-◌}
use Rattle.level.specs.Keys.{among}
use Rattle.level.proofs.Nexts.{next_less}
use Rattle.level.proofs.Parts.{second_later}
use Rattle.level.proofs.second.Second.next_after.Goals as goal

pub overflow_cast-result : goal.overflow_cast-result
overflow_cast-result c = let a = c.args in
    let s = a.self in
    let most = next_less (λ q. among s.keys q) (a.p - s.length) (a.end - s.length) (omega (arith, c.requires.0, c.requires.1)) in
    omega (arith, c.next_key-x.ensures, c.requires.0, c.requires.1)

pub overflow_add-result : goal.overflow_add-result
overflow_add-result c = let a = c.args in
    let s = a.self in
    let most = next_less (λ q. among s.keys q) (a.p - s.length) (a.end - s.length) (omega (arith, c.requires.0, c.requires.1)) in
    omega (arith, c.next_key-x.ensures, c.requires.0, c.requires.1)

pub returns : goal.returns
returns c = let a = c.args in second_later a.self a.p a.end c.next_key-x.result c.requires.0 c.requires.1 c.next_key-x.ensures

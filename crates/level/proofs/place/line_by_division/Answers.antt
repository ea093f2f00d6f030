-- No line starts; every line starts at 0; the quotient is one of the lines; or all lines start at or before pixel n.
-- Assumes nothing.
use Prim.Native.Nat.{ℕ, ◌*◌, ◌-◌, ◌/◌, ◌≤◌}
use mathlib.Core.Path.{ap}
use native.Mathlib.Nat.{zero-mul, mul-zero, mul-le-mul, le_trans, div-mul-le_self}
use Rattle.level.proofs.Divided.{multiple_none, multiple_quotient, multiple_last}
use native.Mathlib.Omega.{arith}
use Rattle.level.proofs.place.line_by_division.Goals as goal

pub returns-then-lines-eq0 : goal.returns-then-lines-eq0
returns-then-lines-eq0 c = let a = c.args in
    record { value = multiple_none a.length a.lines a.n c.if-lines-eq0.true; upper_bound = (omega arith, omega (arith, zero-mul a.length)) }

pub returns-then-length-eq0 : goal.returns-then-length-eq0
returns-then-length-eq0 c = let a = c.args in
    let z : (a.lines - 1) * a.length ≤ a.n = omega (arith, ap (λ (x : ℕ). (a.lines - 1) * x) c.if-length-eq0.true, mul-zero (a.lines - 1)) in
    record { value = multiple_last a.length a.lines a.n (omega arith) z; upper_bound = (omega arith, z) }

pub returns-then-line-lines : goal.returns-then-line-lines
returns-then-line-lines c = let a = c.args in
    record { value = multiple_quotient a.length a.lines a.n (omega arith) c.if-line-lines.true; upper_bound = (omega arith, div-mul-le_self a.n a.length) }

pub returns-else-line-lines : goal.returns-else-line-lines
returns-else-line-lines c = let a = c.args in
    let most : a.lines - 1 ≤ a.n / a.length = omega arith in
    let z : (a.lines - 1) * a.length ≤ a.n = le_trans (mul-le-mul most (omega arith)) (div-mul-le_self a.n a.length) in
    record { value = multiple_last a.length a.lines a.n (omega arith) z; upper_bound = (omega arith, z) }

-- The levels as by themselves. The next edge is the next used toggle above the lengths gone by, times the length.
-- Assumes nothing.
use native.Mathlib.Omega.{arith}
use Prim.Native.Nat.{◌<◌}
use mathlib.Core.Path.{◌∙◌}
use Rattle.level.proofs.Nexts.{is_what}
use Rattle.level.proofs.Parts.{times_at_zero, times_at_gone, times_zero, times-far, times-past, times-inside, times_none}
use Rattle.level.proofs.first.First.times_both.Goals as goal

pub returns-then-l-eq0 : goal.returns-then-l-eq0
returns-then-l-eq0 c = let a = c.args in
    record { levels_value = times_at_zero a.self a.t c.if-l-eq0.true c.six.ensures.value; levels_bound = c.six.ensures.upper_bound; far_value = times_zero a.self a.t a.room c.requires c.if-l-eq0.true }

pub returns-then-m-ge65535 : goal.returns-then-m-ge65535
returns-then-m-ge65535 c =
    let levels = times_at_gone c.args.self c.args.t c.if-l-eq0.false c.cap.ensures c.six-levels.ensures.value in
    let pos : (0 < c.args.self.length) = omega (arith, c.if-l-eq0.false) in
    let a = c.args in
    record { levels_value = levels; levels_bound = c.six-levels.ensures.upper_bound; far_value = times-far a.self a.t a.room c.requires pos c.if-m-ge65535.true }

pub overflow_sub-x : goal.overflow_sub-x
overflow_sub-x c =
    let pos : (0 < c.args.self.length) = omega (arith, c.if-l-eq0.false) in
    let key = is_what (omega (arith, c.if-m-ge65535.false)) c.next_key-x.ensures in
    let a = c.args in
    omega (arith, times-past a.self a.t a.room c.requires pos c.next_key-x.result key)

pub returns-then-x-lt65536 : goal.returns-then-x-lt65536
returns-then-x-lt65536 c =
    let levels = times_at_gone c.args.self c.args.t c.if-l-eq0.false c.cap.ensures c.six-levels.ensures.value in
    let pos : (0 < c.args.self.length) = omega (arith, c.if-l-eq0.false) in
    let key = is_what (omega (arith, c.if-m-ge65535.false)) c.next_key-x.ensures in
    let a = c.args in
    record { levels_value = levels; levels_bound = c.six-levels.ensures.upper_bound; far_value = c.within.ensures ∙ times-inside a.self a.t a.room c.requires pos c.next_key-x.result key c.if-x-lt65536.true }

pub returns : goal.returns
returns c =
    let levels = times_at_gone c.args.self c.args.t c.if-l-eq0.false c.cap.ensures c.six-levels.ensures.value in
    let pos : (0 < c.args.self.length) = omega (arith, c.if-l-eq0.false) in
    let key = is_what (omega (arith, c.if-m-ge65535.false)) c.next_key-x.ensures in
    let a = c.args in
    record { levels_value = levels; levels_bound = c.six-levels.ensures.upper_bound; far_value = times_none a.self a.t a.room c.requires pos c.next_key-x.result key c.if-x-lt65536.false }

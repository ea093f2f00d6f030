-- What the check leaves open, by the laws cited.
-- Assumes nothing.
use Prim.Native.Nat.{◌<◌}
use mathlib.Core.Path.{◌∙◌, subst, sym}
use native.Mathlib.Omega.{arith}
use Rattle.profile.specs.Layout.{IsPart}
use Rattle.profile.proofs.Halves.{part_is}
use Rattle.profile.proofs.Registers.{pattern-first, pattern-part, pattern-other, pattern-all}
use Rattle.profile.proofs.patterns.pattern_of.Goals as goal
use Rattle.profile.proofs.patterns.pattern_of.Goals.{then-pattern_named-k, else-pattern_named-k}

pub loop-i-init : goal.loop-i-init
loop-i-init c = c.empty_pattern-pattern.ensures ∙ pattern-first _ _

pub with_part-pattern-requires : goal.with_part-pattern-requires
with_part-pattern-requires c = let i = c.loop-i.i in
    subst IsPart (sym (c.part_named.ensures ∙ c.table-entries.ensures.follows.part i (omega (arith, c.table-entries.ensures.follows.size)))) (part_is i)

pub loop-i-preserved : goal.loop-i-preserved
loop-i-preserved c = let t = c.table-entries.ensures.follows in
    let named = c.pattern_named in
    let h : c.loop-i.i < 240 = omega (arith, t.size) in
    elim c.if-pattern_named-k.branch [
      | then-pattern_named-k w ↦
          pattern-part _ _ _ c.loop-i.i t h c.loop-i.invariant named.ensures w.if-pattern_named-k.true w.part_named.ensures (w.pattern-is ∙ w.with_part-pattern.ensures)
      | else-pattern_named-k w ↦ pattern-other _ _ _ c.loop-i.i t h c.loop-i.invariant named.ensures w.if-pattern_named-k.false w.pattern-is
    ]

pub returns : goal.returns
returns c = let t = c.table-entries.ensures.follows in
    pattern-all _ _ c.loop-i.i (omega (arith, t.size)) (omega (arith, t.size)) c.loop-i.invariant

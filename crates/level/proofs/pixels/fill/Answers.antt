-- What the check leaves open, by the laws cited.
-- Assumes nothing.
use Prim.Native.Nat.{min}
use mathlib.Core.Path.{◌≡◌, ◌∙◌, sym}
use native.Mathlib.Omega.{arith}
use lib.ListN.{length}
use Rattle.level.specs.Fieldwords.{line_words}
use Rattle.level.proofs.Words.{line_words-length, line_words-at}
use Rattle.level.proofs.Filling.{filled_none, filled_more, filled-over}
use Rattle.level.proofs.Edges.{word_joined}
use Rattle.level.proofs.pixels.fill.Goals as goal

pub loop-p-init : goal.loop-p-init
loop-p-init c = (filled_none, omega arith, omega (arith, c.min-n.ensures))

pub loop-p-preserved : goal.loop-p-preserved
loop-p-preserved c = let w = word_joined c.prepare-ready.result c.loop-p.p c.six_at.ensures.value c.eight_at.ensures.value c.join.ensures in
    (filled_more c.loop-p.invariant.0 (omega (arith, c.loop-p.invariant.0.long, c.loop-p.invariant.2)) w, omega arith, c.loop-p.invariant.2)

pub returns : goal.returns
returns c = let l = c.loop-p in
    let line = c.args.line in
    let e : l.p ≡ min line.length (length c.args.out.now) = omega (arith, l.invariant.1, c.min-n.ensures) in
    filled-over l.invariant.0 (line_words line _) (line_words-length line _ ∙ sym e)
    (λ k h. c.prepare-ready.ensures.words k (omega arith) ∙ sym (line_words-at line _ k (omega arith)))

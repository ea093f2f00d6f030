-- What the check leaves open, by the laws cited.
-- Assumes nothing.
use native.Mathlib.Omega.{arith}
use borrow.Author.Rules.{rules}
use Rattle.holdlist.proofs.LineLoops.{pushed_start, pushed-counted, pushed-steps, pushed_more, pushed-all, words_lent, words_long, word_held}
use Rattle.holdlist.proofs.filling.PixelsEngine.fill_line.Goals as goal

pub loop-word-init : goal.loop-word-init
loop-word-init c = (
  pushed_start c.args.line _ _ _ c.requires.length_bound_2 (search rules) (search rules),
  words_lent c.args.line c.args.shown.now _ _ (omega (arith, c.requires.length_bound)) c.fill.ensures c.from.ensures,
)

pub hold-next-requires : goal.hold-next-requires
hold-next-requires c = let v = c.loop-word.invariant in pushed-counted v.0 1 (omega (arith, words_long c.args.line v.1))

pub overflow_add-filled : goal.overflow_add-filled
overflow_add-filled c = let v = c.loop-word.invariant in omega (arith, pushed-steps v.0 _ 1 (omega (arith, words_long c.args.line v.1)) c.hold-next.ensures)

pub loop-word-preserved : goal.loop-word-preserved
loop-word-preserved c = let v = c.loop-word.invariant in
    let free = c.free_from-c.ensures in (
      pushed_more v.0 _ 1 _ (omega (arith, words_long c.args.line v.1)) (word_held c.args.line _ v.1 c.loop-word-test.true) free.in_counts free.in_words c.hold-next.ensures,
      v.1,
    )

pub returns : goal.returns
returns c = let v = c.loop-word.invariant in pushed-all v.0 (omega (arith, words_long c.args.line v.1))

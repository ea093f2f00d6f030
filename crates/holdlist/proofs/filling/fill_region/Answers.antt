-- What the check leaves open, by the laws cited.
-- Assumes nothing.
use native.Mathlib.Omega.{arith}
use lib.ListN.{length}
use mathlib.Core.Path.{ap}
use borrow.Author.Rules.{rules}
use Rattle.level.proofs.Words.{line_words-length}
use Rattle.holdlist.proofs.Fills.{turns_start, turns_at, turn-counted, turn-steps, turn_more, turns-end}
use Rattle.holdlist.proofs.FieldLoops.{starts_at, made_words, made-short}
use Rattle.holdlist.proofs.filling.fill_region.Goals as goal

pub loop-number-init : goal.loop-number-init
loop-number-init g c =
    let starts = starts_at c.args.field c.args.i c.region_at-number.ensures in
    turns_at (turns_start _ _ _ _ _ c.requires.i_bound_2 (search rules) (search rules)) (omega (arith, starts))

pub fill_line-next-requires : goal.fill_line-next-requires
fill_line-next-requires g c =
    let starts = starts_at c.args.field c.args.i c.region_at-number.ensures in
    let made = made_words c.args.version _ _ c.requires.fillable _ c.requires.i_bound (omega (arith, starts)) (omega arith) c.strip_of-strip.ensures c.line_on-line.ensures in
    let short = made-short c.args.version _ _ c.requires.fillable _ c.requires.i_bound (omega (arith, starts)) (omega arith) c.strip_of-strip.ensures c.line_on-line.ensures in
    record {
      length_bound = short;
      length_bound_2 = omega (arith, turn-counted c.loop-number.invariant (omega (arith, starts)), ap length made, line_words-length c.line_on-line.result c.line_on-line.result.length);
    }

pub overflow_add-filled : goal.overflow_add-filled
overflow_add-filled g c =
    let starts = starts_at c.args.field c.args.i c.region_at-number.ensures in
    let made = made_words c.args.version _ _ c.requires.fillable _ c.requires.i_bound (omega (arith, starts)) (omega arith) c.strip_of-strip.ensures c.line_on-line.ensures in
    omega (arith, turn-steps c.loop-number.invariant (omega (arith, starts)) made c.fill_line-next.ensures)

pub loop-number-preserved : goal.loop-number-preserved
loop-number-preserved g c =
    let starts = starts_at c.args.field c.args.i c.region_at-number.ensures in
    let made = made_words c.args.version _ _ c.requires.fillable _ c.requires.i_bound (omega (arith, starts)) (omega arith) c.strip_of-strip.ensures c.line_on-line.ensures in
    let free = c.free_from-c.ensures in
    turns_at (turn_more c.loop-number.invariant (omega (arith, starts)) made free.in_counts free.in_words c.fill_line-next.ensures) (omega (arith, starts))

pub returns : goal.returns
returns g c = turns-end c.loop-number.invariant (omega arith)

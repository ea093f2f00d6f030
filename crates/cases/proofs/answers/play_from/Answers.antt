-- The lists are what the payload has, and as long as before.
-- Assumes nothing.
use native.Mathlib.Omega.{arith}
use mathlib.Core.Path.{◌≡◌}
use lib.ListN.{length}
use Rattle.holdlist.proofs.Puts.{puts_as}
use Rattle.cases.proofs.Answered.{play_filled}
use Rattle.cases.proofs.answers.play_from.Goals as goal

pub returns : goal.returns
returns c = let a = c.args in
    let n = length c.fill_fours.new.list in
    let h : n ≡ length a.counts.now = omega arith in
    puts_as c.put_played.ensures
    (play_filled a.payload.now a.counts.now a.words.now _ _ n _ _ c.eight_at-used.ensures c.eight_at-position.ensures c.fill_fours.ensures c.fill_numbers.ensures h)

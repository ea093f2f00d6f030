-- The lists are what the payload has, and as long as before.
-- Assumes nothing.
use native.Mathlib.Omega.{arith}
use mathlib.Core.Path.{◌≡◌}
use lib.ListN.{length}
use Rattle.holdlist.proofs.Puts.{puts_as}
use Rattle.cases.proofs.Answered.{compile_filled}
use Rattle.cases.proofs.answers.compile_into.Goals as goal

pub returns : goal.returns
returns g c = let a = c.args in
    let h : length c.fill_fours.new.list ≡ length a.counts.now = omega arith in
    puts_as c.put_compiled.ensures
    (compile_filled a.payload.now a.counts.now a.words.now _ _ (length c.fill_fours.new.list) _ _ c.rules_at-rules.ensures c.raw_profile-profile.ensures
    c.fill_fours.ensures c.fill_numbers.ensures h)

-- The tests are those of the definition, joined in its order.
-- Assumes nothing.
use borrow.Author.Rules.{rules}
use lib.Dec.{leb}
use mathlib.Core.Bool.{◌&&◌}
use mathlib.Core.Path.{◌≡◌}
use Rattle.profile.proofs.Tested.{and_regroup, joined-all}
use Rattle.profile.proofs.limits.field_in_range.Goals as goal

pub returns : goal.returns
returns c = let f = c.args.f in
    let count : c.contains.result ≡ (leb 1 f.count && leb f.count 7) = search rules in
    rw (c.is_extent.ensures, c.is_extent-2.ensures, count) (simp and_regroup (joined-all _ _))

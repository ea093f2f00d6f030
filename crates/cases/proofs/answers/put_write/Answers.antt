-- The slice is what follows the raw profile.
-- Assumes nothing.
use Rattle.std.proofs.Common.{arith}
use Rattle.holdlist.proofs.Puts.{puts_as}
use Rattle.profile.proofs.Laws.{rest_dropped}
use Rattle.cases.specs.Raw.{raw_length}
use Rattle.cases.proofs.answers.put_write.Goals as goal

pub returns : goal.returns
returns c = puts_as c.put_written.ensures
    (rw (c.raw_profile-profile.ensures, rest_dropped raw_length c.min-from.result c.args.payload.now (omega arith)))

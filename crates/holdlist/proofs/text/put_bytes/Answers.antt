-- What the check leaves open, by the laws cited.
-- Assumes nothing.
use Rattle.profile.proofs.Stores.{all_bytes}
use Rattle.holdlist.proofs.Puts.{putting, puts_as}
use Rattle.holdlist.proofs.text.put_bytes.Goals as goal

pub loop-byte-init : goal.loop-byte-init
loop-byte-init c = search putting

pub loop-byte-preserved : goal.loop-byte-preserved
loop-byte-preserved c = search putting

pub returns : goal.returns
returns c = puts_as (search putting) (all_bytes _)

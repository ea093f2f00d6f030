-- By the verdict of writing; what was written is the script.
-- Assumes nothing.
use borrow.Author.Rules.{rules}
use mathlib.Core.Path.{◌≡◌, refl}
use native.Mathlib.Omega.{arith}
use lib.ListN.{length, length-take}
use Rattle.profile.specs.Writing.{longest_script}
use Rattle.holdlist.proofs.Puts.{puts_as}
use Rattle.ask.proofs.Answering.{short_unwritten, write-inside, write-taken, write-short}
use Rattle.ask.proofs.answers.put_write_text.Goals as goal

pub slice_bounds-room-end : goal.slice_bounds-room-end
slice_bounds-room-end c = let r = c.script_room-room in
    let h : length c.write.new.out ≡ longest_script = search rules in
    omega (arith, write-inside _ r.result _ c.in-Ok.ensures.value r.ensures refl)

pub slice_bounds-put_bytes-end : goal.slice_bounds-put_bytes-end
slice_bounds-put_bytes-end c = let r = c.script_room-room in
    let h : length c.write.new.out ≡ longest_script = search rules in
    simp length-take (omega (arith, write-inside _ r.result _ c.in-Ok.ensures.value r.ensures refl))

pub returns-in-Ok : goal.returns-in-Ok
returns-in-Ok c = let e = c.in-Ok.ensures in
    let r = c.script_room-room in
    record {
      puts = puts_as c.put_bytes.ensures (write-taken _ r.result _ e.value r.ensures refl _ e.out_after);
      short = write-short _ r.result _ e.value r.ensures refl;
    }

pub returns-in-Err : goal.returns-in-Err
returns-in-Err c = let r = c.script_room-room in
    short_unwritten _ r.result _ c.in-Err.ensures.value r.ensures _ refl c.put_refusal.ensures

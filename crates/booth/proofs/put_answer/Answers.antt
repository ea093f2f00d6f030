-- `put_answer` puts what is printed for a script by the newest rules, which the room holds whole.
-- Assumes nothing.
use native.Mathlib.Omega.{arith}
use Rattle.booth.proofs.Answers.{printed_whole}
use Rattle.booth.proofs.put_answer.Goals as goal

pub returns : goal.returns
returns c =
    let w = printed_whole (λ i. omega (arith, c.type_inv.script i)) c.put_text_in.ensures c.requires in
    record { upper_bound = w.0; out_after = rw (← c.newest_rules.ensures) w.1.0; prints = rw (← c.newest_rules.ensures) w.1.1 }

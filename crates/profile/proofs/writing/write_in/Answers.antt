-- Refused as the check refuses, no room, and written: one law for each answer.
-- Assumes nothing.
use borrow.Author.Rules.{rules}
use mathlib.Core.Path.{◌≡◌, refl, ◌∙◌, ap}
use Rattle.std.specs.Prelude.{Err}
use Rattle.profile.specs.Refusals.{write_told}
use Rattle.profile.proofs.Refusing.{no-zero}
use Rattle.profile.proofs.Answers.{refused-first, no_room_lem, room}
use Rattle.profile.proofs.writing.write_in.Goals as goal

pub returns-in_err-check_in : goal.returns-in_err-check_in
returns-in_err-check_in c =
    let refusal = c.in_err-check_in.field-0.0 in
    let e : c.from_residual.result ≡ Err refusal = search rules in
    let w = refused-first _ _ _ _ c.in_err-check_in.ensures (no-zero refusal) in
    record { value = ap write_told e ∙ w.0; out_after = w.1 }

pub returns-then-out-n : goal.returns-then-out-n
returns-then-out-n c =
    let w = no_room_lem _ _ _ _ c.in_ok-check_in.ensures refl _ c.script_length-n.ensures.value c.if-out-n.true in
    record { value = w.0; out_after = w.1 }

pub returns : goal.returns
returns c =
    let w = room _ _ _ _ c.in_ok-check_in.ensures refl _ c.script_length-n.ensures.value c.if-out-n.false _ c.put_script.ensures in
    record { value = w.0; out_after = w.1 }

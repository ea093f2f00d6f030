-- Too many bytes are 1; a refusal that is held is answered; else what is held is read on and judged.
-- Assumes nothing.
use Rattle.std.proofs.lemmas.Result.{err_from_is_err_and}
use mathlib.Core.Path.{sym, ap, ◌∙◌}
use Rattle.profile.specs.Script.{judged}
use Rattle.profile.proofs.Told.{told_refusal, told_judged}
use Rattle.profile.proofs.Chunks.{stands, held_some, held_none, answer-long, answer_refused, answer-read}
use Rattle.profile.proofs.upload.answer_in.Goals as goal

pub returns-then-total-gt-MOST_BYTES : goal.returns-then-total-gt-MOST_BYTES
returns-then-total-gt-MOST_BYTES c = let k = stands c.args.upload c.held_of-held.ensures.0 c.max-total.ensures in
    answer-long c.args.rules k c.if-total-gt-MOST_BYTES.true

pub returns-in-Some : goal.returns-in-Some
returns-in-Some c = let k = stands c.args.upload c.held_of-held.ensures.0 c.max-total.ensures in
    let h = held_some c.args.upload.arrival c.in-Some.refusal c.in-Some.ensures in
    told_refusal c.in-Some.refusal c.args.upload.profile h.1 ∙ answer_refused c.args.rules k c.if-total-gt-MOST_BYTES.false h.0

pub returns-in_err-outcome : goal.returns-in_err-outcome
returns-in_err-outcome c = let k = stands c.args.upload c.held_of-held.ensures.0 c.max-total.ensures in
    let p = err_from_is_err_and c.from_residual.result c.from_residual.ensures.1 in
    rw (p.1, p.2)
    (sym (told_judged c.args.rules c.in_err-outcome.field-0.0) ∙ ap (judged c.args.rules) c.in_err-outcome.ensures
    ∙ answer-read c.args.rules k c.if-total-gt-MOST_BYTES.false c.records_from-stop.ensures (held_none c.args.upload.arrival c.in_default.ensures))

pub returns : goal.returns
returns c = let k = stands c.args.upload c.held_of-held.ensures.0 c.max-total.ensures in
    c.judged.ensures ∙ ap (judged c.args.rules) c.in_ok-outcome.ensures
    ∙ answer-read c.args.rules k c.if-total-gt-MOST_BYTES.false c.records_from-stop.ensures (held_none c.args.upload.arrival c.in_default.ensures)

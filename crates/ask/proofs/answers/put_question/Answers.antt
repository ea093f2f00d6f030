-- A script's refusal, or what its profile gives.
-- Assumes nothing.
use Rattle.ask.proofs.Answering.{of_refused, of_accepted}
use Rattle.ask.proofs.answers.put_question.Goals as goal

pub returns-in-Ok : goal.returns-in-Ok
returns-in-Ok c = rw c.in-OfProfile.is (of_accepted _ _ _ c.in-Ok.ensures c.put_profile_text.ensures)

pub returns-in-Err : goal.returns-in-Err
returns-in-Err c = rw c.in-OfProfile.is (of_refused _ _ _ c.in-Err.ensures c.put_refusal.ensures)

-- A refusal is its verdict, and what is accepted is the profile.
-- Assumes nothing.
use Rattle.std.proofs.lemmas.Result.{err_from_is_err_and}
use Rattle.profile.proofs.Told.{told_refusal}
use Rattle.profile.proofs.records.judged.Goals as goal

pub returns-in_err-judge : goal.returns-in_err-judge
returns-in_err-judge c = let p = err_from_is_err_and c.from_residual.result c.from_residual.ensures.1 in
    rw (p.1, p.2) (told_refusal _ _ c.in_err-judge.ensures)

pub returns : goal.returns
returns c = rw (← c.in_ok-judge.ensures)

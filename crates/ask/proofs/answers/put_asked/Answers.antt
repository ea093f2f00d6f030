-- By the length of the line, which is where its end stands; then by what the line asks.
-- Assumes nothing.
use native.Mathlib.Omega.{arith}
use mathlib.Core.Path.{sym, ◌∙◌}
use Rattle.profile.proofs.Laws.{rest_dropped}
use Rattle.ask.specs.Question.{script_of}
use Rattle.ask.proofs.Answering.{short_none, short_as, asked-none, asked_answer}
use Rattle.ask.proofs.answers.put_asked.Goals as goal

pub returns-then-end-gt123 : goal.returns-then-end-gt123
returns-then-end-gt123 c = let e = c.end_of-end.ensures in
    short_as short_none (sym (asked-none _ (omega (arith, e.value))))

pub returns-in-Some : goal.returns-in-Some
returns-in-Some c = let e = c.end_of-end.ensures in
    short_as c.put_question.ensures
    (c.in-Some.ensures _ ∙ rw (rest_dropped _ _ _ c.after_end-from.ensures, e.value) (sym (asked_answer _ (omega (arith, e.value)))))

pub returns-in-None : goal.returns-in-None
returns-in-None c = let e = c.end_of-end.ensures in
    short_as short_none (c.in-None.ensures (script_of c.args.input.now) ∙ rw e.value (sym (asked_answer _ (omega (arith, e.value)))))

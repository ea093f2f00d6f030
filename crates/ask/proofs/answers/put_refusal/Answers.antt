-- A refusal's line is put, and is short.
-- Assumes nothing.
use borrow.Author.Rules.{rules}
use Rattle.ask.proofs.Answering.{short_as, verdict-length}
use Rattle.ask.proofs.answers.put_refusal.Goals as goal

pub returns : goal.returns
returns c = short_as (record { puts = c.put_refused_line.ensures; short = verdict-length c.verdict.result (search rules) }) (rw c.verdict.ensures)

-- The line, then the lists as they were left.
-- Assumes nothing.
use Rattle.std.proofs.Common.{rules}
use Rattle.holdlist.proofs.Puts.{puts_as, puts_more}
use Rattle.cases.proofs.Answered.{compile_line}
use Rattle.cases.proofs.answers.put_compiled.Goals as goal

pub returns : goal.returns
returns g c = let r = c.compile-compiled in
    puts_as (puts_more (puts_more c.put_verdict_line-a.ensures c.put_counts-b.ensures) c.put_words.ensures)
    (compile_line r.result c.verdict_in.ensures (search rules) r.ensures)

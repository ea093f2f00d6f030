-- A script too long is refused; of another the records are taken, and their profile is judged where none was refused.
-- Assumes nothing.
use Rattle.std.proofs.lemmas.Result.{err_from_is_err_and}
use mathlib.Core.Path.{◌∙◌}
use borrow.Author.Tests.{lt-leb, le-leb}
use Rattle.profile.specs.Script.{most_bytes, read_script}
use Rattle.profile.proofs.Told.{told_judged}
use Rattle.profile.proofs.records.read_in.Goals as goal

pub returns-then-script-gt-MOST_BYTES : goal.returns-then-script-gt-MOST_BYTES
unfolding read_script
returns-then-script-gt-MOST_BYTES c = rw (lt-leb _ most_bytes c.if-script-gt-MOST_BYTES.true)

pub returns-in_err-read_records : goal.returns-in_err-read_records
unfolding read_script
returns-in_err-read_records c = let p = err_from_is_err_and c.from_residual.result c.from_residual.ensures.1 in
    rw (p.1, p.2, le-leb _ most_bytes c.if-script-gt-MOST_BYTES.false, ← c.in_err-read_records.ensures, told_judged)

pub returns : goal.returns
unfolding read_script
returns c = c.judged.ensures ∙ rw (le-leb _ most_bytes c.if-script-gt-MOST_BYTES.false, ← c.in_ok-read_records.ensures)

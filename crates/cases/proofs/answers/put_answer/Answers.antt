-- No kind has the letter, the payload is not right for its kind, or its lines are put after the first.
-- Assumes nothing.
use mathlib.Core.Path.{◌≡◌, sym}
use mathlib.Core.Bool.{true, false}
use Rattle.std.specs.Prelude.{None}
use Rattle.std.proofs.Common.{rules}
use Rattle.cases.specs.Faults.{is_right}
use Rattle.cases.proofs.Refusing.{puts_wrong, puts_right}
use Rattle.cases.proofs.answers.put_answer.Goals as goal

pub returns-in_err-kind : goal.returns-in_err-kind
returns-in_err-kind c =
    let e : c.from_residual.result ≡ None = search rules in
    let wrong = c.in_err-kind.ensures c.args.payload.now in
    rw e (record { answered = sym wrong; text = puts_wrong _ _ _ _ wrong })

pub returns-then-not-is_right : goal.returns-then-not-is_right
returns-then-not-is_right c =
    let e : is_right c.args.letter c.args.payload.now ≡ false = rw c.in_ok-kind.ensures (search rules) in
    record { answered = sym e; text = puts_wrong _ _ _ _ e }

pub returns : goal.returns
returns c =
    let e : is_right c.args.letter c.args.payload.now ≡ true = rw c.in_ok-kind.ensures (search rules) in
    record { answered = sym e; text = puts_right _ _ _ e c.put_case_line-at.ensures (rw c.in_ok-kind.ensures c.put_lines.ensures) }

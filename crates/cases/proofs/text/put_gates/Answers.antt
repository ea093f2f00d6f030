-- One gate after the other.
-- Assumes nothing.
use borrow.Author.Rules.{rules}
use Rattle.profile.specs.Values.{empty_gate}
use Rattle.cases.specs.Answer.{afters, gate_numbers}
use Rattle.cases.proofs.text.put_gates.Goals as goal

pub returns : goal.returns
returns c =
    c.put_each.ensures (λ i x. afters (gate_numbers x)) empty_gate 5 (search rules) (λ o p to i n x s. search rules)

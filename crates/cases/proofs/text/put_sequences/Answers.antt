-- One sequence after the other.
-- Assumes nothing.
use borrow.Author.Rules.{rules}
use Rattle.profile.specs.Values.{empty_sequence}
use Rattle.cases.specs.Answer.{afters, sequence_numbers}
use Rattle.cases.proofs.text.put_sequences.Goals as goal

pub returns : goal.returns
returns c =
    c.put_each.ensures (λ i x. afters (sequence_numbers x)) empty_sequence 10 (search rules) (λ o p to i n x s. search rules)

-- The numbers of the field, then its regions.
-- Assumes nothing.
use mathlib.Core.Path.{◌≡◌}
use borrow.Author.Rules.{rules}
use Rattle.holdlist.proofs.Puts.{puts_more}
use Rattle.cases.specs.Answer.{flag_number}
use Rattle.cases.proofs.text.put_field.Goals as goal

pub returns : goal.returns
returns c =
    let e : c.from.result ≡ flag_number c.args.f.now.present = search rules in
    puts_more (rw e at c.put_numbers-a.ensures) c.put_regions.ensures

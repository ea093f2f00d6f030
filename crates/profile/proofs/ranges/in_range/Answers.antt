-- The tests of the items of each list; the joined answers of the parts are the definition.
-- Assumes nothing.
use borrow.Author.Rules.{rules}
use borrow.Author.Tests.{tests}
use mathlib.Core.Path.{◌≡◌, ◌∙◌}
use Rattle.std.proofs.lemmas.Iterator.{YieldsList-from_slice}
use Rattle.std.proofs.lemmas.Iterator.Search.{all_from_yields_List}
use Rattle.profile.specs.Lists.{all, chunks}
use Rattle.profile.specs.Values.{empty_sequence, empty_gate, empty_shutter}
use Rattle.profile.specs.Ranges.{sequence_in, gate_in, shutter_in, sequence_tests, gate_tests, shutter_tests, in_range}
use Rattle.profile.proofs.Tested.{all-items}
use Rattle.profile.proofs.ranges.in_range.Goals as goal

pub returns : goal.returns
unfolding in_range
returns c = let t = c.args.profile.tables in
    let s : c.all.result ≡ all (chunks 10 (sequence_tests t.sequences)) =
    all_from_yields_List sequence_in _ _ c.all.result c.all.ensures.ran (YieldsList-from_slice t.sequences c.iter.ensures.rest) (λ x b q k. search (rules, tests))
    ∙ all-items sequence_in empty_sequence t.sequences (search rules) in
    let g : c.all-2.result ≡ all (chunks 5 (gate_tests t.gates)) =
    all_from_yields_List gate_in _ _ c.all-2.result c.all-2.ensures.ran (YieldsList-from_slice t.gates c.iter-2.ensures.rest) (λ x b q k. search (rules, tests))
    ∙ all-items gate_in empty_gate t.gates (search rules) in
    let u : c.all-3.result ≡ all (chunks 2 (shutter_tests t.shutters)) =
    all_from_yields_List shutter_in _ _ c.all-3.result c.all-3.ensures.ran (YieldsList-from_slice t.shutters c.iter-3.ensures.rest) (λ x b q k. search (rules, tests))
    ∙ all-items shutter_in empty_shutter t.shutters (search rules) in
    rw (c.halves_in.ensures, s, g, c.subck_in.ensures, u, c.field_in.ensures)

-- The sum of the parts' lengths; the items by number have as many bytes as those present.
-- Assumes nothing.
use mathlib.Core.Path.{◌≡◌, refl}
use borrow.Author.Rules.{rules}
use native.Mathlib.Omega.{arith}
use Rattle.std.specs.List.{count_by}
use Rattle.std.proofs.iter.runs.Made.{chains}
use Rattle.profile.specs.Values.{empty_sequence, empty_gate, empty_shutter}
use Rattle.profile.specs.Writing.{sequence_record, gate_record, subck_record, shutter_record}
use Rattle.profile.specs.declared.Sequence.{Sequence}
use Rattle.profile.specs.declared.Gate.{Gate}
use Rattle.profile.specs.declared.Shutter.{Shutter}
use Rattle.profile.proofs.Sizes.{length_script, script_high}
use Rattle.profile.proofs.Stores.{length_chosen, length-present}
use Rattle.profile.proofs.writing.script_length.Goals as goal

pub returns : goal.returns
returns c = let p = c.args.profile in
    let t = p.tables in
    let s : c.count.result ≡ count_by (λ (s : Sequence). s.present) t.sequences = search (rules, chains) in
    let g : c.count-2.result ≡ count_by (λ (g : Gate). g.present) t.gates = search (rules, chains) in
    let u : c.count-3.result ≡ count_by (λ (u : Shutter). u.present) t.shutters = search (rules, chains) in
    let ls = length-present 18 (λ (s : Sequence). s.present) sequence_record empty_sequence t.sequences (λ k x. refl) 10 (search rules) in
    let lg = length-present 14 (λ (g : Gate). g.present) gate_record empty_gate t.gates (λ k x. refl) 5 (search rules) in
    let lu = length-present 16 (λ (u : Shutter). u.present) shutter_record empty_shutter t.shutters (λ k x. refl) 2 (search rules) in
    let subck = length_chosen t.subck.present (subck_record t.subck) in
    record { value = omega (arith, length_script p); upper_bound = omega (arith, length_script p, script_high p) }

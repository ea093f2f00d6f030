-- The record that is held is whole and is judged, and the chunk's records after it are read on.
-- Assumes nothing.
use mathlib.Core.Path.{◌≡◌, sym, ◌∙◌}
use Rattle.profile.specs.Reading.{fault_number, fault_in}
use Rattle.profile.proofs.OneRecord.{faulty}
use Rattle.profile.proofs.Chunks.{fed_on, test_is, front-filled, part-longer, take-refused, take-read, rest-waits, rest_read}
use Rattle.profile.proofs.upload.take_whole.Goals as goal

pub returns-in-Some : goal.returns-in-Some
returns-in-Some c = let k = fed_on c.args.upload c.args.chunk.now c.held_of-held.ensures.0 c.max-before.ensures c.count_on-total.ensures in
    let o = sym (test_is k) ∙ c.requires.few in
    let f = front-filled k o c.requires.filled in
    let q : fault_in c.records_from-record.result.fault ≡ fault_number c.in-Some.fault = rw c.in-Some.is in
    rw (c.refused.ensures, ← q) (take-refused k o f c.records_from-record.ensures c.requires.whole (λ z. faulty _ (sym q ∙ z)))

-- how many of the chunk's bytes the record takes
pub overflow_sub-first : goal.overflow_sub-first
overflow_sub-first c = let k = fed_on c.args.upload c.args.chunk.now c.held_of-held.ensures.0 c.max-before.ensures c.count_on-total.ensures in
    let o = sym (test_is k) ∙ c.requires.few in
    let f = front-filled k o c.requires.filled in
    (part-longer k o f).0

pub records_from-rest-requires : goal.records_from-rest-requires
records_from-rest-requires c = let k = fed_on c.args.upload c.args.chunk.now c.held_of-held.ensures.0 c.max-before.ensures c.count_on-total.ensures in
    let o = sym (test_is k) ∙ c.requires.few in
    let f = front-filled k o c.requires.filled in
    (part-longer k o f).1

pub stopped-requires-clause-chunk_value : goal.stopped-requires-clause-chunk_value
stopped-requires-clause-chunk_value c = let k = fed_on c.args.upload c.args.chunk.now c.held_of-held.ensures.0 c.max-before.ensures c.count_on-total.ensures in
    let o = sym (test_is k) ∙ c.requires.few in
    let f = front-filled k o c.requires.filled in
    let i = (part-longer k o f).1 in
    rest-waits _ _ _ i _ c.records_from-rest.ensures

pub returns : goal.returns
returns c = let k = fed_on c.args.upload c.args.chunk.now c.held_of-held.ensures.0 c.max-before.ensures c.count_on-total.ensures in
    let o = sym (test_is k) ∙ c.requires.few in
    let f = front-filled k o c.requires.filled in
    let i = (part-longer k o f).1 in
    let q : fault_in c.records_from-record.result.fault ≡ 0 = rw c.in_default.is in
    rw c.stopped.ensures
    (rest_read _ _ _ i _ c.records_from-rest.ensures _ _ ∙ take-read k o f c.records_from-record.ensures c.requires.whole q)

-- The length tells the form. The numbers before the regions are tested first: then the body has as many regions as they say, at most seven,
-- and those decide.
-- Assumes nothing.
use Rattle.profile.proofs.Readers.{head_no, head_count, field_no, field-yes}
use Rattle.profile.proofs.records.read_field.Goals as goal

pub returns-then-not-fits : goal.returns-then-not-fits
returns-then-not-fits c = let t = rw c.from-count.ensures at c.if-not-fits.true in search (head_no, t)

pub regions_from-requires : goal.regions_from-requires
regions_from-requires c = rw c.from-count.ensures (head_count c.args.body.now c.has_form-two.ensures c.head_length-size.ensures.value c.head_from-head.ensures
    c.field_in_range.ensures (rw c.from-count.ensures at c.if-not-fits.false))

pub returns-in_err-regions : goal.returns-in_err-regions
returns-in_err-regions c = rw c.from_residual.ensures
    (field_no c.args.body.now c.has_form-two.ensures c.head_length-size.ensures.value c.head_from-head.ensures c.field_in_range.ensures
    (rw c.from-count.ensures at c.if-not-fits.false) c.args.profile (rw c.from-count.ensures at c.in_err-regions.ensures))

pub returns : goal.returns
returns c = field-yes c.args.body.now c.has_form-two.ensures c.head_length-size.ensures.value c.head_from-head.ensures c.field_in_range.ensures
    (rw c.from-count.ensures at c.if-not-fits.false) c.args.profile (rw c.from-count.ensures at c.in_ok-regions.ensures)

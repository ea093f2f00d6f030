-- The tests stand in the order of the definition, so each return is its answer.
-- Assumes nothing.
use mathlib.Core.Path.{sym, ◌∙◌}
use Rattle.std.proofs.lemmas.Result.{err_from_is_err_and}
use Rattle.profile.proofs.OneRecord.{no_header, kind_unknown, length_wrong, body_cut, body-found}
use Rattle.profile.proofs.records.found_at.Goals as goal

pub returns-then-rest-lt4 : goal.returns-then-rest-lt4
returns-then-rest-lt4 c = search no_header

pub returns-in_err-kind : goal.returns-in_err-kind
returns-in_err-kind c = let p = err_from_is_err_and c.from_residual.result c.from_residual.ensures.1 in
    rw (p.1, p.2)
    (kind_unknown _ _ c.saturating_sub-rest.ensures c.if-rest-lt4.false (c.from-size.ensures ∙ c.number_at.ensures) c.number_at-2.ensures c.in_err-kind.ensures)

pub returns-then-not-allows : goal.returns-then-not-allows
returns-then-not-allows c = length_wrong _ _ c.saturating_sub-rest.ensures c.if-rest-lt4.false (c.from-size.ensures ∙ c.number_at.ensures) c.number_at-2.ensures c.in_ok-kind.ensures
    (sym c.if-not-allows.ensures)

pub returns-then-rest-size : goal.returns-then-rest-size
returns-then-rest-size c = body_cut _ _ c.saturating_sub-rest.ensures c.if-rest-lt4.false (c.from-size.ensures ∙ c.number_at.ensures) c.number_at-2.ensures c.in_ok-kind.ensures
    (sym c.if-not-allows.ensures) c.if-rest-size.true

pub returns : goal.returns
returns c = body-found _ _ c.saturating_sub-rest.ensures c.if-rest-lt4.false (c.from-size.ensures ∙ c.number_at.ensures) c.number_at-2.ensures c.in_ok-kind.ensures
    (sym c.if-not-allows.ensures) c.if-rest-size.false

-- The second pattern once it has begun, else the first.
-- Assumes nothing.
use Prim.Native.Nat.{◌+◌}
use mathlib.Core.Path.{◌∙◌, ap, sym}
use Rattle.level.specs.Ready.{second_at, first_at, over, unmasked_at}
use Rattle.level.proofs.Edges.{begun_past}
use Rattle.level.proofs.ready.Ready.unmasked.Goals as goal

pub at-requires : goal.at-requires
at-requires c = begun_past c.args.self.second c.args.p (sym c.begun.ensures ∙ c.in-Some.is)

pub returns-in-Some : goal.returns-in-Some
unfolding unmasked_at
returns-in-Some c = let a = c.args in
    let f = a.self.first in
    let shown = ap (λ o. over o (λ s. second_at s a.p) (first_at f (f.origin + a.p))) (sym c.begun.ensures ∙ c.in-Some.is) in
    let e = c.at.ensures in record { value = e.value ∙ sym shown; upper_bound = e.upper_bound }

pub returns-in-None : goal.returns-in-None
unfolding unmasked_at
returns-in-None c = let a = c.args in
    let f = a.self.first in
    let shown = ap (λ o. over o (λ s. second_at s a.p) (first_at f (f.origin + a.p))) (sym c.begun.ensures ∙ c.in-None.is) in
    let e = c.at-in-None.ensures in record { value = e.value ∙ ap (λ q. first_at f q) c.region_pixel.ensures ∙ sym shown; upper_bound = e.upper_bound }

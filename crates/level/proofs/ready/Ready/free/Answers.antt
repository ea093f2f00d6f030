-- The second pattern once it has begun, else the first up to where the second begins.
-- Assumes nothing.
use native.Mathlib.Omega.{arith}
use Prim.Native.Nat.{◌+◌, ◌-◌, ◌<◌}
use mathlib.Core.Path.{◌∙◌, ap, sym}
use Rattle.level.specs.Next.{next}
use Rattle.level.specs.Ready.{starts_at, second_at, first_at, first_edge, over, unmasked_at}
use Rattle.level.proofs.Nexts.{next_low, next_less}
use Rattle.level.proofs.Edges.{begun_past, begun_next, first_next}
use Rattle.level.proofs.ready.Ready.free.Goals as goal

pub at-requires : goal.at-requires
at-requires c = begun_past c.args.self.second c.args.p (sym c.begun.ensures ∙ c.in-Some.is)

pub next_after-requires : goal.next_after-requires
next_after-requires c = (begun_past c.args.self.second c.args.p (sym c.begun.ensures ∙ c.in-Some.is), c.requires)

pub returns-in-Some : goal.returns-in-Some
unfolding unmasked_at
returns-in-Some c = let a = c.args in
    let f = a.self.first in
    let begun = sym c.begun.ensures ∙ c.in-Some.is in
    let shown = ap (λ o. over o (λ s. second_at s a.p) (first_at f (f.origin + a.p))) begun in
    let e = c.at.ensures in
    record { word_value = e.value ∙ sym shown; word_bound = e.upper_bound; stop_value = c.next_after.ensures ∙ begun_next a.self a.p a.end c.requires begun }

pub overflow_sub-e : goal.overflow_sub-e
overflow_sub-e c = omega (arith, c.start_after-e.ensures, next_low (λ q. starts_at c.args.self.second q) c.args.p c.args.end c.requires)

pub both-v-requires : goal.both-v-requires
both-v-requires c = omega (arith, c.start_after-e.ensures, next_low (λ q. starts_at c.args.self.second q) c.args.p c.args.end c.requires)

pub overflow_add-result : goal.overflow_add-result
overflow_add-result c =
    let s = c.args.self.second in
    let later : (c.args.p < c.start_after-e.result) = omega (arith, c.start_after-e.ensures, next_low (λ q. starts_at c.args.self.second q) c.args.p c.args.end c.requires) in
    let most = next_less (λ q. starts_at s q) c.args.p c.args.end c.requires in
    let less = next_less (λ j. first_edge c.args.self.first (c.region_pixel.result + j)) 0 (c.start_after-e.result - c.args.p) (omega (arith, later)) in
    omega (arith, later, c.start_after-e.ensures, c.both-v.ensures.far_value)

pub returns-in-None : goal.returns-in-None
unfolding unmasked_at
returns-in-None c =
    let a = c.args in
    let f = a.self.first in
    let none = sym c.begun.ensures ∙ c.in-None.is in
    let shown = ap (λ o. over o (λ s. second_at s a.p) (first_at f (f.origin + a.p))) none in
    let e = c.both-v.ensures in
    let q = c.region_pixel.ensures in record {
      word_value = e.levels_value ∙ ap (λ q. first_at f q) q ∙ sym shown;
      word_bound = e.levels_bound;
      stop_value = first_next a.self a.p a.end c.requires none c.start_after-e.ensures
          (e.far_value ∙ ap (λ q. next (λ j. first_edge f (q + j)) 0 (c.start_after-e.result - a.p)) q);
    }

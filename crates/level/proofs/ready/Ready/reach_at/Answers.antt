-- The word of its two halves, and the stop by the parts one after the other; while a mask holds, V1 to V6 stay as they were where it froze them.
-- Assumes nothing.
use mathlib.Core.Path.{◌∙◌, ap, sym}
use Rattle.level.specs.Next.{next}
use Rattle.level.specs.Eight.{eight_edge}
use Rattle.level.specs.Ready.{still_edge, unmasked_at, unmasked_edge}
use Rattle.level.specs.Edges.{mask_edge}
use Rattle.level.proofs.Nexts.{next_low}
use Rattle.level.proofs.Edges.{word_joined, shows_free, still_is, held_first, held_second, free_next}
use Rattle.level.proofs.ready.Ready.reach_at.Goals as goal
use Rattle.level.proofs.ready.Ready.reach_at.Goals.{then-holds-via-then-holds, then-holds-via-else-holds+then-holds-2}

pub mask_next-requires : goal.mask_next-requires
mask_next-requires c = let a = c.args in
    rw c.next_after.ensures (next_low (λ q. eight_edge a.self.others.edges q) a.p a.end c.requires)

pub mask_next-e-requires : goal.mask_next-e-requires
mask_next-e-requires c = let a = c.args in
    rw (c.mask_next.ensures, c.next_after.ensures)
    (next_low (λ q. mask_edge a.self.mask1 q) a.p (next (λ q. eight_edge a.self.others.edges q) a.p a.end)
    (next_low (λ q. eight_edge a.self.others.edges q) a.p a.end c.requires))

pub returns-then-holds : goal.returns-then-holds
returns-then-holds c = let a = c.args in
    let still = still_is a.self a.p a.end c.requires c.next_after.ensures c.mask_next.ensures c.mask_next-e.ensures in
    record {
      word_value = word_joined a.self a.p (c.unmasked.ensures.value ∙ ap (unmasked_at a.self) c.shown.ensures) c.at-eight.ensures.value c.join.ensures;
      stop_value = still
          ∙ elim c.then-holds.branch [
            | then-holds-via-then-holds w ↦ held_first a.self a.p a.end c.requires (sym c.holds.ensures ∙ w.if-holds.true)
            | then-holds-via-else-holds+then-holds-2 w ↦ held_second a.self a.p a.end c.requires (sym w.holds-else-holds.ensures ∙ w.if-holds-2.true)
          ];
    }

pub free-v-requires : goal.free-v-requires
free-v-requires c = let a = c.args in
    rw (still_is a.self a.p a.end c.requires c.next_after.ensures c.mask_next.ensures c.mask_next-e.ensures)
    (next_low (λ q. still_edge a.self q) a.p a.end c.requires)

pub returns : goal.returns
returns c = let a = c.args in
    let still = still_is a.self a.p a.end c.requires c.next_after.ensures c.mask_next.ensures c.mask_next-e.ensures in
    let first = sym c.holds.ensures ∙ c.if-holds.false in
    let second = sym c.holds-else-holds.ensures ∙ c.if-holds-2.false in
    let v = c.free-v.ensures in
    record {
      word_value = word_joined a.self a.p (shows_free a.self a.p first second v.word_value) c.at-eight.ensures.value c.join-2.ensures;
      stop_value = v.stop_value ∙ ap (λ b. next (λ q. unmasked_edge a.self q) a.p b) still ∙ free_next a.self a.p a.end c.requires first second;
    }

-- Each record after the one before it.
-- Assumes nothing.
use mathlib.Core.Path.{refl, sym, ap, ◌∙◌}
use Prim.Native.Nat.{◌+◌}
use native.Mathlib.Omega.{arith}
use lib.ListN.{length}
use lib.Seq.{sets}
use Rattle.std.proofs.lemmas.List.{get_or_read}
use Rattle.profile.proofs.Stores.{stored_none, stored_room, stored_more, stored_end, stored_all}
use Rattle.profile.proofs.writing.put_items.Goals as goal

pub loop-k-init : goal.loop-k-init
loop-k-init g c = stored_none refl

pub put-to-requires : goal.put-to-requires
put-to-requires g c =
    let read = sym c.index-items-k.is ∙ get_or_read c.args.items.now _ _ (omega arith) c.index-items-k.is g.T.Item.none in
    stored_room c.loop-k.invariant c.loop-k-test.true c.requires.room (ap (g.T.Item.written c.loop-k.k) read)

pub loop-k-preserved : goal.loop-k-preserved
loop-k-preserved g c =
    let l = c.loop-k in
    let read = sym c.index-items-k.is ∙ get_or_read c.args.items.now _ _ (omega arith) c.index-items-k.is g.T.Item.none in
    let e = ap (g.T.Item.written l.k) read in
    stored_more l.invariant c.loop-k-test.true (c.put-to.ensures.out_after ∙ ap (sets l.out l.to) e)
    (c.put-to.ensures.value ∙ ap (λ s. l.to + length s) e)

pub returns : goal.returns
returns g c = record { value = stored_end c.loop-k.invariant c.loop-k-test.false; out_after = stored_all c.loop-k.invariant c.loop-k-test.false }

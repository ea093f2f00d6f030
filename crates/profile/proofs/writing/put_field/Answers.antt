-- By its presence; the record is its head, then its regions.
-- Assumes nothing.
use Prim.Native.Nat.{◌+◌, ◌*◌, ◌≤◌}
use mathlib.Core.Path.{◌≡◌}
use mathlib.Core.Bool.{true}
use borrow.Author.Tests.{not-false}
use lib.ListN.{length}
use Rattle.profile.specs.Geometry.{region_count}
use Rattle.profile.specs.Script.{region_length}
use Rattle.profile.proofs.Stores.{head_bytes, length-field, sets_field}
use borrow.Author.Rules.{rules}
use native.Mathlib.Omega.{arith}
use Rattle.profile.proofs.writing.put_field.Goals as goal

pub put_regions-requires : goal.put_regions-requires
put_regions-requires c =
    let there : (c.args.f.present ≡ true) = not-false _ c.if-not-f.false in
    let room : (c.args.at + (4 + (head_bytes c.args.f + region_length * region_count c.args.f))
    ≤ length c.args.out.now) = let h = rw there at c.requires in omega (arith, length-field c.args.f) in
    let r = room in
    search rules

pub returns : goal.returns
returns c =
    let there : (c.args.f.present ≡ true) = not-false _ c.if-not-f.false in
    let p = there in
    let a = c.args in record {
      value = rw p (omega (arith, length-field a.f, c.put_head-from.ensures.value, c.region_count-n.ensures.value));
      out_after = rw p
          (sets_field a.f a.out.now _ _ _ _ _ c.region_count-n.ensures.value c.put_head-from.ensures.value c.put_head-from.ensures.out_after
          c.put_regions.ensures);
    }

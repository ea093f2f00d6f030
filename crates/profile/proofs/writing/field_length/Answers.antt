-- The record's length, where the field is present.
-- Assumes nothing.
use mathlib.Core.Path.{◌≡◌, sym, ap, ◌∙◌}
use mathlib.Core.Bool.{cond}
use Prim.Native.Nat.{ℕ, ◌+◌, ◌*◌}
use lib.ListN.{length}
use Rattle.profile.specs.Script.{head_length, region_length}
use Rattle.profile.specs.Writing.{field_record}
use Rattle.profile.proofs.Stores.{head_bytes, length_chosen, length-field}
use native.Mathlib.Omega.{arith}
use Rattle.profile.proofs.writing.field_length.Goals as goal

pub returns : goal.returns
returns c = let f = c.args.f in
    let n = c.region_count.result in
    let head : c.head_length-head.result ≡ head_bytes f = c.head_length-head.ensures.value ∙ ap head_length c.has_second_line.ensures in
    let e : 4 + c.head_length-head.result + region_length * n ≡ length (field_record f) = omega (arith, length-field f) in
    record { value = c.size_of.ensures.value ∙ ap (λ (k : ℕ). cond f.present k 0) e ∙ sym (length_chosen f.present (field_record f)); upper_bound = omega (arith, c.head_length-head.ensures.lower_bound) }

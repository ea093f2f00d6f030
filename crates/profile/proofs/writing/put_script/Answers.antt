-- Each part stands at the place after the one before it, so that together they are the script from the first byte on.
-- Assumes nothing.
use mathlib.Core.Path.{refl, ◌∙◌}
use lib.ListN.{length}
use Rattle.profile.specs.Lists.{chunks}
use Rattle.profile.specs.Script.{kinds}
use Rattle.profile.specs.Writing.{register_chunk, write_script}
use Rattle.profile.specs.declared.Profile.{Profile}
use Rattle.profile.proofs.Laws.{length-chunks}
use Rattle.profile.proofs.Sizes.{length_script}
use Rattle.profile.proofs.Stores.{StoredTo, stored_none, stored_room, stored_more, stored_all, script_part, all-parts, sets_front}
use Prim.Native.Nat.{ℕ, ◌+◌, ◌≤◌}
use mathlib.Core.List.{List}
use mathlib.Core.Path.{◌≡◌}
use lib.Seq.{sets}
use native.Mathlib.Omega.{arith}
use Rattle.profile.proofs.writing.put_script.Goals as goal

-- of a profile's parts the first k are stored, up to a place
abbrev Parts : Profile → List ℕ → ℕ → List ℕ → ℕ → Type 0
Parts p o k l to = StoredTo (script_part p) kinds o 0 k l to

room : (p : Profile) (o : List ℕ) → length (write_script p) ≤ length o → 0 + length (chunks kinds (script_part p)) ≤ length o
room p o h = rw all-parts (omega (arith, h))

first_part : (p : Profile) (o : List ℕ) {l : List ℕ} → l ≡ sets o 0 (chunks 120 (register_chunk p.tables.registers)) → Parts p o 1 l 960
first_part p o e =
    stored_more (stored_none refl) (omega arith) e (omega (arith, length-chunks 8 120 (register_chunk p.tables.registers) (λ i. refl)))

pub put_registers-requires : goal.put_registers-requires
put_registers-requires c = omega (arith, length_script c.args.profile)

pub put_items-a-requires : goal.put_items-a-requires
put_items-a-requires c =
    (omega arith, (omega arith, stored_room (first_part c.args.profile _ c.put_registers.ensures) (omega arith) (room c.args.profile _ c.requires) refl))

pub put_field-b-requires : goal.put_field-b-requires
put_field-b-requires c =
    let p1 = first_part c.args.profile _ c.put_registers.ensures in
    let p2 = stored_more p1 (omega arith) c.put_items-a.ensures.out_after c.put_items-a.ensures.value in
    stored_room p2 (omega arith) (room c.args.profile _ c.requires) refl

pub put_items-c-requires : goal.put_items-c-requires
put_items-c-requires c =
    let p1 = first_part c.args.profile _ c.put_registers.ensures in
    let p2 = stored_more p1 (omega arith) c.put_items-a.ensures.out_after c.put_items-a.ensures.value in
    let p3 = stored_more p2 (omega arith) c.put_field-b.ensures.out_after c.put_field-b.ensures.value in
    (omega arith, (omega arith, stored_room p3 (omega arith) (room c.args.profile _ c.requires) refl))

pub put_subck-d-requires : goal.put_subck-d-requires
put_subck-d-requires c =
    let p1 = first_part c.args.profile _ c.put_registers.ensures in
    let p2 = stored_more p1 (omega arith) c.put_items-a.ensures.out_after c.put_items-a.ensures.value in
    let p3 = stored_more p2 (omega arith) c.put_field-b.ensures.out_after c.put_field-b.ensures.value in
    let p4 = stored_more p3 (omega arith) c.put_items-c.ensures.out_after c.put_items-c.ensures.value in
    stored_room p4 (omega arith) (room c.args.profile _ c.requires) refl

pub put_items-requires : goal.put_items-requires
put_items-requires c =
    let p1 = first_part c.args.profile _ c.put_registers.ensures in
    let p2 = stored_more p1 (omega arith) c.put_items-a.ensures.out_after c.put_items-a.ensures.value in
    let p3 = stored_more p2 (omega arith) c.put_field-b.ensures.out_after c.put_field-b.ensures.value in
    let p4 = stored_more p3 (omega arith) c.put_items-c.ensures.out_after c.put_items-c.ensures.value in
    let p5 = stored_more p4 (omega arith) c.put_subck-d.ensures.out_after c.put_subck-d.ensures.value in
    (omega arith, (omega arith, stored_room p5 (omega arith) (room c.args.profile _ c.requires) refl))

pub returns : goal.returns
returns c =
    let p1 = first_part c.args.profile _ c.put_registers.ensures in
    let p2 = stored_more p1 (omega arith) c.put_items-a.ensures.out_after c.put_items-a.ensures.value in
    let p3 = stored_more p2 (omega arith) c.put_field-b.ensures.out_after c.put_field-b.ensures.value in
    let p4 = stored_more p3 (omega arith) c.put_items-c.ensures.out_after c.put_items-c.ensures.value in
    let p5 = stored_more p4 (omega arith) c.put_subck-d.ensures.out_after c.put_subck-d.ensures.value in
    let p6 = stored_more p5 (omega arith) c.put_items.ensures.out_after c.put_items.ensures.value in
    stored_all p6 (omega arith) ∙ rw all-parts (sets_front (write_script c.args.profile) c.args.out.now c.requires)

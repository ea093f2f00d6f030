-- A record of each kind, written and read again: it is taken, and the profile gets the item back.
-- Two or three bytes give their number again, so the record's tests are the item's own ranges.
-- Assumes nothing.
use mathlib.Core.Path.{◌≡◌, refl, sym, ap, ◌∙◌}
use mathlib.Core.Bool.{Bool, true}
use mathlib.Core.List.{List, ◌∷◌, ◌++◌}
use Prim.Native.Nat.{ℕ, ◌+◌, ◌*◌, ◌/◌, ◌%◌, ◌<◌, ◌≤◌}
use native.Mathlib.Omega.{arith}
use borrow.Author.Tests.{le-ltb, le-leb, leb-true}
use lib.Dec.{leb}
use lib.ListN.{length, set, length-append}
use lib.Seq.{take-append_seam}
use Rattle.profile.specs.Lists.{all}
use Rattle.profile.specs.Bytes.{record_of}
use Rattle.profile.specs.Values.{set_registers, set_sequences, set_gates, set_subck, set_shutters, set_tables}
use Rattle.profile.specs.Layout.{half_part, half_limit}
use Rattle.profile.specs.Ranges.{sequence_range, gate_range, subck_range, shutter_range}
use Rattle.profile.specs.Script.{
  register_fits,
  sequence_from,
  sequence_fits,
  gate_from,
  gate_fits,
  subck_from,
  subck_fits,
  shutter_from,
  shutter_fits,
  known,
  allowed,
  fits,
  with_record,
  next,
  step,
}
use Rattle.profile.specs.Writing.{
  register_body,
  register_record,
  sequence_body,
  sequence_record,
  gate_body,
  gate_record,
  subck_body,
  subck_record,
  shutter_body,
  shutter_record,
}
use Rattle.profile.specs.declared.Sequence.{Sequence}
use Rattle.profile.specs.declared.Gate.{Gate}
use Rattle.profile.specs.declared.Subck.{Subck}
use Rattle.profile.specs.declared.Shutter.{Shutter}
use Rattle.profile.specs.declared.Profile.{Profile}
use Rattle.profile.proofs.Laws.{all-passed, passed}
use Rattle.profile.proofs.Halves.{part_most}
use Rattle.profile.proofs.Takes.{Takes, takes_record}

-- ---- any kind

pub join_two : (w : ℕ) → w % 256 + 256 * (w / 256) ≡ w
join_two w = omega arith

join_three : (v : ℕ) → v < 16777216 → v % 256 + 256 * (v / 256 % 256) + 65536 * (v / 65536 % 256) ≡ v
join_three v h = omega arith

-- a record of a known kind, of a length that it allows, whose values fit, is taken, whatever follows it
pub takes_written : (kind : ℕ) (b : List ℕ) {p q : Profile} → known kind ≡ true → allowed kind (length b) ≡ true → fits kind b ≡ true
    → with_record kind b p ≡ q → Takes (record_of kind b) p q
unfolding step
takes_written kind b {p} {q} k a f w = takes_record (length b) (omega arith) front
  where
    front : (rest : List ℕ) → step (record_of kind b ++ rest) p ≡ next (length b) q
    front rest =
        let s = record_of kind b ++ rest in
        rw (
          le-ltb (length s) 4 (omega arith),
          join_two kind,
          k,
          join_two (length b),
          a,
          le-ltb (length s) (4 + length b) (omega (arith, length-append b rest)),
          take-append_seam b rest,
          f,
          w,
        )

-- ---- kind 1

half-below : (i h : ℕ) → leb h (half_limit i) ≡ true → h < 4096
half-below i h e = omega (arith, leb-true h (half_limit i) e, part_most (half_part i))

pub takes_register : (a low high : ℕ) (p : Profile) → a < 120 → leb low (half_limit (2 * a)) ≡ true → leb high (half_limit (2 * a + 1)) ≡ true
    → Takes (register_record a low high) p
    (set_tables (set_registers (set (set p.tables.registers (2 * a) low) (2 * a + 1) high) p.tables) p)
unfolding allowed fits register_fits with_record
takes_register a low high p h hl hh =
    let bl : low < 4096 = half-below (2 * a) low hl in
    let bh : high < 4096 = half-below (2 * a + 1) high hh in
    let v = low + 4096 * high in
    let j = join_three v (omega arith) in
    let lo : v % 4096 ≡ low = omega arith in
    let hi : v / 4096 ≡ high = omega arith in
    takes_written 1 (register_body a low high) refl refl
    (rw (j, lo, hi) (all-passed _ (le-leb a 119 (omega arith), (hl, (hh, tt)))))
    (rw (j, lo, hi))

-- ---- kinds 2, 4 and 6: an item with a number

-- the tests of a body whose number and item are k and s
item_fits : {A : Type 0} (range : A → List Bool) (top : ℕ) {n k : ℕ} {x s : A} → n ≡ k → x ≡ s → k ≤ top → all (range s) ≡ true
    → all (leb n top ∷ range x) ≡ true
item_fits range top {k = k} {s = s} en es h f = rw (en, es) (all-passed (leb k top ∷ range s) (le-leb k top h, passed (range s) f))

sequence_back : (k : ℕ) (s : Sequence) → s.present ≡ true → sequence_from (sequence_body k s) ≡ s
sequence_back k s e =
    simp join_two
    (λ i.
    record {
      present = sym e i;
      pattern = s.pattern;
      length = s.length;
      start = s.start;
      odd = s.odd;
      even = s.even;
      mask = s.mask;
    })

pub takes_sequence : (k : ℕ) (s : Sequence) (p : Profile) → k < 10 → s.present ≡ true → all (sequence_range s) ≡ true
    → Takes (sequence_record k s) p (set_tables (set_sequences (set p.tables.sequences k s) p.tables) p)
unfolding allowed fits sequence_fits with_record
takes_sequence k s p h e f =
    let b = sequence_back k s e in
    takes_written 2 (sequence_body k s) refl refl (item_fits sequence_range 9 (join_two k) b (omega arith) f) (rw (join_two k, b))

gate_back : (k : ℕ) (g : Gate) → g.present ≡ true → gate_from (gate_body k g) ≡ g
gate_back k g e =
    simp join_two (λ i. record { present = sym e i; on = g.on; level = g.level; toggle1 = g.toggle1; toggle2 = g.toggle2 })

pub takes_gate : (k : ℕ) (g : Gate) (p : Profile) → k < 5 → g.present ≡ true → all (gate_range g) ≡ true
    → Takes (gate_record k g) p (set_tables (set_gates (set p.tables.gates k g) p.tables) p)
unfolding allowed fits gate_fits with_record
takes_gate k g p h e f =
    let b = gate_back k g e in
    takes_written 4 (gate_body k g) refl refl (item_fits gate_range 4 (join_two k) b (omega arith) f) (rw (join_two k, b))

shutter_back : (k : ℕ) (s : Shutter) → s.present ≡ true → shutter_from (shutter_body k s) ≡ s
shutter_back k s e =
    simp join_two
    (λ i.
    record {
      present = sym e i;
      active = s.active;
      on_line = s.on_line;
      on_pixel = s.on_pixel;
      off_line = s.off_line;
      off_pixel = s.off_pixel;
    })

pub takes_shutter : (k : ℕ) (s : Shutter) (p : Profile) → k < 2 → s.present ≡ true → all (shutter_range s) ≡ true
    → Takes (shutter_record k s) p (set_tables (set_shutters (set p.tables.shutters k s) p.tables) p)
unfolding allowed fits shutter_fits with_record
takes_shutter k s p h e f =
    let b = shutter_back k s e in
    takes_written 6 (shutter_body k s) refl refl (item_fits shutter_range 1 (join_two k) b (omega arith) f) (rw (join_two k, b))

-- ---- kind 5

subck_back : (s : Subck) → s.present ≡ true → subck_from (subck_body s) ≡ s
subck_back s e =
    simp join_two
    (λ i.
    record {
      present = sym e i;
      level = s.level;
      toggle1 = s.toggle1;
      toggle2 = s.toggle2;
      suppressed = s.suppressed;
      count = s.count;
    })

pub takes_subck : (s : Subck) (p : Profile) → s.present ≡ true → all (subck_range s) ≡ true
    → Takes (subck_record s) p (set_tables (set_subck s p.tables) p)
unfolding allowed fits subck_fits with_record
takes_subck s p e f =
    let b = subck_back s e in
    takes_written 5 (subck_body s) refl refl (ap (λ (x : Subck). all (subck_range x)) b ∙ f) (rw b)

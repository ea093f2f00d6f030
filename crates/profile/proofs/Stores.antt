-- Runs of stores: a run right after a run is one run, a run from the front is `over`; what a loop that stores chunk after chunk has
-- stored after k turns; and how many bytes the items of a list take.
-- Assumes nothing.
use mathlib.Core.Path.{◌≡◌, refl, sym, ap, ◌∙◌}
use mathlib.Core.Bool.{Bool, true, false, cond}
use mathlib.Core.List.{List, [], ◌∷◌, ◌++◌}
use Prim.Native.Nat.{ℕ, zero, suc, ◌+◌, ◌*◌, ◌/◌, ◌%◌, ◌≤◌, ◌<◌, zero-le}
use native.Mathlib.Nat.{add-zero, zero-add, mul-zero, mul-suc}
use native.Mathlib.Numerals.{add-one}
use native.Mathlib.Omega.{arith}
use lib.ListN.{length, get_or, take, set, length-append}
use borrow.Rule.Slice.PartMut.{put_mid}
use Rattle.std.proofs.Common.{append_assoc}
use Rattle.std.proofs.lemmas.List.{drop-drop}
use Rattle.std.proofs.lemmas.List.Sums.{count_by_more_yes, count_by_more_no}
use Rattle.std.specs.List.{count_by}
use lib.Seq.{sets, sets-eq, length-sets, take-suc, take_all}
use Rattle.profile.specs.Lists.{chunks, over}
use Rattle.profile.specs.Bytes.{two_bytes}
use Rattle.profile.specs.Geometry.{region_count, has_second_line}
use Rattle.profile.specs.Script.{kinds, head_length, region_length}
use Rattle.profile.specs.Writing.{
  register_chunk,
  sequence_chunk,
  region_bytes,
  field_head,
  field_body,
  field_record,
  field_chunk,
  gate_chunk,
  subck_chunk,
  shutter_chunk,
  write_script,
}
use Rattle.profile.specs.declared.Field.{Field}
use Rattle.profile.specs.declared.Profile.{Profile}
use Rattle.profile.proofs.Laws.{by_cases, chunks-none, chunks_more, chunk_room, length-chunks}

-- a run of stores right after a run of stores
pub sets_more : {A : Type 0} (l vs ws : List A) (i k : ℕ) → k ≡ i + length vs → sets (sets l i vs) k ws ≡ sets l i (vs ++ ws)
sets_more l [] ws i k e = rw (e, add-zero)
sets_more l (a ∷ vs) ws i k e = sets_more (set l i a) vs ws (suc i) k (omega arith)

-- a run of stores from 0
pub sets_front : {A : Type 0} (vs l : List A) → length vs ≤ length l → sets l 0 vs ≡ over vs l
sets_front vs l h = sets-eq vs l 0 (omega arith) ∙ rw zero-add

-- a part of a slice replaced by as many bytes is a run of stores
pub part_stored : {A : Type 0} (l vs ys : List A) (at n : ℕ) → n ≡ length vs → ys ≡ vs → at + length vs ≤ length l → put_mid at n l ys ≡ sets l at vs
part_stored l vs ys at n e f h = rw (e, f, drop-drop, sets-eq vs l at h) (simp append_assoc)

-- what is written only where b holds
pub length_chosen : {A : Type 0} (b : Bool) (s : List A) → length (cond b s []) ≡ cond b (length s) 0
length_chosen true s = refl
length_chosen false s = refl

length-chunks_more : (n : ℕ) (f : ℕ → List ℕ) → length (chunks (n + 1) f) ≡ length (chunks n f) + length (f n)
length-chunks_more n f = ap length (chunks_more n f) ∙ rw length-append

-- ---- a loop that stores chunk after chunk

-- of n chunks the first k are stored in l from at on, which leaves o; to is the place after them
pub record StoredTo (f : ℕ → List ℕ) (n : ℕ) (l : List ℕ) (at k : ℕ) (o : List ℕ) (to : ℕ) : Type 0 where
  pub count : k ≤ n
  pub place : to ≡ at + length (chunks k f)
  pub stored : o ≡ sets l at (chunks k f)
  pub kept : length o ≡ length l

pub stored_none : {f : ℕ → List ℕ} {n : ℕ} {l : List ℕ} {at to : ℕ} → to ≡ at → StoredTo f n l at 0 l to
stored_none {at = at} e = record { count = zero-le; place = rw chunks-none (e ∙ sym (add-zero at)); stored = rw chunks-none; kept = refl }

module _ {f : ℕ → List ℕ} {n : ℕ} {l : List ℕ} {at k : ℕ} {o : List ℕ} {to : ℕ} (w : StoredTo f n l at k o to) where
  -- room for the next
  pub stored_room : {s : List ℕ} → k < n → at + length (chunks n f) ≤ length l → s ≡ f k → to + length s ≤ length o
  stored_room h r e = rw e (omega (arith, w.place, w.kept, chunk_room k n f h))

  -- one more
  pub stored_more : {o' : List ℕ} {to' : ℕ} → k < n → o' ≡ sets o to (f k) → to' ≡ to + length (f k) → StoredTo f n l at (k + 1) o' to'
  stored_more h e p =
      record {
        count = omega arith;
        place = omega (arith, w.place, length-chunks_more k f);
        stored = e ∙ rw w.stored (sets_more l (chunks k f) (f k) at to w.place ∙ rw chunks_more);
        kept = ap length e ∙ length-sets o to (f k) ∙ w.kept;
      }

  pub stored_end : n ≤ k → to ≡ at + length (chunks n f)
  stored_end h = let e : k ≡ n = omega (arith, w.count) in rw e at w.place

  pub stored_all : n ≤ k → o ≡ sets l at (chunks n f)
  stored_all h = let e : k ≡ n = omega (arith, w.count) in rw e at w.stored

-- one more, where each has m bytes
pub stored_next : {f : ℕ → List ℕ} {n : ℕ} {l : List ℕ} {at k : ℕ} {o o' : List ℕ} {m : ℕ} → StoredTo f n l at k o (at + m * k) → k < n
    → o' ≡ sets o (at + m * k) (f k) → length (f k) ≡ m → StoredTo f n l at (k + 1) o' (at + m * (k + 1))
stored_next w h e p = stored_more w h e (rw (p, add-one, mul-suc) (omega arith))

pub ruleset storing = (stored_none, stored_room, stored_next, stored_more, stored_end, stored_all)

-- ---- chunks made of one number each

-- g of a list, by its numbers
each_number : (g : List ℕ → List ℕ) → g [] ≡ [] → ((a b : List ℕ) → g (a ++ b) ≡ g a ++ g b) → (ws : List ℕ) (k : ℕ) → k ≤ length ws
    → chunks k (λ i. g (get_or ws i 0 ∷ [])) ≡ g (take k ws)
unfolding chunks
each_number g z more ws zero h = sym z
each_number g z more ws (suc k) h = rw (each_number g z more ws k (omega arith), take-suc ws k 0, more)

two_append : (a b : List ℕ) → two_bytes (a ++ b) ≡ two_bytes a ++ two_bytes b
two_append [] b = refl
two_append (w ∷ a) b = ap (λ (r : List ℕ). w % 256 ∷ w / 256 ∷ r) (two_append a b)

pub all_bytes : (b : List ℕ) → chunks (length b) (λ i. get_or b i 0 ∷ []) ≡ b
all_bytes b = each_number (λ l. l) refl (λ a b. refl) b (length b) (omega arith) ∙ take_all (length b) b (omega arith)

pub all-numbers : (ws : List ℕ) → chunks (length ws) (λ i. two_bytes (get_or ws i 0 ∷ [])) ≡ two_bytes ws
all-numbers ws = each_number two_bytes refl two_append ws (length ws) (omega arith) ∙ rw (take_all (length ws) ws (omega arith))

pub length_two : (ws : List ℕ) → length (two_bytes ws) ≡ 2 * length ws
length_two [] = refl
length_two (w ∷ ws) = omega (arith, length_two ws)

-- the bytes of a number, low first
pub two_le : {bs : List ℕ} (n : ℕ) → n < 65536 → bs ≡ n % 256 ∷ n / 256 % 256 ∷ [] → bs ≡ two_bytes (n ∷ [])
two_le n h e = let high : n / 256 % 256 ≡ n / 256 = omega arith in e ∙ rw high

-- ---- the items of a list, of which those present are written

-- in m bytes each
module _ {A : Type 0} (m : ℕ) (present : A → Bool) (record_of : ℕ → A → List ℕ) (d : A) (xs : List A)
    (long : (k : ℕ) (x : A) → length (record_of k x) ≡ m) where
  abbrev written : ℕ → List ℕ
  written k = cond (present (get_or xs k d)) (record_of k (get_or xs k d)) []

  one_more : (k : ℕ) → k < length xs → length (chunks k written) ≡ m * count_by present (take k xs)
      → length (chunks (k + 1) written) ≡ m * count_by present (take (k + 1) xs)
  one_more k h e =
      let l = length-chunks_more k written in
      by_cases (present (get_or xs k d))
      (λ u. rw (l, u, long, e, count_by_more_yes present xs k d h u, add-one, mul-suc) (omega arith))
      (λ u. rw (l, u, e, count_by_more_no present xs k d h u) (omega arith))

  first_ones : (k : ℕ) → k ≤ length xs → length (chunks k written) ≡ m * count_by present (take k xs)
  first_ones zero h = rw (chunks-none, mul-zero)
  first_ones (suc k) h = rw add-one at (one_more k (omega arith) (first_ones k (omega arith)))

  pub length-present : (n : ℕ) → length xs ≡ n → length (chunks n written) ≡ m * count_by present xs
  length-present n h = first_ones n (omega arith) ∙ rw (take_all n xs (omega arith))

-- ---- the field

-- the bytes before its regions, and the form in which it is written
abbrev pub head_bytes : Field → ℕ
head_bytes f = head_length (has_second_line f)

pub length-head : (f : Field) → length (field_head f) ≡ head_bytes f
length-head f = by_cases (has_second_line f) (λ e. rw e) (λ e. rw e)

-- its body with n regions: its head, then the regions
pub length-body : (f : Field) (n : ℕ) → length (field_body f n) ≡ head_bytes f + region_length * n
length-body f n =
    let l = length-append (field_head f) (chunks n (region_bytes f)) in
    omega (arith, length-head f, length-chunks region_length n (region_bytes f) (λ i. refl))

pub length-field : (f : Field) → length (field_record f) ≡ 4 + (head_bytes f + region_length * region_count f)
length-field f = omega (arith, length-body f (region_count f))

-- its record's header and head
abbrev pub head_written : Field → ℕ → List ℕ
head_written f n = two_bytes ((head_bytes f + region_length * n) ∷ 3 ∷ []) ++ field_head f

-- in numbers, by its form
module _ (f : Field) (n head : ℕ) (e : head ≡ head_bytes f) where
  pub head_two : has_second_line f ≡ true
      → two_bytes ((head + region_length * n) ∷ 3 ∷ f.lines ∷ f.last ∷ f.gate ∷ f.gate2 ∷ f.second ∷ f.count ∷ []) ≡ head_written f n
  head_two h = rw (e, h)

  pub head_one : has_second_line f ≡ false
      → two_bytes ((head + region_length * n) ∷ 3 ∷ f.lines ∷ f.last ∷ f.gate ∷ f.second ∷ f.count ∷ []) ≡ head_written f n
  head_one h = rw (e, h)

-- its record: the head, then its regions
pub sets_field : (f : Field) (l a b : List ℕ) (at from n : ℕ) → n ≡ region_count f → from ≡ at + (4 + head_bytes f)
    → a ≡ sets l at (head_written f n)
    → b ≡ sets a from (chunks n (region_bytes f))
    → b ≡ sets l at (field_record f)
sets_field f l a b at from n e ef ea eb =
    rw (length-body f (region_count f), ← e)
    (eb ∙ rw ea (sets_more l (head_written f n) (chunks n (region_bytes f)) at from (omega (arith, length-head f))))

-- ---- the script

-- its parts, kind by kind
abbrev pub script_part : Profile → ℕ → List ℕ
script_part p zero = chunks 120 (register_chunk p.tables.registers)
script_part p (suc zero) = chunks 10 (sequence_chunk p.tables.sequences)
script_part p (suc (suc zero)) = field_chunk p.field
script_part p (suc (suc (suc zero))) = chunks 5 (gate_chunk p.tables.gates)
script_part p (suc (suc (suc (suc zero)))) = subck_chunk p.tables.subck
script_part p (suc (suc (suc (suc (suc k))))) = chunks 2 (shutter_chunk p.tables.shutters)

pub all-parts : (p : Profile) → chunks kinds (script_part p) ≡ write_script p
unfolding chunks write_script
all-parts p = refl

-- The chunks that a payload's lengths cut, one after the other: what is left of the bytes goes the way that all of them go.
-- Assumes nothing.
use Prim.Native.Nat.{ℕ, suc, ◌+◌, ◌*◌, ◌-◌, ◌≤◌, ◌<◌, min}
use native.Mathlib.Omega.{arith}
use mathlib.Core.Path.{◌≡◌, sym, ◌∙◌}
use mathlib.Core.List.{List}
use lib.Dec.{leb}
use lib.ListN.{length, take, drop, length-drop, drop_of_length-le}
use lib.Seq.{take_all, drop-drop}
use borrow.Author.Tests.{leb-true, leb-false}
use Rattle.profile.specs.Bytes.{number_at}
use Rattle.profile.specs.Upload.{take_chunk}
use Rattle.profile.specs.declared.upload.Upload.{Upload}
use Rattle.profile.proofs.Laws.{by_cases}
use Rattle.cases.specs.Chunked.{take_cut, upload_at}

-- past the end nothing is left
drop_most : (k m : ℕ) (b : List ℕ) → m ≡ min k (length b) → drop m b ≡ drop k b
drop_most k m b e =
    by_cases (leb k (length b))
    (λ q. let h = leb-true k (length b) q in let r : m ≡ k = omega arith in rw r)
    (λ q.
    let h = leb-false k (length b) q in
    drop_of_length-le b {i = m} (omega arith) ∙ sym (drop_of_length-le b {i = k} (omega arith)))

-- a part from a place on, as far as there are bytes
part_most : (from size end : ℕ) (b : List ℕ) → from ≤ length b → end ≡ min (from + size) (length b)
    → take (end - from) (drop from b) ≡ take size (drop from b)
part_most from size end b h e =
    by_cases (leb (from + size) (length b))
    (λ q. let l = leb-true (from + size) (length b) q in let r : end - from ≡ size = omega arith in rw r)
    (λ q.
    let l = leb-false (from + size) (length b) q in
    let d = length-drop from b in
    take_all (end - from) (drop from b) (omega arith) ∙ sym (take_all size (drop from b) (omega arith)))

pub record Cutting (b : List ℕ) (at n : ℕ) (u after : Upload) (from i : ℕ) : Type 0 where
  pub within : i ≤ n
  pub inside : from ≤ length b
  pub same : take_cut b (at + 2 + 2 * i) (n - i) (drop from b) after ≡ upload_at b at u

pub cut_none : (b : List ℕ) (at n : ℕ) (u : Upload) (from : ℕ) → n ≡ number_at b at → from ≡ min (at + 2 + 2 * n) (length b) → Cutting b at n u u from 0
unfolding upload_at
cut_none b at n u from en ef =
    let z : n - 0 ≡ n = omega arith in
    let y : at + 2 + 2 * 0 ≡ at + 2 = omega arith in
    record { within = omega arith; inside = omega arith; same = rw (z, y, drop_most (at + 2 + 2 * n) from b ef, en) }

module _ {b : List ℕ} {at n : ℕ} {u after : Upload} {from i : ℕ} (c : Cutting b at n u after from i) where
  pub cut_more : i < n → (size end : ℕ) → size ≡ number_at b (at + 2 + 2 * i) → end ≡ min (from + size) (length b)
      → Cutting b at n u (take_chunk after (take (end - from) (drop from b))) end (i + 1)
  unfolding take_cut
  cut_more l size end es ee =
      let k : n - i ≡ suc (n - (i + 1)) = omega arith in
      let y : at + 2 + 2 * (i + 1) ≡ at + 2 + 2 * i + 2 = omega arith in
      let d = drop_most (from + size) end b ee ∙ sym (drop-drop size from b) in
      record {
        within = omega arith;
        inside = omega (arith, c.inside);
        same = rw (y, d, part_most from size end b c.inside ee, es) (rw (k, take_cut) at c.same);
      }

  pub cut_all : n ≤ i → take_chunk after (take (length b - from) (drop from b)) ≡ upload_at b at u
  unfolding take_cut
  cut_all l =
      let k : n - i ≡ 0 = omega arith in
      rw (take_all (length b - from) (drop from b) (omega (arith, length-drop from b))) (rw (k, take_cut) at c.same)

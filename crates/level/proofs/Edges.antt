-- The word by its parts, and its next edge by theirs.
-- Assumes nothing.
use mathlib.Core.Path.{◌≡◌, refl, sym, ap, ◌∙◌}
use mathlib.Core.Bool.{Bool, true, false, cond, not, ◌&&◌, ◌||◌}
use mathlib.Core.List.{List}
use Prim.Native.Nat.{ℕ, ◌+◌, ◌-◌, ◌*◌, ◌≤◌, ◌<◌}
use native.Mathlib.Nat.{add_assoc}
use native.Mathlib.Omega.{arith}
use borrow.Author.Tests.{ltb-true, ltb-false, leb-true, leb-false, le-leb, lt-leb, eqb-true, eq-eqb}
use lib.Dec.{ltb, leb, eqb}
use lib.ListN.{get_or}
use Rattle.std.proofs.Common.{Option, None, Some}
use Rattle.profile.proofs.Laws.{by_cases, or_left, and_intro}
use Rattle.level.specs.Word.{frozen, shown_at}
use Rattle.level.specs.declared.others.Edges.{Edges}
use Rattle.level.specs.declared.second.Second.{Second}
use Rattle.level.specs.declared.ready.Ready.{Ready}
use Rattle.level.specs.Next.{next}
use Rattle.level.specs.Keys.{among}
use Rattle.level.specs.Eight.{edges_at, no_edges, eight_at, eight_edge}
use Rattle.level.specs.Ready.{first_edge, begun_at, starts_at, second_edge, over, unmasked_at, unmasked_edge, ready_word, still_edge, ready_edge}
use Rattle.level.specs.Edges.{mask_edge}
use Rattle.level.proofs.Nexts.{clash, or_none, or_parts, and_none, Is, next_is, is_what, is_next, is_two, next_two, next_ext, next_on, next_shift, stays, both}
use Rattle.level.proofs.Stays.{mask_stays, held_none, eight_stays}

-- ---- eight bits

pub eight_small : (t : List Edges) (p : ℕ) → eight_at t p < 256
unfolding eight_at
eight_small t p = omega (arith, at 0, at 1, at 2, at 3, at 4, at 5, at 6, at 7)
  where
    at : (k : ℕ) → edges_at (get_or t k no_edges) p < 2
    at k = omega arith

-- ---- the eight other outputs, held up to their first edge after pixel 0

module _ (t : List Edges) (s : ℕ) (e : s ≡ next (λ q. eight_edge t q) 0 65535) where
  y : Is (λ q. eight_edge t q) 0 65535 s
  y = is_what (omega arith) e

  pub eight_first : (p : ℕ) → p < s → eight_at t p ≡ eight_at t 0
  eight_first p h = stays (λ q. eight_edge t q) (eight_at t) (eight_stays t) 0 65535 (omega arith) p (omega arith) (rw (sym e) h)

  pub eight_early : (p end : ℕ) → p < s → p < end → end ≤ 65535 → next (λ q. eqb q s) p end ≡ next (λ q. eight_edge t q) p end
  eight_early p end h l most =
      let x = next_is (λ q. eqb q s) p end l in
      let n : ℕ = next (λ q. eqb q s) p end in
      let before : n ≤ s =
      by_cases (ltb s n) (λ g. absurd (clash (eq-eqb s s refl) (x.none s h (ltb-true s n g)))) (λ g. ltb-false s n g) in
      is_next
      (record {
        low = x.low;
        less = x.less;
        none = λ q a b. y.none q (omega arith) (omega arith);
        some = λ k.
            let here : n ≡ s = eqb-true n s (x.some k) in
            ap (λ q. eight_edge t q) here ∙ y.some (omega arith);
      })

-- ---- the second pattern, once begun, and the first up to there

begun_from : (o : Option Second) (p : ℕ) {s : Second} → begun_at o p ≡ Some s → (o ≡ Some s) × (s.length ≤ p)
begun_from None p e = absurd (cc e)
begun_from (Some t) p {s} e =
    by_cases (leb t.length p)
    (λ g. let same : Some t ≡ Some s = sym (ap (λ b. cond b (Some t) None) g) ∙ e in let alike : t ≡ s = cc same in (same, rw alike at (leb-true t.length p g)))
    (λ g. absurd (let none : None ≡ Some s = sym (ap (λ b. cond b (Some t) None) g) ∙ e in cc none))

pub begun_past : (o : Option Second) (p : ℕ) {s : Second} → begun_at o p ≡ Some s → s.length ≤ p
begun_past o p e = (begun_from o p e).1

begun_on : (o : Option Second) (p q : ℕ) {s : Second} → p ≤ q → begun_at o p ≡ Some s → begun_at o q ≡ Some s
begun_on o p q {s} h e =
    let from = begun_from o p e in
    ap (λ t. begun_at t q) from.0 ∙ ap (λ b. cond b (Some s) None) (le-leb s.length q (omega (arith, from.1)))

-- the edges of g up to where the second begins
over_next : (o : Option Second) (g : ℕ → Bool) (p end : ℕ) {b e : ℕ} → begun_at o p ≡ None → Is (λ q. starts_at o q) p end b → Is g p b e
    → Is (λ q. over (begun_at o q) (λ s. second_edge s q) (g q)) p end e
unfolding second_edge
over_next None g p end {b} {e} none u v =
    let same : b ≡ end = by_cases (ltb b end) (λ l. absurd (clash (u.some (ltb-true b end l)) refl)) (λ l. omega (arith, u.less, ltb-false b end l)) in
    rw same at v
over_next (Some s) g p end {b} {e} none u v =
    let late : p < s.length =
    by_cases (leb s.length p)
    (λ l. absurd (let some : Some s ≡ None = sym (ap (λ c. cond c (Some s) None) l) ∙ none in cc some))
    (λ l. leb-false s.length p l) in
    let first : (q : ℕ) → q < s.length → over (begun_at (Some s) q) (λ t. second_edge t q) (g q) ≡ g q =
    λ q l. ap (λ c. over (cond c (Some s) None) (λ t. second_edge t q) (g q)) (lt-leb s.length q l) in
    let before : b ≤ s.length =
    by_cases (ltb s.length b) (λ l. absurd (clash (eq-eqb s.length s.length refl) (u.none s.length late (ltb-true s.length b l)))) (λ l. ltb-false s.length b l) in
    record {
      low = v.low;
      less = omega (arith, u.less, v.less);
      none = λ q a l. first q (omega (arith, v.less)) ∙ v.none q a l;
      some = λ l.
          by_cases (ltb e b)
          (λ m. let in-time = ltb-true e b m in first e (omega arith) ∙ v.some in-time)
          (λ m.
          let here : e ≡ b = omega (arith, ltb-false e b m, v.less) in
          let start : eqb e s.length ≡ true = ap (λ q. eqb q s.length) here ∙ u.some (omega arith) in
          let at : e ≡ s.length = eqb-true e s.length start in
          ap (λ c. over (cond c (Some s) None) (λ t. second_edge t e) (g e)) (le-leb s.length e (omega arith))
          ∙ or_left (eqb e s.length) (among s.keys (e - s.length)) start);
    }

module _ (r : Ready) (p end : ℕ) (h : p < end) where
  pub begun_next : {s : Second} → begun_at r.second p ≡ Some s → next (λ q. second_edge s q) p end ≡ next (λ q. unmasked_edge r q) p end
  unfolding unmasked_edge
  begun_next {s} e =
      next_on h
      (λ q a b. sym (ap (λ o. over o (λ t. second_edge t q) (first_edge r.first (r.first.origin + q))) (begun_on r.second p q (omega arith) e)))

  -- the first pattern's edges up to where the second begins
  pub first_next : {b d : ℕ} → begun_at r.second p ≡ None → b ≡ next (λ q. starts_at r.second q) p end
      → d ≡ next (λ j. first_edge r.first (r.first.origin + p + j)) 0 (b - p) → p + d ≡ next (λ q. unmasked_edge r q) p end
  unfolding unmasked_edge
  first_next {b} {d} none eb ed =
      let x : Is (λ q. starts_at r.second q) p end b = is_what h eb in
      is_next (over_next r.second (λ q. first_edge r.first (r.first.origin + q)) p end none x (shifted x.low))
    where
      shifted : p < b → Is (λ q. first_edge r.first (r.first.origin + q)) p b (p + d)
      shifted l =
          let same : p + d ≡ next (λ q. first_edge r.first (r.first.origin + q)) p b =
          ap (λ n. p + n) (ed ∙ next_ext 0 (b - p) (λ j. ap (first_edge r.first) (add_assoc r.first.origin p j)))
          ∙ next_shift (λ q. first_edge r.first (r.first.origin + q)) p b l in
          rw same (next_is (λ q. first_edge r.first (r.first.origin + q)) p b l)

-- ---- the word

module _ (r : Ready) (p : ℕ) where
  abbrev shown : ℕ
  shown = shown_at r.mask1 r.mask2 p

  pub word_joined : {v e w : ℕ} → v ≡ unmasked_at r shown → e ≡ eight_at r.others.edges p → w ≡ v + e * 64 → w ≡ ready_word r p
  unfolding ready_word
  word_joined a b g = g ∙ (λ i. a i + b i * 64)

  -- what shows while no mask holds
  pub shows_free : {v : ℕ} → frozen r.mask1 p ≡ false → frozen r.mask2 p ≡ false → v ≡ unmasked_at r p → v ≡ unmasked_at r shown
  shows_free off free e = e ∙ ap (unmasked_at r) (sym (held_none r.mask1 p _ off ∙ held_none r.mask2 p p free))

module _ (r : Ready) (p end : ℕ) (h : p < end) where
  abbrev v_edge : ℕ → Bool
  v_edge q = not (frozen r.mask1 q) && (not (frozen r.mask2 q) && unmasked_edge r q)

  x : Is (λ q. still_edge r q) p end (next (λ q. still_edge r q) p end)
  x = next_is (λ q. still_edge r q) p end h

  -- gates, SUBCK, shutters and the two masks
  still_next : next (λ q. mask_edge r.mask2 q) p (next (λ q. mask_edge r.mask1 q) p (next (λ q. eight_edge r.others.edges q) p end))
      ≡ next (λ q. still_edge r q) p end
  still_next =
      ap (λ b. next (λ q. mask_edge r.mask2 q) p b) (next_two (λ q. eight_edge r.others.edges q) (λ q. mask_edge r.mask1 q) p end h)
      ∙ next_two (λ q. eight_edge r.others.edges q || mask_edge r.mask1 q) (λ q. mask_edge r.mask2 q) p end h

  -- up to there both masks hold or let go as at p
  first_mask : (q : ℕ) → p ≤ q → q < next (λ q. still_edge r q) p end → frozen r.mask1 q ≡ frozen r.mask1 p
  first_mask q a b =
      stays (λ q. still_edge r q) (frozen r.mask1)
      (λ k e.
      mask_stays r.mask1 k
      (or_parts (eight_edge r.others.edges (k + 1)) (mask_edge r.mask1 (k + 1))
      (or_parts (eight_edge r.others.edges (k + 1) || mask_edge r.mask1 (k + 1)) (mask_edge r.mask2 (k + 1)) e).0).1)
      p end h q a b

  second_mask : (q : ℕ) → p ≤ q → q < next (λ q. still_edge r q) p end → frozen r.mask2 q ≡ frozen r.mask2 p
  second_mask q a b =
      stays (λ q. still_edge r q) (frozen r.mask2)
      (λ k e.
      mask_stays r.mask2 k
      (or_parts (eight_edge r.others.edges (k + 1) || mask_edge r.mask1 (k + 1)) (mask_edge r.mask2 (k + 1)) e).1)
      p end h q a b

  -- where V1 to V6 have no edge of their own before
  quiet_next : ((q : ℕ) → p < q → q < next (λ q. still_edge r q) p end → v_edge q ≡ false)
      → next (λ q. still_edge r q) p end ≡ next (λ q. ready_edge r q) p end
  unfolding ready_edge
  quiet_next none =
      is_next
      (record {
        low = x.low;
        less = x.less;
        none = λ q a b. or_none (x.none q a b) (none q a b);
        some = λ l. or_left (still_edge r (next (λ q. still_edge r q) p end)) (v_edge (next (λ q. still_edge r q) p end)) (x.some l);
      })

  -- the same, from what the three calls give
  pub still_is : {eight one two : ℕ} → eight ≡ next (λ q. eight_edge r.others.edges q) p end → one ≡ next (λ q. mask_edge r.mask1 q) p eight
      → two ≡ next (λ q. mask_edge r.mask2 q) p one → two ≡ next (λ q. still_edge r q) p end
  still_is e a b = b ∙ ap (λ n. next (λ q. mask_edge r.mask2 q) p n) (a ∙ ap (λ n. next (λ q. mask_edge r.mask1 q) p n) e) ∙ still_next

  pub held_first : frozen r.mask1 p ≡ true → next (λ q. still_edge r q) p end ≡ next (λ q. ready_edge r q) p end
  held_first e =
      quiet_next
      (λ q a b. and_none (not (frozen r.mask2 q) && unmasked_edge r q) (ap not (first_mask q (omega arith) b ∙ e)))

  pub held_second : frozen r.mask2 p ≡ true → next (λ q. still_edge r q) p end ≡ next (λ q. ready_edge r q) p end
  held_second e =
      quiet_next
      (λ q a b. both (not (frozen r.mask1 q)) (and_none (unmasked_edge r q) (ap not (second_mask q (omega arith) b ∙ e))))

  pub free_next : frozen r.mask1 p ≡ false → frozen r.mask2 p ≡ false
      → next (λ q. unmasked_edge r q) p (next (λ q. still_edge r q) p end) ≡ next (λ q. ready_edge r q) p end
  unfolding ready_edge
  free_next e g =
      let b : ℕ = next (λ q. still_edge r q) p end in
      let y = next_is (λ q. unmasked_edge r q) p b x.low in
      let z : Is (λ q. v_edge q) p b (next (λ q. unmasked_edge r q) p b) =
      record {
        low = y.low;
        less = y.less;
        none = λ q a l. both (not (frozen r.mask1 q)) (both (not (frozen r.mask2 q)) (y.none q a l));
        some = λ l.
            let n : ℕ = next (λ q. unmasked_edge r q) p b in
            and_intro (ap not (first_mask n (omega (arith, y.low)) l ∙ e))
            (and_intro (ap not (second_mask n (omega (arith, y.low)) l ∙ g)) (y.some l));
      } in
      is_next (is_two x z)

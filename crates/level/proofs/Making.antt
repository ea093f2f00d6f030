-- Keys and counts give the levels of the rules: afresh, carried, multiplied, and of the second pattern; edges those of the other outputs.
-- Assumes nothing.
use mathlib.Core.Path.{◌≡◌, refl, sym, ap, ◌∙◌}
use mathlib.Core.Bool.{Bool, true, false, cond, not, ◌&&◌, ◌||◌}
use mathlib.Core.List.{List, map}
use Prim.Native.Nat.{ℕ, min, ◌+◌, ◌-◌, ◌*◌, ◌/◌, ◌%◌, ◌≤◌, ◌<◌}
use native.Mathlib.Nat.{le-div_iff_mul-le, mod-lt, mul-zero, div-one, div-add-mod', add-mul, mul_assoc, mul_comm}
use native.Mathlib.Omega.{arith}
use borrow.Author.Tests.{ltb-true, ltb-false, leb-true, leb-false, lt-ltb, le-ltb, le-leb, eqb-true, eqb-false}
use lib.Dec.{ltb, leb, eqb}
use lib.ListN.{get_or}
use Rattle.std.proofs.Common.{Option, None, Some}
use Rattle.profile.proofs.Laws.{cond-case, by_cases}
use Rattle.profile.specs.Patterns.{row_of, rows_of, not4095, used}
use Rattle.profile.specs.declared.Mode.TheVariants.{Plain}
use Rattle.profile.specs.declared.Pattern.{Pattern}
use Rattle.level.specs.Word.{bit, flipped, within, flips, start_level, run_flips, run_toggles, first_level, second_level, of_second, unmasked, held_at, shown_at, six, v_word, word_of}
use Rattle.level.specs.declared.Run.TheVariants.{Afresh, Carried, Multiplied}
use Rattle.level.specs.Keys.{key_of, among, passed, six_at}
use Rattle.level.specs.declared.Line.{Line}
use Rattle.level.specs.declared.Mask.{Mask}
use Rattle.level.specs.declared.first.First.{First}
use Rattle.level.specs.Ready.{begins_with, run_at, times_at, first_at, second_at, second_edge}
use Rattle.level.specs.Made.{first_word, second_word, others_word, keyed, Makes, Seconds}
use Rattle.level.specs.Edges.{first_edge_of, second_edge_of}
use Rattle.level.proofs.Parts.{Small, run_has_length}
use Rattle.level.proofs.RuleEdges.{bool_iff, run_rule, times_rule, used-among}

-- ---- one toggle: its key is below the count where it is used and passed

leb_iff : (a b c d : ℕ) → (a ≤ b → c ≤ d) → (c ≤ d → a ≤ b) → leb a b ≡ leb c d
leb_iff a b c d f g = bool_iff (leb a b) (leb c d) (λ e. le-leb c d (f (leb-true a b e))) (λ e. le-leb a b (g (leb-true c d e)))

ltb-leb : (x n : ℕ) → ltb x (n + 1) ≡ leb x n
ltb-leb x n =
    by_cases (leb x n)
    (λ e. lt-ltb x (n + 1) (omega (arith, leb-true x n e)) ∙ sym e)
    (λ e. le-ltb x (n + 1) (omega (arith, leb-false x n e)) ∙ sym e)

-- plain and sweep: u is t mod length
run_toggle : (length u x : ℕ) → u < length → ltb x (u + 1) ≡ used Plain length x && leb (x * 1) u
run_toggle length u x h =
    by_cases (ltb x length)
    (λ e. rw e (ltb-leb x u ∙ leb_iff x u (x * 1) u (λ g. omega arith) (λ g. omega arith)))
    (λ e. let y = ltb-false x length e in rw e (le-ltb x (u + 1) (omega arith)))

-- multiplier and second pattern: the used toggles up to m
key-toggle : (m x : ℕ) → m ≤ 65535 → ltb (key_of x) (m + 1) ≡ not (eqb x 4095) && leb x m
key-toggle m x h =
    by_cases (eqb x 4095)
    (λ e. rw e (le-ltb 65536 (m + 1) (omega arith)))
    (λ e. rw e (ltb-leb x m))

-- ---- one output

abbrev key_row : (ℕ → ℕ) → Pattern → ℕ → List ℕ
key_row key a k = map key (row_of a.toggles k)

counted : (key : ℕ → ℕ) (uses : ℕ → Bool) (n scale t : ℕ) (a : Pattern) (k : ℕ) → Small a.toggles
    → ((x : ℕ) → x < 65536 → ltb (key x) n ≡ uses x && leb (x * scale) t)
    → passed n (key_row key a k) ≡ flips uses scale (row_of a.toggles k) t
counted key uses n scale t a k small law =
    λ i. bit (one (3 * k) i) + bit (one (3 * k + 1) i) + bit (one (3 * k + 2) i)
  where
    one : (j : ℕ) → ltb (key (get_or a.toggles j 0)) n ≡ uses (get_or a.toggles j 0) && leb (get_or a.toggles j 0 * scale) t
    one j = law (get_or a.toggles j 0) (small j)

none_passed : (x : ℕ) (keys : List ℕ) → flipped x (passed 0 keys) ≡ x % 2
none_passed x keys = simp none (omega arith)
  where
    none : (y : ℕ) → ltb y 0 ≡ false
    none y = le-ltb y 0 (omega arith)

low_bit : (x n : ℕ) → flipped x n ≡ flipped (x % 2) n
low_bit x n = omega arith

twice : (x m n : ℕ) → flipped (flipped x m) n ≡ flipped x (m + n)
twice x m n = omega arith

-- ---- a number of repetitions

-- n flips a repetition: two repetitions leave the level
in_twos : (i n : ℕ) → i * n ≡ i / 2 * n * 2 + i % 2 * n
in_twos i n =
    ap (λ j. j * n) (sym (div-add-mod' i 2)) ∙ add-mul (i / 2 * 2) (i % 2) n
    ∙ ap (λ j. j + i % 2 * n) (mul_assoc (i / 2) 2 n ∙ ap (λ j. i / 2 * j) (mul_comm 2 n) ∙ sym (mul_assoc (i / 2) n 2))

even_times : (i n x : ℕ) → i % 2 ≡ 0 → flipped x (i * n) ≡ x % 2
even_times i n x e = let none : i % 2 * n ≡ 0 * n = ap (λ j. j * n) e in omega (arith, in_twos i n)

odd_times : (i n x : ℕ) → i % 2 ≡ 1 → flipped x (i * n) ≡ flipped x n
odd_times i n x e = let one : i % 2 * n ≡ 1 * n = ap (λ j. j * n) e in omega (arith, in_twos i n)

-- ---- six outputs

module _ (a : Pattern) (key : ℕ → ℕ) where
  abbrev rows : List (List ℕ)
  rows = rows_of (keyed key a.toggles)

  -- from the levels of a pattern
  six_out : (n : ℕ) (G : ℕ → ℕ → ℕ) → ((x k : ℕ) → flipped x (passed n (key_row key a k)) ≡ G (x % 2) k)
      → six_at a.levels rows n ≡ six (λ k. G (start_level a k) k)
  six_out n G f =
      let first = f a.levels 0 ∙ ap (λ y. G (y % 2) 0) (sym (div-one a.levels)) in
      λ i.
      first i + f (a.levels / 2) 1 i * 2 + f (a.levels / 4) 2 i * 4 + f (a.levels / 8) 3 i * 8 + f (a.levels / 16) 4 i * 16
      + f (a.levels / 32) 5 i * 32

  -- from six bits
  bits_out : (n : ℕ) (g : ℕ → ℕ) → ((k : ℕ) → g k < 2) → six_at (six g) rows n ≡ six (λ k. flipped (g k) (passed n (key_row key a k)))
  bits_out n g h =
      let b0 : (m : ℕ) → flipped (six g) m ≡ flipped (g 0) m = λ m. omega (arith, h 0, h 1, h 2, h 3, h 4, h 5) in
      let b1 : (m : ℕ) → flipped (six g / 2) m ≡ flipped (g 1) m = λ m. omega (arith, h 0, h 1, h 2, h 3, h 4, h 5) in
      let b2 : (m : ℕ) → flipped (six g / 4) m ≡ flipped (g 2) m = λ m. omega (arith, h 0, h 1, h 2, h 3, h 4, h 5) in
      let b3 : (m : ℕ) → flipped (six g / 8) m ≡ flipped (g 3) m = λ m. omega (arith, h 0, h 1, h 2, h 3, h 4, h 5) in
      let b4 : (m : ℕ) → flipped (six g / 16) m ≡ flipped (g 4) m = λ m. omega (arith, h 0, h 1, h 2, h 3, h 4, h 5) in
      let b5 : (m : ℕ) → flipped (six g / 32) m ≡ flipped (g 5) m = λ m. omega (arith, h 0, h 1, h 2, h 3, h 4, h 5) in
      λ i.
      b0 (passed n (key_row key a 0)) i + b1 (passed n (key_row key a 1)) i * 2 + b2 (passed n (key_row key a 2)) i * 4
      + b3 (passed n (key_row key a 3)) i * 8
      + b4 (passed n (key_row key a 4)) i * 16
      + b5 (passed n (key_row key a 5)) i * 32

  start_small : (k : ℕ) → start_level a k < 2
  start_small k = omega arith

  -- the start levels, from keys made of the toggles
  start_bits : {L : ℕ} {keys : List ℕ} → keys ≡ keyed key a.toggles → L ≡ six_at a.levels (rows_of keys) 0 → L ≡ six (λ k. start_level a k)
  start_bits ek el = el ∙ ap (λ k. six_at a.levels (rows_of k) 0) ek ∙ six_out 0 (λ y k. y) (λ x k. none_passed x (key_row key a k))

six_ext : (f g : ℕ → ℕ) → ((k : ℕ) → f k ≡ g k) → six f ≡ six g
six_ext f g h = λ i. six (λ k. h k i)

start_even : (a : Pattern) (k : ℕ) → start_level a k ≡ start_level a k % 2
start_even a k = omega arith

module _ (a : Pattern) (small : Small a.toggles) (start r : ℕ) where
  abbrev plain : ℕ → ℕ
  plain x = x

  -- the first pattern made ready, with the levels that even and odd repetitions begin with
  abbrev made : Bool → (L T : ℕ) → List ℕ → ℕ → L < 64 → T < 64 → First
  made times L T keys origin ls ts =
      record { times = times; levels = L; turned = T; length = a.length; keys = keys; start = start; origin = origin; repetitions = r; six_levels = ls; six_turned = ts }

  pub turned_bits : six_at a.levels (rows a plain) a.length ≡ six (λ k. flipped (start_level a k) (run_toggles a k))
  turned_bits =
      six_out a plain a.length (λ y k. flipped y (run_toggles a k)) (λ x k. low_bit x (run_toggles a k))

  -- a run, by the levels that each repetition begins with
  run_out : (f : First) → f.times ≡ false → f.length ≡ a.length → f.keys ≡ keyed plain a.toggles → f.start ≡ start → f.repetitions ≡ r
      → (g : ℕ → ℕ → ℕ) → ((i k : ℕ) → g i k < 2) → f.levels ≡ six (λ k. start_level a k) → ((i : ℕ) → begins_with f i ≡ six (g i)) → (q : ℕ)
      → first_at f q
      ≡ six (λ k. cond (ltb q start) (start_level a k)
      (cond (ltb (q - start) (r * a.length)) (flipped (g ((q - start) / a.length) k) (run_flips a k ((q - start) % a.length)))
      (g r k)))
  unfolding run_at
  run_out f ft fl fk fs fr g gs first begins q =
      (λ i. cond (ltb q (fs i)) (first i) (cond (ft i) (times_at f (q - f.start)) (cond (ltb (q - fs i) (fr i * fl i)) (six_at (begins_with f ((q - fs i) / fl i)) (rows_of (fk i)) ((q - fs i) % fl i + 1)) (begins_with f (fr i)))))
      ∙ by_cases (ltb q start)
      (λ e. rw e)
      (λ e.
      by_cases (ltb (q - start) (r * a.length))
      (λ h.
      let pos = run_has_length r a.length (q - start) (ltb-true (q - start) (r * a.length) h) in
      let u : ℕ = (q - start) % a.length in
      rw (e, h)
      (ap (λ b. six_at b (rows a plain) (u + 1)) (begins ((q - start) / a.length))
      ∙ bits_out a plain (u + 1) (g ((q - start) / a.length)) (gs ((q - start) / a.length))
      ∙ six_ext _ _
      (λ k.
      ap (flipped (g ((q - start) / a.length) k))
      (counted plain (used Plain a.length) (u + 1) 1 u a k small (λ y l. run_toggle a.length u y (mod-lt (q - start) pos))))))
      (λ h. rw (e, h) (begins r)))

  -- version 1: each repetition starts afresh
  pub afresh_makes : (origin L : ℕ) (keys : List ℕ) → keys ≡ keyed plain a.toggles → L ≡ six_at a.levels (rows_of keys) 0 → {ls ts : L < 64}
      → Makes
      (made false L L keys origin ls ts)
      origin (λ q. first_word Afresh a start r q) (λ q. first_edge_of Afresh a start r q)
  unfolding first_word
  afresh_makes origin L keys ek el {ls} {ts} =
      let levels = start_bits a plain ek el in
      record {
        place = refl;
        edges = λ q. ap (λ b. leb start q && b) (run_rule a small (made false L L keys origin ls ts) (q - start) refl ek);
        same = λ q.
            run_out
            (made false L L keys origin ls ts)
            refl refl ek refl refl (λ i k. start_level a k) (λ i k. start_small a plain k) levels
            (λ i. cond-case (λ x. x ≡ six (λ k. start_level a k)) (eqb (i % 2) 0) L L (λ e. levels) (λ e. levels)) q;
      }

  -- the mended rule: the levels carry over
  pub carried_makes : (origin L T : ℕ) (keys : List ℕ) → keys ≡ keyed plain a.toggles → L ≡ six_at a.levels (rows_of keys) 0
      → T ≡ six_at a.levels (rows_of keys) a.length → {ls : L < 64} {ts : T < 64}
      → Makes
      (made false L T keys origin ls ts)
      origin (λ q. first_word Carried a start r q) (λ q. first_edge_of Carried a start r q)
  unfolding first_word
  carried_makes origin L T keys ek el et {ls} {ts} =
      record {
        place = refl;
        edges = λ q. ap (λ b. leb start q && b) (run_rule a small (made false L T keys origin ls ts) (q - start) refl ek);
        same = λ q.
            run_out
            (made false L T keys origin ls ts)
            refl refl ek refl refl (λ i k. flipped (start_level a k) (i * run_toggles a k)) (λ i k. omega arith) levels begins q
            ∙ six_ext _ _
            (λ k j.
            cond (ltb q start) (start_level a k)
            (cond (ltb (q - start) (r * a.length))
            (twice (start_level a k) ((q - start) / a.length * run_toggles a k) (run_flips a k ((q - start) % a.length)) j)
            (flipped (start_level a k) (r * run_toggles a k))));
      }
    where
      levels : L ≡ six (λ k. start_level a k)
      levels = start_bits a plain ek el

      begins : (i : ℕ) → cond (eqb (i % 2) 0) L T ≡ six (λ k. flipped (start_level a k) (i * run_toggles a k))
      begins i =
          cond-case (λ x. x ≡ six (λ k. flipped (start_level a k) (i * run_toggles a k))) (eqb (i % 2) 0) L T
          (λ e. levels ∙ six_ext _ _ (λ k. start_even a k ∙ sym (even_times i (run_toggles a k) (start_level a k) (eqb-true (i % 2) 0 e))))
          (λ e.
          let ne = eqb-false (i % 2) 0 e in
          let odd : i % 2 ≡ 1 = omega arith in
          et ∙ ap (λ k. six_at a.levels (rows_of k) a.length) ek
          ∙ turned_bits
          ∙ six_ext _ _ (λ k. sym (odd_times i (run_toggles a k) (start_level a k) odd)))

  -- multiplier
  cap-toggle : (t x : ℕ) → 0 < a.length → x < 65536
      → ltb (key_of x) (min (t / a.length) 65535 + 1) ≡ not (eqb x 4095) && leb (x * a.length) t
  cap-toggle t x pos h =
      key-toggle (min (t / a.length) 65535) x (omega arith)
      ∙ ap (λ b. not (eqb x 4095) && b)
      (leb_iff x (min (t / a.length) 65535) x (t / a.length) (λ g. omega arith) (λ g. omega arith)
      ∙ leb_iff x (t / a.length) (x * a.length) t (le-div_iff_mul-le pos).0 (le-div_iff_mul-le pos).1)

  pub multiplied_makes : (origin L : ℕ) (keys : List ℕ) → keys ≡ keyed (λ x. key_of x) a.toggles → L ≡ six_at a.levels (rows_of keys) 0 → {ls ts : L < 64}
      → Makes
      (made true L L keys origin ls ts)
      origin (λ q. first_word Multiplied a start r q) (λ q. first_edge_of Multiplied a start r q)
  unfolding first_word times_at
  multiplied_makes origin L keys ek el {ls} {ts} =
      record {
        place = refl;
        edges = λ q. ap (λ b. leb start q && b) (times_rule a small (made true L L keys origin ls ts) (q - start) refl ek);
        same = λ q.
            (λ i. cond (ltb q start) (levels i) (six_at (levels i) (rows_of (ek i)) (cond (eqb a.length 0) 65536 (min ((q - start) / a.length) 65535 + 1))))
            ∙ by_cases (ltb q start)
            (λ e. rw e)
            (λ e.
            by_cases (eqb a.length 0)
            (λ z.
            let none = eqb-true a.length 0 z in
            rw (e, z)
            (out 65536 (q - start)
            (λ x l.
            key-toggle 65535 x (omega arith)
            ∙ ap (λ b. not (eqb x 4095) && b)
            (le-leb x 65535 (omega arith) ∙ sym (le-leb (x * a.length) (q - start) (rw (none, mul-zero) (omega arith)))))))
            (λ z.
            let pos : 0 < a.length = omega (arith, eqb-false a.length 0 z) in
            rw (e, z) (out (min ((q - start) / a.length) 65535 + 1) (q - start) (λ x l. cap-toggle (q - start) x pos l))));
      }
    where
      levels : L ≡ six (λ k. start_level a k)
      levels = start_bits a (λ x. key_of x) ek el

      out : (n t : ℕ) → ((x : ℕ) → x < 65536 → ltb (key_of x) n ≡ not (eqb x 4095) && leb (x * a.length) t)
          → six_at (six (λ k. start_level a k)) (rows a (λ x. key_of x)) n
          ≡ six (λ k. flipped (start_level a k) (flips not4095 a.length (row_of a.toggles k) t))
      out n t law =
          bits_out a (λ x. key_of x) n (λ k. start_level a k) (start_small a (λ x. key_of x))
          ∙ six_ext _ _
          (λ k. ap (flipped (start_level a k)) (counted (λ x. key_of x) not4095 n a.length t a k small law))

  -- the second pattern
  pub second_word_lem : (keys : List ℕ) (p : ℕ) → keys ≡ keyed (λ x. key_of x) a.toggles → p < 65536
      → six_at a.levels (rows_of keys) (p - a.length + 1) ≡ second_word a p
  unfolding second_word
  second_word_lem keys p ek h =
      ap (λ k. six_at a.levels (rows_of k) (p - a.length + 1)) ek
      ∙ six_out a (λ x. key_of x) (p - a.length + 1) (λ y k. flipped y (flips not4095 1 (row_of a.toggles k) (p - a.length)))
      (λ x k.
      low_bit x _
      ∙ ap (flipped (x % 2))
      (counted (λ x. key_of x) not4095 (p - a.length + 1) 1 (p - a.length) a k small
      (λ y l.
      key-toggle (p - a.length) y (omega arith)
      ∙ ap (λ b. not (eqb y 4095) && b) (leb_iff y (p - a.length) (y * 1) (p - a.length) (λ g. omega arith) (λ g. omega arith)))))

  pub second_edge_lem : (keys : List ℕ) (p : ℕ) → keys ≡ keyed (λ x. key_of x) a.toggles → p < 65536
      → (eqb p a.length || among keys (p - a.length)) ≡ second_edge_of a p
  unfolding second_edge_of
  second_edge_lem keys p ek h =
      ap (λ b. eqb p a.length || b) (ap (λ k. among k (p - a.length)) ek ∙ used-among a small (p - a.length) (omega arith))

-- where it acts it is the rules' from its start on
pub second_made : (a : Pattern) (small : Small a.toggles) {keys : List ℕ} → keys ≡ keyed (λ x. key_of x) a.toggles
    → Seconds (Some (record { levels = a.levels; length = a.length; keys = keys })) (Some a)
unfolding second_at second_edge
second_made a small {keys} e =
    record {
      levels = λ p first h. by_cases (leb a.length p) (λ g. rw g (second_word_lem a small 0 0 keys p e h)) (λ g. rw g);
      edges = λ p first h. by_cases (leb a.length p) (λ g. rw g (second_edge_lem a small 0 0 keys p e h)) (λ g. rw g);
    }

-- ---- the word

pub held_small : (m : Option Mask) (p q : ℕ) → q < 65536 → ((x : Mask) → m ≡ Some x → x.freeze < 65536) → held_at m p q < 65536
held_small None p q h f = h
held_small (Some m) p q h f = cond-case (λ n. n < 65536) (within m.freeze m.resume p) _ _ (λ e. omega (arith, f m refl)) (λ e. h)

six-cond : (b : Bool) (f g : ℕ → ℕ) → cond b (six f) (six g) ≡ six (λ k. cond b (f k) (g k))
six-cond true f g = refl
six-cond false f g = refl

six_second : (o : Option Pattern) (q : ℕ) (first : ℕ → ℕ)
    → of_second o q (λ a. second_word a q) (six first) ≡ six (λ k. of_second o q (λ a. second_level a k q) (first k))
unfolding second_word
six_second None q first = refl
six_second (Some a) q first = six-cond (leb a.length q) (λ k. second_level a k q) first

pub unmasked_word : (l : Line) (q : ℕ)
    → of_second l.second q (λ a. second_word a q) (first_word l.run l.pattern l.start l.repetitions (l.origin + q)) ≡ six (λ k. unmasked l k q)
unfolding first_word
unmasked_word l q = six_second l.second q (λ k. first_level l.run l.pattern l.start l.repetitions k (l.origin + q))

pub two_parts : (l : Line) (p : ℕ)
    → six (λ k. unmasked l k (shown_at l.mask1 l.mask2 p)) + others_word l.gates l.subck l.mshut l.strobe p * 64
    ≡ word_of l p
unfolding word_of v_word others_word
two_parts l p = omega arith

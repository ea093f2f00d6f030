-- Laws of `over_fit`, `Writes` and `Fills`: what two writers do one after the other, the second given only what the first left free, and so what a
-- loop of writers does; what a word held, a step closed and a writer without room do. By recursion on the lists.
-- Assumes nothing.
use Prim.Native.Nat.{ℕ, suc, ◌+◌, ◌-◌, ◌*◌, ◌≤◌, ◌<◌, ◌^◌, min}
use native.Mathlib.Omega.{arith}
use native.Mathlib.Nat.{zero-min, min-zero, suc-min-suc}
use mathlib.Core.Path.{◌≡◌, refl, sym, ap, ◌∙◌}
use mathlib.Core.List.{List, [], ◌∷◌, ◌++◌, map, map-append, append-nil}
use lib.ListN.{length, take, drop, set, replicate, length-append, length-map, length-drop, length-replicate, drop_of_length-le}
use lib.Seq.{take_all}
use borrow.Author.Tests.{eq-eqb, ne_eqb}
use borrow.Rule.Slice.PartMut.{mid_of, put_mid}
use Rattle.profile.specs.Lists.{chunks, over}
use Rattle.profile.proofs.Laws.{chunks-none, chunks_more, chunk_room}
use Rattle.holdlist.specs.declared.Step.{Step}
use Rattle.holdlist.specs.Runs.{none, flush, opened, closed, runs, step_count, step_word, step_counts, step_words}
use Rattle.holdlist.specs.Fills.{over_fit, Writes, Fills}
use Rattle.holdlist.proofs.Runs.{step, opened-append, closed-append, run_joins, run_starts, closed-length, opened_count, flush_one}

-- ---- one list over the front of another

pub over_fit_nil : (a : List ℕ) → over_fit a [] ≡ []
unfolding over_fit
over_fit_nil [] = refl
over_fit_nil (x ∷ a) = refl

pub over_fit-length : (a s : List ℕ) → length (over_fit a s) ≡ length s
unfolding over_fit
over_fit-length [] s = refl
over_fit-length (x ∷ a) [] = refl
over_fit-length (x ∷ a) (y ∷ s) = ap suc (over_fit-length a s)

-- one element is written by a store at the front, where there is a place
pub over_fit_one : (s : List ℕ) (x : ℕ) → set s 0 x ≡ over_fit (x ∷ []) s
unfolding over_fit
over_fit_one [] x = refl
over_fit_one (y ∷ s) x = refl

-- where there is no place
pub over_fit-full : (a s : List ℕ) → length s ≤ 0 → s ≡ over_fit a s
over_fit-full a [] h = sym (over_fit_nil a)
over_fit-full a (y ∷ s) h = absurd (omega arith)

-- where all of it has a place
pub over_fit-fits : (a s : List ℕ) → length a ≤ length s → over_fit a s ≡ over a s
unfolding over_fit
over_fit-fits [] s h = refl
over_fit-fits (x ∷ a) [] h = absurd (omega arith)
over_fit-fits (x ∷ a) (y ∷ s) h = ap {B = List ℕ} (λ r. x ∷ r) (over_fit-fits a s (omega arith))

-- written in two parts, the second over what the first leaves free
over_fit-append : (a b s : List ℕ) → over_fit (a ++ b) s ≡ take (min (length a) (length s)) (over_fit a s) ++ over_fit b (drop (min (length a) (length s)) (over_fit a s))
unfolding over_fit
over_fit-append [] b s = rw zero-min
over_fit-append (x ∷ a) b [] = rw (min-zero, over_fit_nil b)
over_fit-append (x ∷ a) b (y ∷ s) = rw suc-min-suc (ap {B = List ℕ} (λ r. x ∷ r) (over_fit-append a b s))

-- the part from k on, k the place after the steps a or the end, comes back with the steps b laid over it
over_fit-part :
    (f : Step → ℕ) (a b : List Step) (s s' p : List ℕ) (k : ℕ) →
    s' ≡ over_fit (map f a) s → k ≡ min (length a) (length s') → p ≡ over_fit (map f b) (drop k s') →
    take k s' ++ p ≡ over_fit (map f (a ++ b)) s
over_fit-part f a b s s' p k e h q =
    let l : min (length a) (length s') ≡ min (length (map f a)) (length s) = rw (e, length-map, over_fit-length (map f a) s) in
    rw (q, h, l, e, map-append) (sym (over_fit-append (map f a) (map f b) s))

-- ---- a part that is lent from k on, and what comes back of it, as the borrow checker states them

mid_rest : (k : ℕ) (s : List ℕ) → mid_of k (length s - k) s ≡ drop k s
mid_rest k s = take_all (length s - k) (drop k s) (omega (arith, length-drop k s))

put_rest : (k : ℕ) (s p : List ℕ) → put_mid k (length s - k) s p ≡ take k s ++ p
put_rest k s p = rw (drop_of_length-le (drop k s) {i = length s - k} (omega (arith, length-drop k s)), append-nil p)

-- ---- two writers, the second given what is free after the first

pub writes_more :
    {a b : List Step} {cs ws cs' ws' p q : List ℕ} {n m j k : ℕ} →
    Writes a cs ws n cs' ws' → j ≡ min n (length cs') → k ≡ min n (length ws') →
    Writes b (mid_of j (length cs' - j) cs') (mid_of k (length ws' - k) ws') m p q →
    Writes (a ++ b) cs ws (n + m) (put_mid j (length cs' - j) cs' p) (put_mid k (length ws' - k) ws' q)
writes_more {a} {b} {cs} {ws} {cs'} {ws'} {p} {q} {n} {m} {j} {k} x ej ek y =
    record {
      number = rw (length-append, ← x.number, ← y.number);
      counts =
          rw (put_rest j cs' p)
          (over_fit-part step_count a b cs cs' p j x.counts (rw (← x.number) ej) (rw (← mid_rest j cs') y.counts));
      words =
          rw (put_rest k ws' q)
          (over_fit-part step_word a b ws ws' q k x.words (rw (← x.number) ek) (rw (← mid_rest k ws') y.words));
    }

pub fills_none : (o : Step) (cs ws : List ℕ) → Fills o [] cs ws 0 o cs ws
unfolding over_fit opened closed
fills_none o cs ws = record { writes = record { number = refl; counts = refl; words = refl }; leaves = refl }

pub fills_as :
    {o h : Step} {xs ys cs ws cs' ws' : List ℕ} {n : ℕ} → xs ≡ ys → Fills o xs cs ws n h cs' ws' → Fills o ys cs ws n h cs' ws'
fills_as e f = rw (← e) f

pub fills_more :
    {o h h' : Step} {xs ys zs cs ws cs' ws' p q : List ℕ} {n m j k : ℕ} →
    Fills o xs cs ws n h cs' ws' → j ≡ min n (length cs') → k ≡ min n (length ws') →
    Fills h ys (mid_of j (length cs' - j) cs') (mid_of k (length ws' - k) ws') m h' p q → zs ≡ xs ++ ys →
    Fills o zs cs ws (n + m) h' (put_mid j (length cs' - j) cs' p) (put_mid k (length ws' - k) ws' q)
fills_more {o} {h} {h'} {xs} {ys} x ej ek y e =
    record {
      writes = rw (e, closed-append o xs ys, ← x.leaves) (writes_more x.writes ej ek y.writes);
      leaves = rw (e, opened-append o xs ys, ← x.leaves) y.leaves;
    }

-- the last step is closed: all the runs are written
pub writes_runs :
    {h : Step} {xs cs ws cs' ws' p q : List ℕ} {n m j k : ℕ} →
    Fills none xs cs ws n h cs' ws' → j ≡ min n (length cs') → k ≡ min n (length ws') →
    Writes (flush h) (mid_of j (length cs' - j) cs') (mid_of k (length ws' - k) ws') m p q →
    Writes (runs xs) cs ws (n + m) (put_mid j (length cs' - j) cs' p) (put_mid k (length ws' - k) ws' q)
unfolding runs
writes_runs x ej ek y = rw (← x.leaves) (writes_more x.writes ej ek y)

-- ---- a writer given no room, and one given enough

pub writes_nowhere : {s : List Step} {n : ℕ} {cs' ws' : List ℕ} → Writes s [] [] n cs' ws' → (cs' ≡ []) × (ws' ≡ [])
writes_nowhere {s} a = (a.counts ∙ over_fit_nil (step_counts s), a.words ∙ over_fit_nil (step_words s))

pub writes_whole :
    {s : List Step} {cs ws cs' ws' : List ℕ} {n : ℕ} →
    Writes s cs ws n cs' ws' → length s ≤ length cs → length s ≤ length ws →
    (cs' ≡ over (step_counts s) cs) × (ws' ≡ over (step_words s) ws)
writes_whole {s} {cs} {ws} a h k = (
  a.counts ∙ over_fit-fits (step_counts s) cs (rw (length-map s step_count) h),
  a.words ∙ over_fit-fits (step_words s) ws (rw (length-map s step_word) k),
)

-- ---- what the loops want to know besides

pub record Filling (o : Step) (xs : List ℕ) (cs ws : List ℕ) (steps : ℕ) (held : Step) (cs' ws' : List ℕ) : Type 0 where
  pub fills : Fills o xs cs ws steps held cs' ws'
  pub kept_counts : length cs' ≡ length cs
  pub kept_words : length ws' ≡ length ws
  pub few : steps ≤ length xs
  pub small : held.count ≤ o.count + length xs

pub filling :
    {o h : Step} {xs cs ws cs' ws' : List ℕ} {n : ℕ} → Fills o xs cs ws n h cs' ws' → Filling o xs cs ws n h cs' ws'
filling {o} {h} {xs} {cs} {ws} a =
    record {
      fills = a;
      kept_counts = ap length a.writes.counts ∙ over_fit-length (step_counts (closed o xs)) cs;
      kept_words = ap length a.writes.words ∙ over_fit-length (step_words (closed o xs)) ws;
      few = rw a.writes.number (closed-length o xs);
      small = rw a.leaves (opened_count o xs);
    }

-- the runs of a field's words can be counted
pub runs_few :
    {h : Step} {xs cs ws cs' ws' ps qs ps' qs' : List ℕ} {n m : ℕ} →
    Fills none xs cs ws n h cs' ws' → length xs ≤ 16769025 → Writes (flush h) ps qs m ps' qs' → n + m < 2 ^ 64
runs_few {h} x few y = omega (arith, filling x, y.number, flush_one h)

-- ---- a loop that pushes the words chunk by chunk, each chunk given what is free of both lists after the steps already used

-- after i of n turns; the lists are no longer than memory has room for
pub record Turns
    (f : ℕ → List ℕ) (n : ℕ) (o : Step) (cs ws : List ℕ) (i steps : ℕ) (held : Step) (cs' ws' : List ℕ) : Type 0 where
  pub within : i ≤ n
  pub few : o.count + length (chunks n f) < 2 ^ 32
  pub done : Filling o (chunks i f) cs ws steps held cs' ws'
  pub counts_room : 4 * length cs < 2 ^ 63
  pub words_room : 2 * length ws < 2 ^ 63

pub turns_start :
    (f : ℕ → List ℕ) (n : ℕ) (o : Step) (cs ws : List ℕ) →
    o.count + length (chunks n f) < 2 ^ 32 → 4 * length cs < 2 ^ 63 → 2 * length ws < 2 ^ 63 → Turns f n o cs ws 0 0 o cs ws
turns_start f n o cs ws b c w =
    record {
      within = omega arith;
      few = b;
      done = filling (fills_as (sym (chunks-none f)) (fills_none o cs ws));
      counts_room = c;
      words_room = w;
    }

module _
    {f : ℕ → List ℕ} {n i steps : ℕ} {o held : Step} {cs ws cs' ws' : List ℕ} (t : Turns f n o cs ws i steps held cs' ws')
  where
    pub turns_at : {i' : ℕ} → i ≡ i' → Turns f n o cs ws i' steps held cs' ws'
    turns_at e = rw e at t

    -- the next chunk can be counted
    pub turn-counted : i < n → held.count + length (f i) < 2 ^ 32
    turn-counted l = omega (arith, t.few, t.done.small, chunk_room i n f l)

    -- and so can its steps
    pub turn-steps :
        {held' : Step} {xs ps qs ps' qs' : List ℕ} {m : ℕ} → i < n → xs ≡ f i → Fills held xs ps qs m held' ps' qs' → steps + m < 2 ^ 64
    turn-steps l e y = omega (arith, t.few, t.done.few, (filling y).few, ap length e, chunk_room i n f l)

    pub turn_more :
        {held' : Step} {xs p q : List ℕ} {m j k : ℕ} → i < n → xs ≡ f i → j ≡ min steps (length cs') → k ≡ min steps (length ws') →
        Fills held xs (mid_of j (length cs' - j) cs') (mid_of k (length ws' - k) ws') m held' p q →
        Turns f n o cs ws (i + 1) (steps + m) held' (put_mid j (length cs' - j) cs' p) (put_mid k (length ws' - k) ws' q)
    turn_more l e ej ek y =
        record {
          within = omega arith;
          few = t.few;
          done = filling (fills_more t.done.fills ej ek y (rw (e, chunks_more i f)));
          counts_room = t.counts_room;
          words_room = t.words_room;
        }

    pub turns-end : n ≤ i → Fills o (chunks n f) cs ws steps held cs' ws'
    turns-end h =
        let b : i ≤ n = t.within in
        let e : i ≡ n = omega arith in
        rw e at t.done.fills

-- `search turning` finds what a turn did and what all did
pub ruleset turning = (turn_more, turns-end)

-- ---- the open step is closed, or there is none

module _ (o : Step) (cs ws : List ℕ) where
  pub flush-none : o.count ≡ 0 → Writes (flush o) cs ws 0 cs ws
  unfolding flush over_fit
  flush-none e = let f = eq-eqb o.count 0 e in record { number = rw f; counts = rw f; words = rw f }

  pub flush-step :
      {cs' ws' : List ℕ} →
      (o.count ≡ 0 → ⊥) → cs' ≡ set cs 0 o.count → ws' ≡ set ws 0 o.word → Writes (flush o) cs ws 1 cs' ws'
  unfolding flush
  flush-step e p q =
      let f = ne_eqb o.count 0 e in
      record { number = rw f; counts = rw f (p ∙ over_fit_one cs o.count); words = rw f (q ∙ over_fit_one ws o.word) }

-- ---- a word is pushed a number of times

module _ (o : Step) (w n : ℕ) (cs ws : List ℕ) where
  pub hold_joins : o.word ≡ w → Fills o (replicate n w) cs ws 0 (step (o.count + n) w) cs ws
  unfolding over_fit
  hold_joins e =
      let r = run_joins n w o e in
      record { writes = record { number = rw r.0; counts = rw r.0; words = rw r.0 }; leaves = sym r.1 }

  pub hold_none : n ≡ 0 → Fills o (replicate n w) cs ws 0 o cs ws
  hold_none e = rw e (fills_none o cs ws)

  pub hold_starts :
      {m : ℕ} {cs' ws' : List ℕ} →
      (o.word ≡ w → ⊥) → (n ≡ 0 → ⊥) → Writes (flush o) cs ws m cs' ws' → Fills o (replicate n w) cs ws m (step n w) cs' ws'
  hold_starts e h l =
      let r = run_starts n w o e (omega arith) in
      record { writes = rw r.0 l; leaves = sym r.1 }

-- it closes no more steps than it is pushed times
pub hold_few : (w k : ℕ) {o h : Step} {n : ℕ} {cs ws cs' ws' : List ℕ} → Fills o (replicate k w) cs ws n h cs' ws' → n ≤ k
hold_few w k f = omega (arith, (filling f).few, length-replicate k w)

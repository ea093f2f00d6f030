-- Laws of the runs of equal words: walking a list is reading what it expands to, the runs expand to the words, no list that does is shorter,
-- and the counts and words of runs are bounded. By recursion on the words, pushed one after the other onto any open step.
-- Assumes nothing.
use Prim.Native.Nat.{ℕ, zero, suc, ◌+◌, ◌-◌, ◌≤◌, ◌<◌, ◌^◌}
use native.Mathlib.Omega.{arith}
use native.Mathlib.Numerals.{add-one}
use native.Mathlib.Nat.{sub-zero, suc-sub-suc, add-zero, zero-add, add-suc, suc-add}
use mathlib.Core.Path.{◌≡◌, refl, sym, ap, ◌∙◌}
use mathlib.Core.List.{List, [], ◌∷◌, ◌++◌, append_assoc, append-nil}
use mathlib.Core.Bool.{cond}
use lib.ListN.{length, get_or, drop, replicate, length-append, replicate-append-replicate, get_or-eq_default, get_or-map}
use lib.Seq.{drop_at}
use lib.Dec.{eqb, ltb, leb-suc-suc}
use borrow.Author.Tests.{lt-ltb, le-ltb, eq-eqb, ne_eqb, eqb-true, eqb-false}
use Rattle.profile.specs.Lists.{Each, over}
use Rattle.profile.proofs.Laws.{cond-case, by_cases, each_at, each_append}
use Rattle.holdlist.specs.declared.Step.{Step}
use Rattle.holdlist.specs.Play.{walk, expand, played_word}
use Rattle.holdlist.specs.Runs.{none, flush, pushed, shut, opened, closed, runs, step_count, step_word, step_counts, step_words}
use Rattle.holdlist.proofs.Player.{showing}

-- ---- lists

replicate_snoc : (n w : ℕ) → replicate (suc n) w ≡ replicate n w ++ (w ∷ [])
replicate_snoc n w = ap (λ (k : ℕ). replicate k w) (sym (add-one n)) ∙ sym (replicate-append-replicate n 1 w)

-- what is past the new elements
pub over-rest : {A : Type 0} (new old : List A) (n : ℕ) → length new ≡ n → drop n (over new old) ≡ drop n old
over-rest {A} new old n e = drop_at new (drop (length new) old) n e ∙ ap (λ (k : ℕ). drop k old) e

-- ---- walking is reading the expansion

showing_run : (c w : ℕ) (xs : List ℕ) (n : ℕ) → showing (replicate c w ++ xs) n ≡ cond (ltb n c) (played_word w) (showing xs (n - c))
unfolding showing
showing_run zero w xs n = rw (le-ltb n 0 (omega arith), sub-zero n)
showing_run (suc c) w xs zero = rw (lt-ltb 0 (suc c) (omega arith))
showing_run (suc c) w xs (suc n) = rw (leb-suc-suc (suc n) c, suc-sub-suc n c) (showing_run c w xs n)

pub walk-shows : (cs ws : List ℕ) (n : ℕ) → walk cs ws n ≡ showing (expand cs ws) n
unfolding walk expand showing
walk-shows [] ws n = refl
walk-shows (c ∷ cs) [] n = refl
walk-shows (c ∷ cs) (w ∷ ws) n = rw (showing_run c w (expand cs ws) n, walk-shows cs ws (n - c))

-- ---- words in two parts

pub opened-append : (o : Step) (xs ys : List ℕ) → opened o (xs ++ ys) ≡ opened (opened o xs) ys
unfolding opened
opened-append o [] ys = refl
opened-append o (x ∷ xs) ys = opened-append (pushed o x) xs ys

pub closed-append : (o : Step) (xs ys : List ℕ) → closed o (xs ++ ys) ≡ closed o xs ++ closed (opened o xs) ys
unfolding opened closed
closed-append o [] ys = refl
closed-append o (x ∷ xs) ys = rw (closed-append (pushed o x) xs ys, append_assoc)

-- the steps of the words xs after the open step o
abbrev steps-after : Step → List ℕ → List Step
steps-after o xs = closed o xs ++ flush (opened o xs)

steps-append : (o : Step) (xs ys : List ℕ) → steps-after o (xs ++ ys) ≡ closed o xs ++ steps-after (opened o xs) ys
steps-append o xs ys = rw (closed-append o xs ys, opened-append o xs ys, append_assoc)

-- ---- what a push does, by cases

abbrev pub step : ℕ → ℕ → Step
step c w = record { count = c; word = w }

push_same : (o : Step) (x : ℕ) → o.word ≡ x → (shut o x ≡ []) × (pushed o x ≡ step (suc o.count) x)
unfolding shut pushed
push_same o x e = (rw (eq-eqb o.word x e), rw (eq-eqb o.word x e))

push_other : (o : Step) (x : ℕ) → (o.word ≡ x → ⊥) → (shut o x ≡ flush o) × (pushed o x ≡ step 1 x)
unfolding shut pushed
push_other o x e = (rw (ne_eqb o.word x e), rw (ne_eqb o.word x e))

-- a run of the open step's word joins it
pub run_joins :
    (n w : ℕ) (o : Step) → o.word ≡ w → (closed o (replicate n w) ≡ []) × (opened o (replicate n w) ≡ step (o.count + n) w)
unfolding closed opened
run_joins zero w o e = (refl, rw (← e, add-zero))
run_joins (suc n) w o e =
    let p = push_same o w e in
    let r = run_joins n w (step (suc o.count) w) refl in
    (rw (p.0, p.1, r.0), rw (opened, p.1) (r.1 ∙ rw (add-suc, suc-add)))

-- one of another word closes it, and opens a step of its own
pub run_starts :
    (n w : ℕ) (o : Step) → (o.word ≡ w → ⊥) → 0 < n → (closed o (replicate n w) ≡ flush o) × (opened o (replicate n w) ≡ step n w)
unfolding closed opened
run_starts zero w o e h = absurd (omega arith)
run_starts (suc n) w o e h =
    let p = push_other o w e in
    let r = run_joins n w (step 1 w) refl in
    (rw (p.0, p.1, r.0, append-nil), rw (opened, p.1) (r.1 ∙ rw (suc-add, zero-add)))

-- ---- the runs expand to the words

-- what steps show
abbrev pub shows : List Step → List ℕ
shows s = expand (step_counts s) (step_words s)

shows-append : (s t : List Step) → shows (s ++ t) ≡ shows s ++ shows t
unfolding expand
shows-append [] t = refl
shows-append (o ∷ s) t = rw (shows-append s t, append_assoc)

-- the words of an open step
run : Step → List ℕ
run o = replicate o.count o.word

flush_some : (c w : ℕ) → flush (step (suc c) w) ≡ step (suc c) w ∷ []
unfolding flush
flush_some c w = rw (ne_eqb (suc c) 0 (λ e. omega arith))

shows-flush : (o : Step) → shows (flush o) ≡ run o
unfolding expand flush run
shows-flush o = go o.count o.word
  where
    go : (n w : ℕ) → shows (flush (step n w)) ≡ replicate n w
    go zero w = refl
    go (suc n) w = rw flush_some (append-nil (replicate (suc n) w))

shows_push : (o : Step) (x : ℕ) → shows (shut o x) ++ run (pushed o x) ≡ run o ++ (x ∷ [])
unfolding expand shut pushed run
shows_push o x =
    by_cases (eqb o.word x)
    (λ e. rw (e, eqb-true o.word x e) (replicate_snoc o.count x))
    (λ e. rw (e, shows-flush o))

shows_open : (o : Step) (xs : List ℕ) → shows (steps-after o xs) ≡ run o ++ xs
unfolding opened closed
shows_open o [] = rw append-nil (shows-flush o)
shows_open o (x ∷ xs) =
    rw (append_assoc, shows-append (shut o x), shows_open (pushed o x) xs, ← append_assoc (shows (shut o x)), shows_push o x, append_assoc)

pub runs-expand : (xs : List ℕ) → expand (step_counts (runs xs)) (step_words (runs xs)) ≡ xs
unfolding runs run
runs-expand xs = shows_open none xs

-- ---- no list is shorter

pub flush_one : (o : Step) → length (flush o) ≤ 1
unfolding flush
flush_one o = cond-case (λ s. length s ≤ 1) (eqb o.count 0) [] (o ∷ []) (λ e. omega arith) (λ e. omega arith)

pub shut_one : (o : Step) (x : ℕ) → length (shut o x) ≤ 1
unfolding shut
shut_one o x = cond-case (λ s. length s ≤ 1) (eqb o.word x) [] (flush o) (λ e. omega arith) (λ e. flush_one o)

-- how many steps they are
total : Step → List ℕ → ℕ
total o xs = length (steps-after o xs)

total-append : (o : Step) (xs ys : List ℕ) → total o (xs ++ ys) ≡ length (closed o xs) + total (opened o xs) ys
unfolding total
total-append o xs ys = rw (steps-append o xs ys, length-append)

closed_run : (c w : ℕ) (o : Step) → length (closed o (replicate (suc c) w)) ≤ length (flush o)
closed_run c w o =
    by_cases (eqb o.word w)
    (λ e. omega (arith, ap length (run_joins (suc c) w o (eqb-true o.word w e)).0))
    (λ e. omega (arith, ap length (run_starts (suc c) w o (eqb-false o.word w e) (omega arith)).0))

total_run : (c w : ℕ) (o : Step) → length (closed o (replicate c w)) + length (flush (opened o (replicate c w))) ≤ length (flush o) + 1
unfolding closed opened
total_run zero w o = omega arith
total_run (suc c) w o = omega (arith, closed_run c w o, flush_one (opened o (replicate (suc c) w)))

fewest_from : (cs ws : List ℕ) (o : Step) → total o (expand cs ws) ≤ length (flush o) + length cs
unfolding total expand closed opened
fewest_from [] ws o = omega arith
fewest_from (c ∷ cs) [] o = omega arith
fewest_from (c ∷ cs) (w ∷ ws) o =
    omega (
      arith,
      total-append o (replicate c w) (expand cs ws),
      total_run c w o,
      fewest_from cs ws (opened o (replicate c w)),
    )

pub runs_fewest : (cs ws xs : List ℕ) → expand cs ws ≡ xs → length (runs xs) ≤ length cs
unfolding runs total flush
runs_fewest cs ws xs e = rw (← e) (omega (arith, fewest_from cs ws none))

-- ---- a list that is as short is the runs: a step of count 0, or of the word of the step before it, would be one too many

-- two lists as one list of steps
steps_of : List ℕ → List ℕ → List Step
steps_of [] ws = []
steps_of (c ∷ cs) [] = []
steps_of (c ∷ cs) (w ∷ ws) = step c w ∷ steps_of cs ws

steps_two : (cs ws : List ℕ) → length ws ≡ length cs → (step_counts (steps_of cs ws) ≡ cs) × (step_words (steps_of cs ws) ≡ ws)
unfolding steps_of
steps_two [] [] e = (refl, refl)
steps_two [] (w ∷ ws) e = absurd (omega arith)
steps_two (c ∷ cs) [] e = absurd (omega arith)
steps_two (c ∷ cs) (w ∷ ws) e =
    let t = steps_two cs ws (omega arith) in
    (ap (λ (l : List ℕ). c ∷ l) t.0, ap (λ (l : List ℕ). w ∷ l) t.1)

flush-none : (o : Step) → length (flush o) ≡ 0 → (flush o ≡ []) × (o.count ≡ 0)
unfolding flush
flush-none o e = by_cases (eqb o.count 0) (λ q. (rw q, eqb-true o.count 0 q)) (λ q. absurd (omega (arith, rw q at e)))

-- a run of c + 1 words w, and then a list that is as short as it can be after any open step
module _
    (c w : ℕ) (cs ws : List ℕ) (o : Step)
    (on : (o : Step) → total o (expand cs ws) ≡ length (flush o) + length cs → steps-after o (expand cs ws) ≡ flush o ++ steps_of cs ws)
    (e : total o (replicate (suc c) w ++ expand cs ws) ≡ length (flush o) + suc (length cs))
  where
    abbrev run-words : List ℕ
    run-words = replicate (suc c) w

    -- where it closes the open step and opens its own
    one-opened : closed o run-words ≡ flush o → opened o run-words ≡ step (suc c) w
        → steps-after o (run-words ++ expand cs ws) ≡ flush o ++ (step (suc c) w ∷ steps_of cs ws)
    one-opened a b =
        let f = flush_some c w in
        let t = total-append o run-words (expand cs ws) in
        let l : total (step (suc c) w) (expand cs ws) ≡ length (flush (step (suc c) w)) + length cs =
        omega (arith, e, rw (a, b) at t, ap length f)
        in
        rw (steps-append o run-words (expand cs ws), a, b)
        (ap (λ (s : List Step). flush o ++ s) (on (step (suc c) w) l ∙ ap (λ (s : List Step). s ++ steps_of cs ws) f))

    -- the word of the open step, which is none then
    one_same : o.word ≡ w → steps-after o (run-words ++ expand cs ws) ≡ flush o ++ (step (suc c) w ∷ steps_of cs ws)
    one_same q =
        let r = run_joins (suc c) w o q in
        let z =
        flush-none o
        (omega (
          arith,
          e,
          ap length r.0,
          total-append o run-words (expand cs ws),
          fewest_from cs ws (opened o run-words),
          flush_one (opened o run-words),
        ))
        in
        one-opened (r.0 ∙ sym z.0) (r.1 ∙ ap (λ (n : ℕ). step n w) (omega (arith, z.1)))

    one-other : (o.word ≡ w → ⊥) → steps-after o (run-words ++ expand cs ws) ≡ flush o ++ (step (suc c) w ∷ steps_of cs ws)
    one-other n = let r = run_starts (suc c) w o n (omega arith) in one-opened r.0 r.1

one_none : (o : Step) → steps-after o [] ≡ flush o ++ []
unfolding closed opened
one_none o = sym (append-nil (flush o))

one_from : (cs ws : List ℕ) (o : Step) → length ws ≡ length cs → total o (expand cs ws) ≡ length (flush o) + length cs
    → steps-after o (expand cs ws) ≡ flush o ++ steps_of cs ws
unfolding expand steps_of
one_from [] ws o h e = one_none o
one_from (c ∷ cs) [] o h e = absurd (omega arith)
one_from (zero ∷ cs) (w ∷ ws) o h e = absurd (omega (arith, e, fewest_from cs ws o))
one_from (suc c ∷ cs) (w ∷ ws) o h e =
    by_cases (eqb o.word w)
    (λ q. one_same c w cs ws o (λ o. one_from cs ws o (omega arith)) e (eqb-true o.word w q))
    (λ q. one-other c w cs ws o (λ o. one_from cs ws o (omega arith)) e (eqb-false o.word w q))

pub runs_one : (cs ws xs : List ℕ) → expand cs ws ≡ xs → length cs ≡ length (runs xs) → length ws ≡ length cs
    → (cs ≡ step_counts (runs xs)) × (ws ≡ step_words (runs xs))
unfolding runs total flush
runs_one cs ws xs e h l =
    let r : runs xs ≡ steps_of cs ws = rw (← e) (one_from cs ws none l (rw e (omega (arith, h)))) in
    let t = steps_two cs ws l in
    (sym t.0 ∙ ap step_counts (sym r), sym t.1 ∙ ap step_words (sym r))

-- ---- bounds of the number of steps

pub closed-length : (o : Step) (xs : List ℕ) → length (closed o xs) ≤ length xs
unfolding closed
closed-length o [] = omega arith
closed-length o (x ∷ xs) = omega (arith, length-append (shut o x) (closed (pushed o x) xs), shut_one o x, closed-length (pushed o x) xs)

-- ---- bounds of the numbers in steps

pub pushed_word : (o : Step) (x : ℕ) → (pushed o x).word ≡ x
unfolding pushed
pushed_word o x = cond-case (λ (s : Step). s.word ≡ x) (eqb o.word x) _ _ (λ e. refl) (λ e. refl)

pub pushed_count : (o : Step) (x : ℕ) → (pushed o x).count ≤ suc o.count
unfolding pushed
pushed_count o x = cond-case (λ (s : Step). s.count ≤ suc o.count) (eqb o.word x) _ _ (λ e. omega arith) (λ e. omega arith)

pub opened_count : (o : Step) (xs : List ℕ) → (opened o xs).count ≤ o.count + length xs
unfolding opened
opened_count o [] = omega arith
opened_count o (x ∷ xs) = omega (arith, opened_count (pushed o x) xs, pushed_count o x)

module _ (P : Step → Type 0) where
  flush_each : (o : Step) → P o → Each P (flush o)
  unfolding flush
  flush_each o p = cond-case (Each P) (eqb o.count 0) [] (o ∷ []) (λ e. tt) (λ e. (p, tt))

  shut_each : (o : Step) (x : ℕ) → P o → Each P (shut o x)
  unfolding shut
  shut_each o x p = cond-case (Each P) (eqb o.word x) [] (flush o) (λ e. tt) (λ e. flush_each o p)

-- a claim of each step, where what is known of the open step and of the words to come says it and is kept by a push
steps_each :
    (P : Step → Type 0) (Q : Step → List ℕ → Type 0) → ((o : Step) (xs : List ℕ) → Q o xs → P o) →
    ((o : Step) (x : ℕ) (xs : List ℕ) → Q o (x ∷ xs) → Q (pushed o x) xs) →
    (o : Step) (xs : List ℕ) → Q o xs → Each P (steps-after o xs)
unfolding closed opened
steps_each P Q says keeps o [] q = flush_each P o (says o [] q)
steps_each P Q says keeps o (x ∷ xs) q =
    rw append_assoc
    (each_append P (shut o x) _ (shut_each P o x (says o (x ∷ xs) q)) (steps_each P Q says keeps (pushed o x) xs (keeps o x xs q)))

-- every count is at most the number of words
pub runs_count : (xs : List ℕ) (i : ℕ) → get_or (step_counts (runs xs)) i 0 ≤ length xs
unfolding runs
runs_count xs i =
    let P : Step → Type 0 = λ o. o.count ≤ length xs in
    let each =
    steps_each P (λ o ys. o.count + length ys ≤ length xs) (λ o ys q. omega arith) (λ o x ys q. omega (arith, pushed_count o x)) none xs (omega arith)
    in
    rw (get_or-map step_count (runs xs) i none) (each_at P (runs xs) none each (omega arith) i)

-- every word is below what all words are below
pub runs_word : (b : ℕ) (xs : List ℕ) → ((i : ℕ) → get_or xs i 0 < b) → (i : ℕ) → get_or (step_words (runs xs)) i 0 < b
unfolding runs
runs_word b xs h i =
    let P : Step → Type 0 = λ o. o.word < b in
    let z : 0 < b = rw (get_or-eq_default xs 0 {n = length xs} (omega arith)) at (h (length xs)) in
    let each =
    steps_each P (λ o ys. (o.word < b) × ((i : ℕ) → get_or ys i 0 < b)) (λ o ys q. q.0)
    (λ o x ys q. (rw (pushed_word o x) (q.1 0), λ i. q.1 (suc i))) none xs (z, h)
    in
    rw (get_or-map step_word (runs xs) i none) (each_at P (runs xs) none each z i)

-- they fit a u32 and a u16
pub runs_fit :
    (xs : List ℕ) → length xs < 2 ^ 32 → ((i : ℕ) → get_or xs i 0 < 2 ^ 16) →
    ((i : ℕ) → get_or (step_counts (runs xs)) i 0 < 2 ^ 32) × ((i : ℕ) → get_or (step_words (runs xs)) i 0 < 2 ^ 16)
runs_fit xs l h = ((λ i. omega (arith, runs_count xs i)), runs_word (2 ^ 16) xs h)

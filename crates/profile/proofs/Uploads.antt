-- A script that arrives in chunks is read as if it had arrived whole. Judging a record looks at no byte past its end: so reading up to a chunk's end, and on
-- from the record that is cut there, is reading on (reached-on), and a state stands for all that has arrived (takes-on).
-- Assumes nothing.
use mathlib.Core.Path.{◌≡◌, refl, sym, ap, ◌∙◌}
use mathlib.Core.Bool.{true, false, cond, not, ◌&&◌, false≢true}
use mathlib.Core.Logic.{◌⊎◌, inl, inr}
use mathlib.Core.List.{List, [], ◌∷◌, ◌++◌, append_assoc, foldl, flatten}
use Prim.Native.Nat.{ℕ, zero, suc, ◌+◌, ◌-◌, ◌≤◌, ◌<◌, min}
use native.Mathlib.Nat.{zero-add}
use native.Mathlib.Omega.{arith}
use borrow.Author.Tests.{ltb-true, ltb-false, le-ltb, leb-true, leb-false, le-leb, lt-leb, eqb-false, ne_eqb}
use lib.Dec.{ltb, leb}
use lib.ListN.{length, take, drop, length-append, length-take, take-append-drop}
use lib.Seq.{take_all, take-nil, take-append_seam}
use Rattle.profile.specs.Bytes.{number_at}
use Rattle.profile.specs.Values.{empty_profile, refused, read_answer}
use Rattle.profile.specs.Script.{most_bytes, Stepped, stop, next, step, after_first, records, judged, read_script}
use Rattle.profile.specs.Upload.{held_bytes, larger, arrived, is_refused, Reached, reached, waiting, waits, stopped_at, read_on, counted, with_length, take_chunk, start_upload, records_with, read_with, upload_answer}
use Rattle.profile.specs.Reading.{cut_front}
use Rattle.profile.specs.declared.Profile.{Profile}
use Rattle.profile.specs.Values.{ReadAnswer}
use Rattle.profile.specs.declared.Ruleset.{Ruleset}
use Rattle.profile.specs.declared.upload.Arrival.{Arrival}
use Rattle.profile.specs.declared.upload.Upload.{Upload}
use Rattle.profile.proofs.Laws.{by_cases, and_left}
use Rattle.profile.proofs.Takes.{step-next, stop_range, reached_stop, reached_inside, reads_on, records_stop}
use Rattle.profile.proofs.Cut.{step-front, cut_stop, uncut, cut_next, cut_nothing, short_of, short_with, cut_short, Short}

-- ---- what a state holds

-- what stands behind it
abbrev held_rest : Arrival → List ℕ
held_rest a = drop (4 + number_at a.bytes 0) (take a.held a.bytes) ++ drop a.held a.bytes

held_split : (a : Arrival) → held_bytes a ++ held_rest a ≡ a.bytes
held_split a =
    rw (← append_assoc (held_bytes a), take-append-drop (4 + number_at a.bytes 0) (take a.held a.bytes))
    (take-append-drop a.held a.bytes)

pub held-front : (a : Arrival) → take (length (held_bytes a)) a.bytes ≡ held_bytes a
held-front a = ap (take (length (held_bytes a))) (sym (held_split a)) ∙ take-append_seam (held_bytes a) (held_rest a)

pub held_inside : (a : Arrival) → length (held_bytes a) ≤ length a.bytes
held_inside a = omega (arith, ap length (held_split a), length-append (held_bytes a) (held_rest a))

-- how many bytes
pub held-length : (a : Arrival) → length a.bytes ≡ 58 → length (held_bytes a) ≡ min (4 + number_at a.bytes 0) (min a.held 58)
held-length a e = rw (length-take, length-take, e)

pub held_short : (a : Arrival) → Short (held_bytes a)
held_short a =
    short_of (held_bytes a) (held_rest a)
    (rw (held_split a) (omega (arith, length-take (4 + number_at a.bytes 0) (take a.held a.bytes))))

-- what a state is made to hold
held-waiting : (total : ℕ) (s old : List ℕ) → Short s → held_bytes (waiting total s old) ≡ s
held-waiting total s old h =
    rw (take-append_seam s (drop (length s) old)) (take_all (4 + number_at (s ++ drop (length s) old) 0) s (short_with s (drop (length s) old) h))

larger-left : (a b : ℕ) → b ≤ a → larger a b ≡ a
larger-left a b h = rw (le-ltb a b h)

pub larger-least : (a b : ℕ) → (a ≤ larger a b) × (b ≤ larger a b)
larger-least a b =
    by_cases (ltb a b)
    (λ e. let h = ltb-true a b e in rw e (omega arith, omega arith))
    (λ e. let h = ltb-false a b e in rw e (omega arith, omega arith))

-- ---- reading on from where reading stopped

-- where reading stops: at the end or at a record that is refused; and reading on from there is reading on
pub record Halt (s : List ℕ) (skip : ℕ) (p : Profile) : Type 0 where
  pub how : (((reached skip s p).number ≡ 0) × ((reached skip s p).rest ≡ []))
      ⊎ (step (reached skip s p).rest (reached skip s p).profile ≡ stop (reached skip s p).number)
  pub on : (t : List ℕ) → skip ≤ length s → reached skip (s ++ t) p ≡ reached 0 ((reached skip s p).rest ++ t) (reached skip s p).profile

abbrev Halts : List ℕ → Type 0
Halts s = (skip : ℕ) (p : Profile) → Halt s skip p

pub reached_on : (s : List ℕ) → Halts s
unfolding reached
reached_on [] skip p = record { how = inl (refl, refl); on = λ t h. let z : skip ≡ 0 = omega arith in rw z }
reached_on (x ∷ xs) (suc skip) p =
    let r = reached_on xs skip p in
    record { how = r.how; on = λ t h. r.on t (omega arith) }
reached_on (x ∷ xs) zero p = go (reached_on xs) (step (x ∷ xs) p) refl
  where
    go : Halts xs → (y : Stepped) → step (x ∷ xs) p ≡ y → Halt (x ∷ xs) 0 p
    go ih (stop n) e =
        let r = reached_stop x xs n p e in
        record { how = inr (rw r e); on = λ t h. rw r }
    go ih (next len q) e =
        let i = ih (after_first len) q in
        let r : reached 0 (x ∷ xs) p ≡ reached (after_first len) xs q = rw (e, reached) in
        record {
          how = rw r i.how;
          on =
              λ t h.
              let f = step-front (x ∷ xs) t p (uncut (x ∷ xs) p (cut_next (x ∷ xs) p len q e)) ∙ e in
              rw (f, reached, r) (i.on t (omega (arith, step-next (x ∷ xs) p len q e)));
        }

module _ (s : List ℕ) (p : Profile) where
  abbrev w : Reached
  w = reached 0 s p

  -- what is waited for is cut, and what is refused is not
  pub rest_cut : waits w.number ≡ true → cut_front w.rest ≡ true
  rest_cut e = by (reached_on s 0 p).how
    where
      by : ((w.number ≡ 0) × (w.rest ≡ [])) ⊎ (step w.rest w.profile ≡ stop w.number) → cut_front w.rest ≡ true
      by (inl h) = rw h.1 cut_nothing
      by (inr h) =
          let z = ne_eqb w.number 0 (omega (arith, (stop_range w.rest w.profile w.number h).0)) in
          cut_stop w.rest w.profile w.number h ∙ (rw z at e)

  pub record Refused : Type 0 where
    pub whole : cut_front w.rest ≡ false
    pub stops : step w.rest w.profile ≡ stop w.number
    pub held : is_refused w.number ≡ true

  rest-refused : waits w.number ≡ false → Refused
  rest-refused e = by (reached_on s 0 p).how
    where
      by : ((w.number ≡ 0) × (w.rest ≡ [])) ⊎ (step w.rest w.profile ≡ stop w.number) → Refused
      by (inl h) = absurd (false≢true (sym (rw h.0 at e)))
      by (inr h) =
          let k = stop_range w.rest w.profile w.number h in
          let z = ne_eqb w.number 0 (omega (arith, k.0)) in
          let n = eqb-false w.number 2 (rw z at e) in
          record {
            whole = cut_stop w.rest w.profile w.number h ∙ (rw z at e);
            stops = h;
            held = rw (le-leb 3 w.number (omega (arith, k.0)), le-leb w.number 5 k.1);
          }

-- a record that is refused is refused whatever follows
stops_whole : (r s : List ℕ) (at n : ℕ) (p : Profile) → cut_front r ≡ false → step r p ≡ stop n
    → records 0 at (r ++ s) p ≡ read_answer (refused n at) p
stops_whole [] s at n p c e = absurd (false≢true (sym c ∙ cut_nothing))
stops_whole (x ∷ xs) s at n p c e = records_stop x (xs ++ s) at n p (step-front (x ∷ xs) s p (uncut (x ∷ xs) p c) ∙ e)

-- ---- the state with a chunk more

module _ (u : Upload) (c : List ℕ) where
  abbrev a : Arrival
  a = u.arrival

  abbrev total : ℕ
  total = arrived a + length c

  pub chunk_counted : leb total most_bytes && not (is_refused a.number) ≡ false → take_chunk u c ≡ with_length (counted total) u
  unfolding take_chunk
  chunk_counted e = rw e

  pub chunk_read : leb total most_bytes && not (is_refused a.number) ≡ true
      → take_chunk u c ≡ read_on total a.bytes (reached 0 (held_bytes a ++ c) u.profile)
  unfolding take_chunk
  chunk_read e = rw e

-- the total cannot wrap: it is counted no further than one past the limit
counted_most : (total : ℕ) → counted total ≤ most_bytes + 1
counted_most total = by_cases (leb total most_bytes) (λ e. rw e (omega (arith, leb-true total most_bytes e))) (λ e. rw e (omega arith))

pub length_most : (u : Upload) (c : List ℕ) → (take_chunk u c).arrival.length ≤ most_bytes + 1
length_most u c =
    let n = arrived u.arrival + length c in
    by_cases (leb n most_bytes && not (is_refused u.arrival.number))
    (λ e.
    let l = leb-true n most_bytes (and_left (leb n most_bytes) _ e) in
    let r = reached 0 (held_bytes u.arrival ++ c) u.profile in
    rw (chunk_read u c e) (by_cases (waits r.number) (λ q. rw q (omega arith)) (λ q. rw q (omega arith))))
    (λ e. rw (chunk_counted u c e) (counted_most n))

-- ---- a run

module _ (total : ℕ) (old s : List ℕ) (p : Profile) (few : length s ≤ total) where
  arrived_stopped : arrived (stopped_at total old (reached 0 s p).number (reached 0 s p).rest) ≡ total
  arrived_stopped =
      let i = reached_inside s 0 p in
      by_cases (waits (reached 0 s p).number)
      (λ e.
      rw (e, held-waiting total (reached 0 s p).rest old (cut_short (reached 0 s p).rest (rest_cut s p e)))
      (larger-left total (length (reached 0 s p).rest) (omega arith)))
      (λ e. rw (e, take-nil) (larger-left total 0 (omega arith)))

  -- what follows is read on
  records_stopped : (t : List ℕ)
      → records_with (read_on total old (reached 0 s p)) t ≡ records 0 (total - length s) (s ++ t) p
  records_stopped t =
      let r = reached 0 s p in
      let i = reached_on s 0 p in
      let n = arrived_stopped in
      let on : records 0 (total - length r.rest) (r.rest ++ t) r.profile ≡ records 0 (total - length s) (s ++ t) p =
      reads_on (total - length r.rest) (total - length s) (r.rest ++ t) (s ++ t) r.profile p
      (omega (arith, reached_inside s 0 p, length-append r.rest t, length-append s t))
      (sym (i.on t (omega arith))) in
      by_cases (waits r.number)
      (λ e.
      let k = held-waiting total r.rest old (cut_short r.rest (rest_cut s p e)) in
      rw (n, e, k) on)
      (λ e.
      let d = rest-refused s p e in
      rw (e, d.held) (sym (stops_whole r.rest t (total - length r.rest) r.number r.profile d.whole d.stops) ∙ on))

-- where no refusal is held, reading goes on
pub unrefused : (u : Upload) (s : List ℕ) → is_refused u.arrival.number ≡ false
    → records_with u s ≡ records 0 (arrived u.arrival - length (held_bytes u.arrival)) (held_bytes u.arrival ++ s) u.profile
unrefused u s r = rw r

module _ (rules : Ruleset) where
  abbrev Given : ℕ → ReadAnswer → ReadAnswer
  Given n r = cond (leb n most_bytes) (judged rules r) (read_answer (refused 1 0) empty_profile)

  -- as many bytes, and the same of their records
  alike : (u v : Upload) (s t : List ℕ) → arrived u.arrival + length s ≡ arrived v.arrival + length t → records_with u s ≡ records_with v t
      → read_with rules u s ≡ read_with rules v t
  unfolding read_with
  alike u v s t e o = ap (λ (n : ℕ). Given n (records_with u s)) e ∙ ap (Given (arrived v.arrival + length t)) o

  pub too_long : (u : Upload) (s : List ℕ) → most_bytes < arrived u.arrival + length s → read_with rules u s ≡ read_answer (refused 1 0) empty_profile
  unfolding read_with
  too_long u s h = rw (lt-leb (arrived u.arrival + length s) most_bytes h)

  -- a state that took a chunk stands for what it stood for before, with the chunk behind it: for every state, one of no run too
  pub takes_on : (u : Upload) (c s : List ℕ) → read_with rules (take_chunk u c) s ≡ read_with rules u (c ++ s)
  takes_on u c s =
      let a = u.arrival in
      let h = held_bytes a in
      let n = arrived a + length c in
      let b = larger-least a.length (length h) in
      let m = length-append h c in
      let k : arrived a + length (c ++ s) ≡ n + length s = omega (arith, length-append c s) in
      let v = with_length (counted n) u in
      by_cases (leb n most_bytes)
      (λ l.
      by_cases (is_refused a.number)
      (λ r.
      let e : arrived v.arrival ≡ n = rw l (larger-left n (length h) (omega arith)) in
      ap (λ (w : Upload). read_with rules w s) (chunk_counted u c (rw (l, r)))
      ∙ alike v u s (c ++ s) (ap (λ (m : ℕ). m + length s) e ∙ sym k) (rw r))
      (λ r.
      let few : length (h ++ c) ≤ n = omega arith in
      let w = read_on n a.bytes (reached 0 (h ++ c) u.profile) in
      let e = arrived_stopped n a.bytes (h ++ c) u.profile few in
      let at : n - length (h ++ c) ≡ arrived a - length h = omega arith in
      ap (λ (w : Upload). read_with rules w s) (chunk_read u c (rw (l, r)))
      ∙ alike w u s (c ++ s) (ap (λ (m : ℕ). m + length s) e ∙ sym k)
      (records_stopped n a.bytes (h ++ c) u.profile few s
      ∙ ap (λ (m : ℕ). records 0 m ((h ++ c) ++ s) u.profile) at
      ∙ ap (λ (t : List ℕ). records 0 (arrived a - length h) t u.profile) (append_assoc h c s)
      ∙ sym (unrefused u (c ++ s) r))))
      (λ l.
      let big = leb-false n most_bytes l in
      let e : arrived v.arrival ≡ larger (most_bytes + 1) (length h) = rw l in
      let d = larger-least (most_bytes + 1) (length h) in
      ap (λ (w : Upload). read_with rules w s) (chunk_counted u c (rw l))
      ∙ too_long v s (omega (arith, e, d.0))
      ∙ sym (too_long u (c ++ s) (omega (arith, k))))

  -- chunks, one after the other
  pub upload_from : (cs : List (List ℕ)) (u : Upload) → upload_answer rules (foldl take_chunk u cs) ≡ read_with rules u (flatten cs)
  unfolding flatten
  upload_from [] u = refl
  upload_from (c ∷ cs) u = upload_from cs (take_chunk u c) ∙ takes_on u c (flatten cs)

  start_reads : (s : List ℕ) → read_with rules start_upload s ≡ read_script rules s
  unfolding read_with start_upload read_script
  start_reads s = rw zero-add

  -- "takes each chunk and answers once, at the end, with the number, place and profile of the whole script"
  pub upload_reads : (cs : List (List ℕ)) → upload_answer rules (foldl take_chunk start_upload cs) ≡ read_script rules (flatten cs)
  upload_reads cs = upload_from cs start_upload ∙ start_reads (flatten cs)

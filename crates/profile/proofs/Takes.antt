-- One record by its tests, and reading a script piece by piece: a piece takes the profile from one to the next, whatever follows it.
-- A record that is read with anything behind it is such a piece, and pieces in a row are one.
-- Assumes nothing.
use mathlib.Core.Path.{◌≡◌, refl, sym, ap, ◌∙◌}
use mathlib.Core.Bool.{Bool, true, false, cond}
use mathlib.Core.Logic.{◌⊎◌, inl, inr}
use mathlib.Core.List.{List, [], ◌∷◌, ◌++◌, append_assoc, append-nil}
use Prim.Native.Nat.{ℕ, zero, suc, ◌+◌, ◌-◌, ◌≤◌, ◌<◌}
use native.Mathlib.Nat.{add-zero}
use native.Mathlib.Omega.{arith}
use borrow.Author.Tests.{ltb-true, ltb-false, eqb-true, eqb-false, ne_eqb}
use lib.Dec.{ltb, eqb}
use lib.ListN.{length, take, drop, length-append, length-drop, take-append-drop}
use lib.Seq.{length-take-le}
use Rattle.profile.specs.Lists.{chunks}
use Rattle.profile.specs.Bytes.{number_at}
use Rattle.profile.specs.Values.{refused, accepted, read_answer}
use Rattle.profile.specs.Script.{known, allowed, fits, with_record, body_of, Stepped, stop, next, step, after_first, records}
use Rattle.profile.specs.Upload.{Reached, reached}
use Rattle.profile.specs.Reading.{Sought, found_front, Gone, verdict_at, reached_answer}
use Rattle.profile.specs.declared.Profile.{Profile}
use Rattle.profile.specs.Values.{ReadAnswer}
use Rattle.profile.specs.declared.Verdict.{Verdict}
use Rattle.profile.proofs.Laws.{by_cases}

-- ---- one record by its tests, as the step and the search for it make them

-- a record that was found whole at the front of r
pub record Whole (at : ℕ) (r : List ℕ) (f : Sought) : Type 0 where
  pub kind : f.kind ≡ number_at r 2
  pub start : f.start ≡ at + 4
  pub end : f.end ≡ at + (4 + number_at r 0)
  pub known : known (number_at r 2) ≡ true
  pub right : allowed (number_at r 2) (number_at r 0) ≡ true
  pub long : 4 + number_at r 0 ≤ length r
  pub values : (p : Profile) → step r p
      ≡ cond (fits (number_at r 2) (body_of r)) (next (number_at r 0) (with_record (number_at r 2) (body_of r) p)) (stop 5)

-- one that was refused, for the step too: with 2 where the header or the body is cut, else with 3 or 4
pub record Unfound (r : List ℕ) (number : ℕ) : Type 0 where
  pub stops : (p : Profile) → step r p ≡ stop number
  pub range : (2 ≤ number) × (number ≤ 4)
  pub cut : number ≡ 2 → (length r < 4) ⊎ ((length r < 4 + number_at r 0) × (allowed (number_at r 2) (number_at r 0) ≡ true))

abbrev pub Known : ℕ → List ℕ → Sought → Type 0
Known at r f = (f.number ≡ 0 → Whole at r f) × ((f.number ≡ 0 → ⊥) → Unfound r f.number)

pub known_found : (at : ℕ) (r : List ℕ) → Known at r (found_front at r)
unfolding found_front step
known_found at r =
    by_cases (ltb (length r) 4)
    (λ a. rw a (λ z. absurd (omega arith), λ n. is 2 (λ p. rw a) (omega arith, omega arith) (λ z. inl (ltb-true (length r) 4 a))))
    (λ a.
    by_cases (known (number_at r 2))
    (λ b.
    by_cases (allowed (number_at r 2) (number_at r 0))
    (λ c.
    by_cases (ltb (length r) (4 + number_at r 0))
    (λ d.
    rw (a, b, c, d) (
      λ z. absurd (omega arith),
      λ n. is 2 (λ p. rw (a, b, c, d)) (omega arith, omega arith) (λ z. inr (ltb-true (length r) (4 + number_at r 0) d, c)),
    ))
    (λ d.
    rw (a, b, c, d) (
      λ z.
          record {
            kind = refl;
            start = refl;
            end = refl;
            known = b;
            right = c;
            long = ltb-false (length r) (4 + number_at r 0) d;
            values = λ p. rw (a, b, c, d);
          },
      λ n. absurd (n refl),
    )))
    (λ c. rw (a, b, c) (λ z. absurd (omega arith), λ n. is 4 (λ p. rw (a, b, c)) (omega arith, omega arith) (λ z. absurd (omega arith)))))
    (λ b. rw (a, b) (λ z. absurd (omega arith), λ n. is 3 (λ p. rw (a, b)) (omega arith, omega arith) (λ z. absurd (omega arith)))))
  where
    is : (n : ℕ) → ((p : Profile) → step r p ≡ stop n) → (2 ≤ n) × (n ≤ 4)
        → (n ≡ 2 → (length r < 4) ⊎ ((length r < 4 + number_at r 0) × (allowed (number_at r 2) (number_at r 0) ≡ true))) → Unfound r n
    is n s g c = record { stops = s; range = g; cut = c }

-- what is known of a record that was taken
pub record Taken (s : List ℕ) (p : Profile) (len : ℕ) (q : Profile) : Type 0 where
  pub size : number_at s 0 ≡ len
  pub kind : known (number_at s 2) ≡ true
  pub right : allowed (number_at s 2) (number_at s 0) ≡ true
  pub whole : 4 + number_at s 0 ≤ length s
  pub values : fits (number_at s 2) (body_of s) ≡ true
  pub gives : with_record (number_at s 2) (body_of s) p ≡ q

stop_next : {A : Type 0} (n len : ℕ) (q : Profile) → stop n ≡ next len q → A
stop_next n len q e = let z : ◌≡◌ {A = ℕ} 0 1 = cc in absurd (omega arith)

pub step-taken : (s : List ℕ) (p : Profile) (len : ℕ) (q : Profile) → step s p ≡ next len q → Taken s p len q
step-taken s p len q e =
    let found = found_front 0 s in
    by_cases (eqb found.number 0)
    (λ z.
    let w = (known_found 0 s).0 (eqb-true found.number 0 z) in
    let v = sym (w.values p) ∙ e in
    by_cases (fits (number_at s 2) (body_of s))
    (λ f.
    let n : next (number_at s 0) (with_record (number_at s 2) (body_of s) p) ≡ next len q = rw f at v in
    record { size = cc; kind = w.known; right = w.right; whole = w.long; values = f; gives = cc })
    (λ f. stop_next 5 len q (rw f at v)))
    (λ z. stop_next found.number len q (sym (((known_found 0 s).1 (eqb-false found.number 0 z)).stops p) ∙ e))

pub step-next : (s : List ℕ) (p : Profile) (len : ℕ) (q : Profile) → step s p ≡ next len q → 4 + len ≤ length s
step-next s p len q e = let t = step-taken s p len q e in omega arith

-- a step that is refused: the record was not found whole, for that number, or it was and its values are not right
pub stop_found : (r : List ℕ) (p : Profile) (n : ℕ) → step r p ≡ stop n
    → (((found_front 0 r).number ≡ n) × Unfound r n) ⊎ (((found_front 0 r).number ≡ 0) × (n ≡ 5))
stop_found r p n e =
    let f = found_front 0 r in
    let k = known_found 0 r in
    by_cases (eqb f.number 0)
    (λ a.
    let z = eqb-true f.number 0 a in
    let v = sym ((k.0 z).values p) ∙ e in
    by_cases (fits (number_at r 2) (body_of r))
    (λ b. stop_next n (number_at r 0) _ (sym (rw b at v)))
    (λ b. inr (z, sym (same 5 (rw b at v)))))
    (λ a.
    let u = k.1 (eqb-false f.number 0 a) in
    let q = same f.number (sym (u.stops p) ∙ e) in
    inl (q, rw q at u))
  where
    same : (m : ℕ) → stop m ≡ stop n → m ≡ n
    same m e = cc

-- with 2, 3, 4 or 5
pub stop_range : (r : List ℕ) (p : Profile) (n : ℕ) → step r p ≡ stop n → (2 ≤ n) × (n ≤ 5)
stop_range r p n e = by (stop_found r p n e)
  where
    by : (((found_front 0 r).number ≡ n) × Unfound r n) ⊎ (((found_front 0 r).number ≡ 0) × (n ≡ 5)) → (2 ≤ n) × (n ≤ 5)
    by (inl u) = (u.1.range.0, omega (arith, u.1.range.1))
    by (inr h) = (omega (arith, h.1), omega (arith, h.1))

-- ---- reading on: how far it goes

pub reached-end : (skip : ℕ) (p : Profile) → reached skip [] p ≡ record { number = 0; rest = []; profile = p }
unfolding reached
reached-end skip p = refl

pub reached_stop : (x : ℕ) (xs : List ℕ) (n : ℕ) (p : Profile) → step (x ∷ xs) p ≡ stop n
    → reached 0 (x ∷ xs) p ≡ record { number = n; rest = x ∷ xs; profile = p }
unfolding reached
reached_stop x xs n p e = rw (e, reached)

reached_skip : (ys rest : List ℕ) (p : Profile) → reached (length ys) (ys ++ rest) p ≡ reached 0 rest p
unfolding reached
reached_skip [] rest p = refl
reached_skip (y ∷ ys) rest p = reached_skip ys rest p

-- a record that is read, with whatever follows it, is passed over
pub reached_record : (r rest : List ℕ) (len : ℕ) (p q : Profile) → length r ≡ 4 + len → step (r ++ rest) p ≡ next len q
    → reached 0 (r ++ rest) p ≡ reached 0 rest q
unfolding reached
reached_record [] rest len p q e s = absurd (omega arith)
reached_record (x ∷ ys) rest len p q e s =
    let n : after_first len ≡ length ys = omega arith in
    rw (s, reached, n) (reached_skip ys rest q)

-- for a reader in code, whose s is what is left of the script
pub reached-next : (s : List ℕ) (len : ℕ) (p q : Profile) → step s p ≡ next len q → reached 0 s p ≡ reached 0 (drop (4 + len) s) q
reached-next s len p q e =
    let t = take-append-drop (4 + len) s in
    let l = length-take-le (4 + len) s (step-next s p len q e) in
    ap (λ (r : List ℕ). reached 0 r p) (sym t)
    ∙ reached_record (take (4 + len) s) (drop (4 + len) s) len p q l (ap (λ (r : List ℕ). step r p) t ∙ e)

-- what is left is the end of what there was
abbrev Ends : List ℕ → Type 0
Ends s = (skip : ℕ) (p : Profile) → drop (length s - length (reached skip s p).rest) s ≡ (reached skip s p).rest

-- of the end of xs: it is no longer, and the end of x ∷ xs
shorter : (xs rest : List ℕ) → drop (length xs - length rest) xs ≡ rest → length rest ≤ length xs
shorter xs rest e = omega (arith, ap length e, length-drop (length xs - length rest) xs)

ends_more : (x : ℕ) (xs rest : List ℕ) → drop (length xs - length rest) xs ≡ rest → drop (length (x ∷ xs) - length rest) (x ∷ xs) ≡ rest
ends_more x xs rest e =
    let k : length (x ∷ xs) - length rest ≡ suc (length xs - length rest) = omega (arith, shorter xs rest e) in
    rw k e

pub reached_ends : (s : List ℕ) → Ends s
unfolding reached
reached_ends [] skip p = refl
reached_ends (x ∷ xs) (suc skip) p = ends_more x xs (reached skip xs p).rest (reached_ends xs skip p)
reached_ends (x ∷ xs) zero p = go (reached_ends xs) (step (x ∷ xs) p) refl
  where
    go : Ends xs → (y : Stepped) → step (x ∷ xs) p ≡ y → drop (length (x ∷ xs) - length (reached 0 (x ∷ xs) p).rest) (x ∷ xs) ≡ (reached 0 (x ∷ xs) p).rest
    go ih (stop n) e = let k : length (x ∷ xs) - length (x ∷ xs) ≡ 0 = omega arith in rw (e, reached, k)
    go ih (next len q) e = rw (e, reached) (ends_more x xs (reached (after_first len) xs q).rest (ih (after_first len) q))

pub reached_inside : (s : List ℕ) (skip : ℕ) (p : Profile) → length (reached skip s p).rest ≤ length s
reached_inside s skip p = shorter s (reached skip s p).rest (reached_ends s skip p)

-- ---- reading on: the answer

-- the answer of reading s from an offset on, by how far that went
abbrev pub answered : ℕ → List ℕ → Reached → ReadAnswer
answered at s r = read_answer (verdict_at r.number (at + length s - length r.rest)) r.profile

abbrev Answers : List ℕ → Type 0
Answers s = (skip at : ℕ) (p : Profile) → records skip at s p ≡ answered at s (reached skip s p)

pub records-reached : (s : List ℕ) → Answers s
unfolding records reached
records-reached [] skip at p = refl
records-reached (x ∷ xs) zero at p = go (records-reached xs) (step (x ∷ xs) p) refl
  where
    go : Answers xs → (y : Stepped) → step (x ∷ xs) p ≡ y → records 0 at (x ∷ xs) p ≡ answered at (x ∷ xs) (reached 0 (x ∷ xs) p)
    go ih (stop n) e =
        let k : at + length (x ∷ xs) - length (x ∷ xs) ≡ at = omega arith in
        let z = ne_eqb n 0 (omega (arith, (stop_range (x ∷ xs) p n e).0)) in
        let v : verdict_at n at ≡ refused n at = rw z in
        rw (e, records, reached, k) (ap (λ (v : Verdict). read_answer v p) (sym v))
    go ih (next len q) e =
        let k : at + 1 + length xs ≡ at + length (x ∷ xs) = omega arith in
        rw (e, records, reached, ← k) (ih (after_first len) (at + 1) q)
records-reached (x ∷ xs) (suc skip) at p =
    let k : at + 1 + length xs ≡ at + length (x ∷ xs) = omega arith in
    rw (← k) (records-reached xs skip (at + 1) p)

-- by what code answers of how far it went
pub records_read : (s : List ℕ) (p : Profile) (at place : ℕ) (t : Gone) → t ≡ reached_answer s (reached 0 s p) → place ≡ at + t.next
    → read_answer (verdict_at t.number place) t.profile ≡ records 0 at s p
records_read s p at place t e k =
    let r = reached 0 s p in
    let m : at + (length s - length r.rest) ≡ at + length s - length r.rest = omega (arith, reached_inside s 0 p) in
    rw (k, e, m) (sym (records-reached s 0 at p))

-- what is read up to its end and what is read from there on, from an offset that fits, have one answer
pub reads_on : (at from : ℕ) (s t : List ℕ) (p q : Profile) → at + length s ≡ from + length t → reached 0 s p ≡ reached 0 t q
    → records 0 at s p ≡ records 0 from t q
reads_on at from s t p q k e = records-reached s 0 at p ∙ rw (k, e) (sym (records-reached t 0 from q))

pub read_record : (r rest : List ℕ) (at len : ℕ) (p q : Profile) → length r ≡ 4 + len → step (r ++ rest) p ≡ next len q
    → records 0 at (r ++ rest) p ≡ records 0 (at + length r) rest q
read_record r rest at len p q e s =
    reads_on at (at + length r) (r ++ rest) rest p q (omega (arith, length-append r rest)) (reached_record r rest len p q e s)

pub records_stop : (x : ℕ) (xs : List ℕ) (at n : ℕ) (p : Profile) → step (x ∷ xs) p ≡ stop n
    → records 0 at (x ∷ xs) p ≡ read_answer (refused n at) p
unfolding records
records_stop x xs at n p e = rw (e, records)

pub records_done : (skip at : ℕ) (p : Profile) → records skip at [] p ≡ read_answer accepted p
unfolding records
records_done skip at p = refl

-- ---- a piece of a script that takes p to q

pub record Takes (s : List ℕ) (p q : Profile) : Type 0 where
  pub on : (at : ℕ) (rest : List ℕ) → records 0 at (s ++ rest) p ≡ records 0 (at + length s) rest q

pub takes_record : {r : List ℕ} {p q : Profile} (len : ℕ) → length r ≡ 4 + len → ((rest : List ℕ) → step (r ++ rest) p ≡ next len q)
    → Takes r p q
takes_record {r} {p} {q} len e s = record { on = λ at rest. read_record r rest at len p q e (s rest) }

pub takes_none : {p q : Profile} → p ≡ q → Takes [] p q
takes_none e = record { on = λ at rest. rw (e, add-zero) }

pub takes_then : {s t : List ℕ} {p q r : Profile} → Takes s p q → Takes t q r → Takes (s ++ t) p r
takes_then {s} {t} {p} {q} {r} f g =
    record {
      on =
          λ at rest.
          rw append_assoc
          (f.on at (t ++ rest) ∙ g.on (at + length s) rest ∙ ap (λ (m : ℕ). records 0 m rest r) (simp length-append (omega arith)));
    }

-- what is written only where b holds
pub takes_cond : (b : Bool) {s : List ℕ} {p q : Profile} → (b ≡ true → Takes s p q) → (b ≡ false → p ≡ q) → Takes (cond b s []) p q
takes_cond true f g = f refl
takes_cond false f g = takes_none (g refl)

-- chunks, each of which takes the profile from one state to the next
pub takes_chunks : (n : ℕ) (f : ℕ → List ℕ) (st : ℕ → Profile) → ((i : ℕ) → i < n → Takes (f i) (st i) (st (suc i)))
    → Takes (chunks n f) (st 0) (st n)
unfolding chunks
takes_chunks zero f st h = takes_none refl
takes_chunks (suc n) f st h = takes_then (takes_chunks n f st (λ i l. h i (omega arith))) (h n (omega arith))

-- a whole script
pub takes_all : (s : List ℕ) (p q : Profile) → Takes s p q → records 0 0 s p ≡ read_answer accepted q
takes_all s p q f = ap (λ (l : List ℕ). records 0 0 l p) (sym (append-nil s)) ∙ f.on 0 [] ∙ records_done 0 (0 + length s) q

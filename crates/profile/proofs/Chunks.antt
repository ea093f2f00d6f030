-- The code of an upload: the record that is held is filled with the chunk's bytes, and the rest of the chunk is read where it stands. Each part is what the
-- definition says of the bytes held and the chunk put together.
-- Assumes nothing.
use Rattle.std.proofs.Common.{Option, Some, None}
use Rattle.std.specs.Option.{is_some}
use Rattle.std.proofs.lemmas.List.{take_rest}
use mathlib.Core.Path.{◌≡◌, refl, sym, ap, ◌∙◌}
use mathlib.Core.Bool.{Bool, true, false, not, ◌&&◌, ◌||◌, false≢true}
use mathlib.Core.List.{List, [], ◌∷◌, ◌++◌, append-nil}
use Prim.Native.Nat.{ℕ, suc, ◌+◌, ◌-◌, ◌≤◌, ◌<◌, max}
use native.Mathlib.Nat.{add-zero}
use native.Mathlib.Numerals.{add-one}
use native.Mathlib.Omega.{arith}
use borrow.Author.Tests.{ltb-true, ltb-false, le-ltb, leb-true, le-leb, eqb-true, eqb-false, ne_eqb}
use lib.Dec.{ltb, leb, eqb}
use lib.ListN.{length, get_or, set, take, drop, length-set, length-append, length-take, length-drop, take-append-drop}
use lib.Seq.{drop-nil, drop-drop, drop-cons, drop-set-lt, take-suc-set, length-take-le, take-append_seam, append_snoc}
use Rattle.profile.specs.Values.{empty_profile, refused, read_answer}
use Rattle.profile.specs.Script.{Stepped, most_bytes, stop, next, step, judged}
use Rattle.profile.specs.Upload.{stopped_at, upload, held_bytes, larger, arrived, is_refused, Reached, reached, waiting, refused_at, waits, read_on, counted, take_chunk, records_with, read_with, upload_answer}
use Rattle.profile.specs.Refusals.{verdict_of}
use Rattle.profile.specs.Reading.{Gone, verdict_at, reached_answer, cut_front, filled, filled_answer, filled_arrival, held_refusal}
use Rattle.profile.specs.declared.Profile.{Profile}
use Rattle.profile.specs.Values.{ReadAnswer}
use Rattle.profile.specs.declared.Ruleset.{Ruleset}
use Rattle.profile.specs.declared.refusal.Refusal.{Refusal}
use Rattle.profile.specs.declared.refusal.Refusal.TheVariants as refusal
use Rattle.profile.specs.declared.upload.Arrival.{Arrival}
use Rattle.profile.specs.declared.upload.Filled.{Filled}
use Rattle.profile.specs.declared.upload.Upload.{Upload}
use Rattle.profile.proofs.Laws.{by_cases, and_left, and_right, and_not}
use Rattle.profile.proofs.Takes.{step-taken, stop_range, reached-end, reached_stop, reached_record, reached_ends, reached_inside, records_read}
use Rattle.profile.proofs.Cut.{cut_few, step-front, cut_stop, uncut, cut_next, cut_step, cut_nothing, cut_more, Short}
use Rattle.profile.proofs.Uploads.{held-front, held_inside, held_short, rest_cut, chunk_counted, chunk_read, unrefused, too_long}

-- ---- a record with as many bytes of a chunk as it waits for

pub filled_none : (h : List ℕ) → filled h [] ≡ h
unfolding filled
filled_none h = refl

pub filled_more : (h : List ℕ) (x : ℕ) (xs : List ℕ) → cut_front h ≡ true → filled h (x ∷ xs) ≡ filled (h ++ x ∷ []) xs
unfolding filled
filled_more h x xs e = rw e

pub filled_whole : (h c : List ℕ) → cut_front h ≡ false → filled h c ≡ h
unfolding filled
filled_whole h [] e = refl
filled_whole h (x ∷ xs) e = rw e

-- what is true of a record that waits, with a byte more, and of one that does not, is true of it filled
filled-case : (P : List ℕ → List ℕ → List ℕ → Type 0) → ((h : List ℕ) → P h [] h)
    → ((h : List ℕ) (x : ℕ) (xs : List ℕ) → cut_front h ≡ true → P (h ++ x ∷ []) xs (filled (h ++ x ∷ []) xs) → P h (x ∷ xs) (filled (h ++ x ∷ []) xs))
    → ((h c : List ℕ) → cut_front h ≡ false → P h c h)
    → (c h : List ℕ) → P h c (filled h c)
filled-case P none more whole [] h = rw filled_none (none h)
filled-case P none more whole (x ∷ xs) h =
    by_cases (cut_front h)
    (λ e. rw (filled_more h x xs e) (more h x xs e (filled-case P none more whole xs (h ++ x ∷ []))))
    (λ e. rw (filled_whole h (x ∷ xs) e) (whole h (x ∷ xs) e))

-- it begins what was held and came, and the rest of what came is behind it
abbrev Splits : List ℕ → List ℕ → List ℕ → Type 0
Splits h c f = (length h ≤ length f) × (f ++ drop (length f - length h) c ≡ h ++ c)

pub filled_split : (c h : List ℕ) → Splits h c (filled h c)
filled_split =
    filled-case Splits
    (λ h. (omega arith, rw drop-nil))
    (λ h x xs e ih.
    let f = filled (h ++ x ∷ []) xs in
    let m = length-append h (x ∷ []) in
    let l = ih.0 in
    let k : length f - length h ≡ suc (length f - length (h ++ x ∷ [])) = omega arith in
    (omega arith, rw k (ih.1 ∙ append_snoc h x xs)))
    (λ h c e. let k : length h - length h ≡ 0 = omega arith in (omega arith, rw k))

-- where it is still cut, all of it came
abbrev Came : List ℕ → List ℕ → List ℕ → Type 0
Came h c f = cut_front f ≡ true → f ≡ h ++ c

pub filled_cut : (c h : List ℕ) → Came h c (filled h c)
filled_cut =
    filled-case Came
    (λ h t. sym (append-nil h))
    (λ h x xs e ih t. ih t ∙ append_snoc h x xs)
    (λ h c e t. absurd (false≢true (sym e ∙ t)))

-- of bytes that are cut, each front is
front_cut : (h c : List ℕ) → cut_front (h ++ c) ≡ true → cut_front h ≡ true
front_cut h c t =
    by_cases (cut_front h)
    (λ e. e)
    (λ e. cut_stop h empty_profile 2 (sym (step-front h c empty_profile (uncut h empty_profile e)) ∙ cut_step (h ++ c) empty_profile t))

abbrev All : List ℕ → List ℕ → List ℕ → Type 0
All h c f = cut_front (h ++ c) ≡ true → f ≡ h ++ c

pub filled-all : (c h : List ℕ) → All h c (filled h c)
filled-all =
    filled-case All
    (λ h t. sym (append-nil h))
    (λ h x xs e ih t. ih (rw (append_snoc h x xs) t) ∙ append_snoc h x xs)
    (λ h c e t. absurd (false≢true (sym e ∙ front_cut h c t)))

abbrev Shorter : List ℕ → List ℕ → List ℕ → Type 0
Shorter h c f = Short h → Short f

pub filled_short : (c h : List ℕ) → Shorter h c (filled h c)
filled_short = filled-case Shorter (λ h s. s) (λ h x xs e ih s. ih (cut_more h x e)) (λ h c e s. s)

-- in code: the bytes so far stand in front of what stood there, and the rest of the chunk fills them as the whole fills those held
pub record Filling (old h c bytes : List ℕ) (held : ℕ) (rest : List ℕ) : Type 0 where
  pub size : length bytes ≡ 58
  pub room : held ≤ 58
  pub back : drop held bytes ≡ drop held old
  pub same : filled (take held bytes) rest ≡ filled h c

pub filling_none : (old c : List ℕ) (count : ℕ) → length old ≡ 58 → count ≤ 58 → Filling old (take count old) c old count c
filling_none old c count e h = record { size = e; room = h; back = refl; same = refl }

module _ {old h c bytes : List ℕ} {held : ℕ} {rest : List ℕ} (f : Filling old h c bytes held rest) where
  filling_length : length (take held bytes) ≡ held
  filling_length = length-take-le held bytes (omega (arith, f.size, f.room))

  pub filling_room : cut_front (take held bytes) ≡ true → held < 58
  filling_room e = omega (arith, (cut_few (take held bytes) e).1, filling_length)

  -- what it is filled with is in the room
  filling_told : take held bytes ≡ filled h c → (b : Bool) → b ≡ cut_front (take held bytes)
      → record { held = held; bytes = bytes; cut = b } ≡ filled_answer old (filled h c)
  filling_told e b q =
      let k = filling_length in
      let w : take held bytes ++ drop held old ≡ bytes = rw (← f.back) (take-append-drop held bytes) in
      rw (← e, k, w, q)

  pub filling_whole : cut_front (take held bytes) ≡ false → record { held = held; bytes = bytes; cut = false } ≡ filled_answer old (filled h c)
  filling_whole e = filling_told (sym (filled_whole (take held bytes) rest e) ∙ f.same) false (sym e)

  pub filling_all : rest ≡ [] → (b : Bool) → b ≡ cut_front (take held bytes) → record { held = held; bytes = bytes; cut = b } ≡ filled_answer old (filled h c)
  filling_all z b e = filling_told (sym (filled_none (take held bytes)) ∙ (rw z at f.same)) b e

pub filling_more : {old h c bytes : List ℕ} {held : ℕ} (chunk : List ℕ) (i : ℕ) → Filling old h c bytes held (drop i chunk) → i < length chunk
    → cut_front (take held bytes) ≡ true → Filling old h c (set bytes held (get_or chunk i 0)) (held + 1) (drop (i + 1) chunk)
filling_more {old} {h} {c} {bytes} {held} chunk i f l e =
    let r = filling_room f e in
    let t : take (held + 1) (set bytes held (get_or chunk i 0)) ≡ take held bytes ++ get_or chunk i 0 ∷ [] =
    rw add-one (take-suc-set bytes held (get_or chunk i 0) (omega (arith, f.size))) in
    record {
      size = length-set bytes held (get_or chunk i 0) ∙ f.size;
      room = omega arith;
      back =
          drop-set-lt (held + 1) bytes held (get_or chunk i 0) (omega arith)
          ∙ sym (drop-drop 1 held bytes) ∙ ap (drop 1) f.back ∙ drop-drop 1 held old;
      same =
          rw (t, add-one)
          (sym (filled_more (take held bytes) (get_or chunk i 0) (drop (suc i) chunk) e) ∙ (rw (drop-cons chunk i 0 l) at f.same));
    }

-- ---- a record in parts, as code takes it

reached_whole : (r s : List ℕ) (n : ℕ) (p : Profile) → cut_front r ≡ false → step r p ≡ stop n
    → reached 0 (r ++ s) p ≡ record { number = n; rest = r ++ s; profile = p }
reached_whole [] s n p c e = absurd (false≢true (sym c ∙ cut_nothing))
reached_whole (x ∷ xs) s n p c e = reached_stop x (xs ++ s) n p (step-front (x ∷ xs) s p (uncut (x ∷ xs) p c) ∙ e)

-- it was taken, whole
pub record Took (f : List ℕ) (p : Profile) (t : Gone) : Type 0 where
  pub len : ℕ
  pub long : length f ≡ 4 + len
  pub took : step f p ≡ next len t.profile

-- what reading one record says of it
pub record Judged (f : List ℕ) (p : Profile) (t : Gone) : Type 0 where
  pub taken : t.number ≡ 0 → Took f p t
  pub refused : (t.number ≡ 0 → ⊥) → step f p ≡ stop t.number

one_judged : (f : List ℕ) (p : Profile) (t : Gone) → t ≡ reached_answer f (reached 0 f p) → Short f → cut_front f ≡ false → Judged f p t
one_judged f p t e s c = go (step f p) refl
  where
    nil : f ++ [] ≡ f
    nil = append-nil f

    go : (x : Stepped) → step f p ≡ x → Judged f p t
    go (stop n) q =
        let r = rw nil at (reached_whole f [] n p c q) in
        let k = stop_range f p n q in
        let m : t.number ≡ n = rw (e, r) in
        record { taken = λ z. absurd (omega (arith, k.0, m)); refused = λ z. rw m q }
    go (next len q) h =
        let k = step-taken f p len q h in
        let l : length f ≡ 4 + len = omega arith in
        let r = rw nil at (reached_record f [] len p q l (rw nil h)) in
        let m : t.number ≡ 0 = rw (e, r, reached-end 0 q) in
        let g : t.profile ≡ q = rw (e, r, reached-end 0 q) in
        record { taken = λ z. record { len = len; long = l; took = rw g h }; refused = λ z. absurd (z m) }

module _ (total : ℕ) (old : List ℕ) (p : Profile) where
  -- bytes that are cut are waited with
  pub reads_cut : (s : List ℕ) → cut_front s ≡ true → read_on total old (reached 0 s p) ≡ upload (waiting total s old) p
  reads_cut [] c = rw (reached-end 0 p)
  reads_cut (x ∷ xs) c = rw (reached_stop x xs 2 p (cut_step (x ∷ xs) p c))

  module _ (h c : List ℕ) where
    abbrev f : List ℕ
    f = filled h c

    abbrev behind : List ℕ
    behind = drop (length f - length h) c

    pub reads-refused : (n : ℕ) → cut_front f ≡ false → step f p ≡ stop n
        → read_on total old (reached 0 (h ++ c) p) ≡ upload (refused_at total n (total - length (h ++ c)) old) p
    reads-refused n e t =
        let r = reached_whole f behind n p e t in
        let k = stop_range f p n t in
        let z = ne_eqb n 0 (omega (arith, k.0)) in
        let y : eqb n 2 ≡ false = sym (cut_stop f p n t) ∙ e in
        rw (← (filled_split c h).1, r, z, y)

    pub reads-taken : (len : ℕ) (q : Profile) → length f ≡ 4 + len → step f p ≡ next len q → reached 0 (h ++ c) p ≡ reached 0 behind q
    reads-taken len q l t =
        rw (← (filled_split c h).1) (reached_record f behind len p q l (step-front f behind p (uncut f p (cut_next f p len q t)) ∙ t))

-- ---- how many bytes have come

over-counted : (total : ℕ) → ltb most_bytes (counted total) ≡ not (leb total most_bytes)
over-counted total =
    by_cases (leb total most_bytes)
    (λ e. rw e (le-ltb most_bytes total (leb-true total most_bytes e)))
    (λ e. rw e)

-- ---- where the chunk's records stop

pub stopped_waits : (total : ℕ) (old s : List ℕ) (number at : ℕ) → waits number ≡ true → cut_front (drop at s) ≡ true → (f : Filled)
    → f ≡ filled_answer old (filled [] (take (length s - at) (drop at s))) → filled_arrival total f ≡ stopped_at total old number (drop at s)
stopped_waits total old s number at q c f g = rw (g, take_rest, filled-all (drop at s) [] c, q)

-- the chunk's records from an offset on, by what code answers of how far they go
module _ (s : List ℕ) (from : ℕ) (p : Profile) (l : from ≤ length s) (t : Gone) (e : t ≡ reached_answer s (reached 0 (drop from s) p)) where
  abbrev r : Reached
  r = reached 0 (drop from s) p

  rest_few : length r.rest ≤ length s - from
  rest_few = omega (arith, reached_inside (drop from s) 0 p, length-drop from s)

  pub rest_inside : t.next ≤ length s
  rest_inside = rw e (omega arith)

  rest_there : drop t.next s ≡ r.rest
  rest_there =
      let k : length s - length r.rest ≡ from + (length (drop from s) - length r.rest) = omega (arith, rest_few, length-drop from s) in
      rw (e, k, ← drop-drop (length (drop from s) - length r.rest) from s) (reached_ends (drop from s) 0 p)

  pub rest-waits : waits t.number ≡ true → cut_front (drop t.next s) ≡ true
  rest-waits q = rw rest_there (rest_cut (drop from s) p (rw e at q))

  pub rest_read : (total : ℕ) (old : List ℕ) → upload (stopped_at total old t.number (drop t.next s)) t.profile ≡ read_on total old r
  rest_read total old = rw (rest_there, e)

-- ---- a chunk, by the tests in code

larger_max : (a b : ℕ) → larger a b ≡ max a b
larger_max a b = by_cases (ltb a b) (λ e. rw e (omega (arith, ltb-true a b e))) (λ e. rw e (omega (arith, ltb-false a b e)))

-- what is known of a state in code: how many bytes it holds, and how many have come
pub record Stands (u : Upload) (held before : ℕ) : Type 0 where
  pub holds : held ≡ length (held_bytes u.arrival)
  pub came : before ≡ max u.arrival.length held

pub stands : (u : Upload) {held before : ℕ} → held ≡ length (held_bytes u.arrival) → before ≡ max u.arrival.length held → Stands u held before
stands u h b = record { holds = h; came = b }

module _ {u : Upload} {held before : ℕ} (k : Stands u held before) where
  stands_arrived : arrived u.arrival ≡ before
  stands_arrived = larger_max u.arrival.length (length (held_bytes u.arrival)) ∙ rw (k.came, k.holds)

  pub stands_below : held ≤ before
  stands_below = omega (arith, k.came)

  pub stands_inside : held ≤ length u.arrival.bytes
  stands_inside = rw k.holds (held_inside u.arrival)

  pub stands_next : {t : Gone}
      → t ≡ reached_answer (take held u.arrival.bytes) (reached 0 (drop 0 (take held u.arrival.bytes)) u.profile) → t.next ≤ held
  stands_next e = rw e (omega (arith, length-take held u.arrival.bytes))

-- a refusal that is held, by its number and its place
pub held_some : (a : Arrival) (r : Refusal) → Some r ≡ held_refusal a → (is_refused a.number ≡ true) × (verdict_of r ≡ refused a.number a.place)
held_some a r e =
    by_cases (eqb a.number 3)
    (λ q. let z : r ≡ refusal.UnknownKind a.place = some_is (rw q at e) in rw (z, eqb-true a.number 3 q) (refl, refl))
    (λ q3.
    by_cases (eqb a.number 4)
    (λ q. let z : r ≡ refusal.WrongLength a.place = some_is (rw (q3, q) at e) in rw (z, eqb-true a.number 4 q) (refl, refl))
    (λ q4.
    by_cases (eqb a.number 5)
    (λ q. let z : r ≡ refusal.OutOfRange a.place = some_is (rw (q3, q4, q) at e) in rw (z, eqb-true a.number 5 q) (refl, refl))
    (λ q5. absurd (none_some (rw (q3, q4, q5) at e)))))
  where
    some_is : {x y : Refusal} → Some x ≡ Some y → x ≡ y
    some_is e = cc

    none_some : {x : Refusal} → Some x ≡ None → ⊥
    none_some e = cc

pub held_none : (a : Arrival) → None ≡ held_refusal a → is_refused a.number ≡ false
held_none a e =
    by_cases (is_refused a.number)
    (λ q.
    let low = leb-true 3 a.number (and_left (leb 3 a.number) _ q) in
    let high = leb-true a.number 5 (and_right (leb 3 a.number) _ q) in
    absurd
    (by_cases (eqb a.number 3)
    (λ q3. no (rw q3 at e))
    (λ q3.
    by_cases (eqb a.number 4)
    (λ q4. no (rw (q3, q4) at e))
    (λ q4.
    by_cases (eqb a.number 5)
    (λ q5. no (rw (q3, q4, q5) at e))
    (λ q5. omega (arith, eqb-false a.number 3 q3, eqb-false a.number 4 q4, eqb-false a.number 5 q5))))))
    (λ q. q)
  where
    no : {x : Refusal} → None ≡ Some x → ⊥
    no e = cc

pub held_told : (a : Arrival) (r : Option Refusal) → r ≡ held_refusal a → is_some r ≡ is_refused a.number
held_told a None e = sym (held_none a e)
held_told a (Some r) e = sym (held_some a r e).0

-- and when a chunk is taken: how many have come with it, and whether a refusal is held
pub record Fed (u : Upload) (c : List ℕ) (held before total : ℕ) (refuses : Bool) : Type 0 where
  pub stands : Stands u held before
  pub comes : total ≡ counted (before + length c)
  pub told : refuses ≡ is_refused u.arrival.number

pub fed : (u : Upload) (c : List ℕ) {held before total : ℕ} {r : Option Refusal} {refuses : Bool} → held ≡ length (held_bytes u.arrival)
    → before ≡ max u.arrival.length held → total ≡ counted (before + length c) → r ≡ held_refusal u.arrival → refuses ≡ is_some r
    → Fed u c held before total refuses
fed u c {r = r} h b t e s =
    record { stands = stands u h b; comes = t; told = s ∙ held_told u.arrival r e }

-- the same where the state itself is asked whether a refusal is held
pub fed_on : (u : Upload) (c : List ℕ) {held before total : ℕ} → held ≡ length (held_bytes u.arrival) → before ≡ max u.arrival.length held
    → total ≡ counted (before + length c) → Fed u c held before total (is_refused u.arrival.number)
fed_on u c h b t = record { stands = stands u h b; comes = t; told = refl }

module _ {u : Upload} {c : List ℕ} {held before total : ℕ} {refuses : Bool} (k : Fed u c held before total refuses) where
  abbrev at : Arrival
  at = u.arrival

  abbrev all : ℕ
  all = arrived at + length c

  total_is : total ≡ counted all
  total_is = rw (sym (stands_arrived k.stands)) at k.comes

  pub test_is : ltb most_bytes (counted all) || is_refused at.number ≡ ltb most_bytes total || refuses
  test_is = rw (total_is, k.told) refl

  -- the test in code, and the definition's
  tested : (b : Bool) → ltb most_bytes total || refuses ≡ b → leb all most_bytes && not (is_refused at.number) ≡ not b
  tested b o =
      let e : not (leb all most_bytes) || is_refused at.number ≡ b = rw (← over-counted all, ← total_is, ← k.told) o in
      and_not (leb all most_bytes) (is_refused at.number) ∙ ap not e

  pub take_counted : ltb most_bytes total || refuses ≡ true
      → upload (record { length = total; number = at.number; place = at.place; held = at.held; bytes = at.bytes }) u.profile ≡ take_chunk u c
  take_counted o = rw total_is (sym (chunk_counted u c (tested true o)))

  module _ (o : ltb most_bytes total || refuses ≡ false) where
    total-all : total ≡ all
    total-all = total_is ∙ rw (and_left (leb all most_bytes) _ (tested false o))

    pub take-few : length c ≤ total
    take-few = omega (arith, total-all)

    reads : take_chunk u c ≡ read_on total at.bytes (reached 0 (held_bytes at ++ c) u.profile)
    reads =
        chunk_read u c (tested false o)
        ∙ ap (λ (n : ℕ). read_on n at.bytes (reached 0 (held_bytes at ++ c) u.profile)) (sym total-all)

    pub front-filled : {f : Filled} → f ≡ filled_answer at.bytes (filled (held_bytes at) c)
        → f ≡ filled_answer at.bytes (filled (take held at.bytes) (drop 0 c))
    front-filled e = rw (k.stands.holds, held-front at) e

    module _ {f : Filled} (ef : f ≡ filled_answer at.bytes (filled (take held at.bytes) (drop 0 c))) where
      abbrev front : List ℕ
      front = filled (held_bytes at) c

      pub front-is : f ≡ filled_answer at.bytes front
      front-is = rw (k.stands.holds, held-front at) at ef

      pub take-waits : f.cut ≡ true → upload (filled_arrival total f) u.profile ≡ take_chunk u c
      take-waits q =
          let q' : cut_front front ≡ true = rw front-is at q in
          rw (front-is, filled_cut c (held_bytes at) q')
          (sym (reads ∙ reads_cut total at.bytes u.profile (held_bytes at ++ c) (rw (filled_cut c (held_bytes at) q') at q')))

      pub part-inside : f.held ≤ length f.bytes
      part-inside = rw front-is (omega (arith, length-append front (drop (length front) at.bytes)))

      part_is : take f.held f.bytes ≡ front
      part_is = rw front-is (take-append_seam front (drop (length front) at.bytes))

      pub part-longer : (held ≤ f.held) × (f.held - held ≤ length c)
      part-longer =
          let i = filled_split c (held_bytes at) in
          let d = ap length i.1 in
          let m = length-append front (drop (length front - length (held_bytes at)) c) in
          let n = length-append (held_bytes at) c in
          rw (front-is, k.stands.holds) (i.0, omega arith)

      module _ {t : Gone}
          (e : t ≡ reached_answer (take f.held f.bytes) (reached 0 (drop 0 (take f.held f.bytes)) u.profile))
          (q : f.cut ≡ false) where
        front-whole : cut_front front ≡ false
        front-whole = rw front-is at q

        judged-front : Judged front u.profile t
        judged-front =
            let e' : t ≡ reached_answer front (reached 0 front u.profile) = rw part_is at e in
            one_judged front u.profile t e' (filled_short c (held_bytes at) (held_short at)) front-whole

        pub take-refused : (t.number ≡ 0 → ⊥) → upload (refused_at total t.number (before - held) at.bytes) u.profile ≡ take_chunk u c
        take-refused z =
            let i : total - length (held_bytes at ++ c) ≡ before - held =
            omega (arith, total-all, stands_arrived k.stands, k.stands.holds, length-append (held_bytes at) c) in
            rw (← i) (sym (reads ∙ reads-refused total at.bytes u.profile (held_bytes at) c t.number front-whole (judged-front.refused z)))

        pub take-read : t.number ≡ 0 → read_on total at.bytes (reached 0 (drop (f.held - held) c) t.profile) ≡ take_chunk u c
        take-read z =
            let m = judged-front.taken z in
            let i = reads-taken total at.bytes u.profile (held_bytes at) c m.len t.profile m.long m.took in
            rw (front-is, k.stands.holds, ← i) (sym reads)

-- ---- the answer, by the tests in code

module _ (rules : Ruleset) where
  judged-refused : (r : ReadAnswer) → (r.verdict.number ≡ 0 → ⊥) → judged rules r ≡ r
  judged-refused r h = rw (ne_eqb r.verdict.number 0 h)

  module _ {u : Upload} {held total : ℕ} (k : Stands u held total) where
    pub answer-long : most_bytes < total → read_answer (refused 1 0) empty_profile ≡ upload_answer rules u
    answer-long h = sym (too_long rules u [] (omega (arith, stands_arrived k)))

    module _ (few : total ≤ most_bytes) where
      answer-few : judged rules (records_with u []) ≡ upload_answer rules u
      unfolding read_with
      answer-few = rw (add-zero, le-leb (arrived u.arrival) most_bytes (omega (arith, stands_arrived k)))

      pub answer_refused : is_refused u.arrival.number ≡ true → read_answer (refused u.arrival.number u.arrival.place) u.profile ≡ upload_answer rules u
      answer_refused r =
          let n = leb-true 3 u.arrival.number (and_left (leb 3 u.arrival.number) _ r) in
          let a = read_answer (refused u.arrival.number u.arrival.place) u.profile in
          let e : records_with u [] ≡ a = rw r in
          sym (judged-refused a (omega arith)) ∙ ap (judged rules) (sym e) ∙ answer-few

      module _ {t : Gone}
          (e : t ≡ reached_answer (take held u.arrival.bytes) (reached 0 (drop 0 (take held u.arrival.bytes)) u.profile)) where
        pub answer-read : is_refused u.arrival.number ≡ false
            → judged rules (read_answer (verdict_at t.number (total - held + t.next)) t.profile) ≡ upload_answer rules u
        answer-read q =
            let h = held_bytes u.arrival in
            let e' : t ≡ reached_answer h (reached 0 h u.profile) = rw (k.holds, held-front u.arrival) at e in
            let p : total - held + t.next ≡ arrived u.arrival - length h + t.next = omega (arith, k.holds, stands_arrived k) in
            ap (judged rules)
            (records_read h u.profile (arrived u.arrival - length h) (total - held + t.next) t e' p
            ∙ sym (unrefused u [] q ∙ rw append-nil))
            ∙ answer-few

-- The record at an offset: which answer its tests give, and what a step over it leaves.
-- Assumes nothing.
use Rattle.std.proofs.Common.{Option, Some, None, Result, Ok, Err}
use mathlib.Core.Path.{◌≡◌, refl, sym, ap, ◌∙◌}
use mathlib.Core.Bool.{true, false}
use mathlib.Core.List.{List}
use Prim.Native.Nat.{ℕ, zero, suc, ◌+◌, ◌-◌, ◌≤◌, ◌<◌}
use native.Mathlib.Nat.{add-zero}
use native.Mathlib.Omega.{arith}
use borrow.Author.Tests.{lt-ltb, le-ltb, ne_eqb, le-leb, lt-leb}
use lib.Dec.{ltb}
use lib.ListN.{length, get_or, take, drop, length-take, length-drop, drop_of_length-le}
use lib.Seq.{get_or-drop, drop-drop, drop-cons}
use Rattle.profile.specs.Bytes.{number_at}
use Rattle.profile.specs.Script.{known, allowed, fits, with_record, body_of, Stepped, stop, next, step}
use Rattle.profile.specs.Upload.{reached}
use Rattle.profile.specs.Reading.{when, kind_number, kind_of, fault_number, Sought, unfound, found_front, found_at, Gone, step_answer, reached_answer}
use Rattle.profile.specs.declared.Profile.{Profile}
use Rattle.profile.specs.declared.records.Kind.{Kind}
use Rattle.profile.specs.declared.records.Fault.{Fault}
use Rattle.profile.specs.declared.records.Fault.TheVariants.{Cut, UnknownKind, WrongLength, OutOfRange}
use Rattle.profile.proofs.Readers.{when_none, when_some}
use Rattle.profile.proofs.Takes.{Whole, known_found, step-next, stop_range, reached-next, reached_stop, reached-end}

-- ---- which answer

-- a number of the rest of a script from an offset on
number_rest : (s : List ℕ) (at k : ℕ) → number_at (drop at s) k ≡ number_at s (at + k)
number_rest s at k =
    let e : at + (k + 1) ≡ at + k + 1 = omega arith in
    rw (get_or-drop at s k 0, get_or-drop at s (k + 1) 0, e)

-- the kind of a number
kind_past : (n : ℕ) → 6 < n → (known n ≡ false) × (kind_of n ≡ Err UnknownKind)
kind_past n h = (
  rw (le-leb 1 n (omega arith), lt-leb n 6 h),
  simp (
    ne_eqb n 1 (omega arith),
    ne_eqb n 2 (omega arith),
    ne_eqb n 3 (omega arith),
    ne_eqb n 4 (omega arith),
    ne_eqb n 5 (omega arith),
    ne_eqb n 6 (omega arith),
  ),
)

ok_err : {k : Kind} {f : Fault} → ◌≡◌ {A = Result Kind Fault} (Ok k) (Err f) → ⊥
ok_err e = cc

named : {j k : Kind} → ◌≡◌ {A = Result Kind Fault} (Ok k) (Ok j) → kind_number k ≡ kind_number j
named {j} {k} e = let q : k ≡ j = cc in rw q

kind_yes : (n : ℕ) {k : Kind} → Ok k ≡ kind_of n → (known n ≡ true) × (kind_number k ≡ n)
kind_yes zero e = cc
kind_yes (suc zero) e = (refl, named e)
kind_yes (suc (suc zero)) e = (refl, named e)
kind_yes (suc (suc (suc zero))) e = (refl, named e)
kind_yes (suc (suc (suc (suc zero)))) e = (refl, named e)
kind_yes (suc (suc (suc (suc (suc zero))))) e = (refl, named e)
kind_yes (suc (suc (suc (suc (suc (suc zero)))))) e = (refl, named e)
kind_yes (suc (suc (suc (suc (suc (suc (suc n))))))) e = let m = kind_past (suc (suc (suc (suc (suc (suc (suc n))))))) (omega arith) in absurd (ok_err (e ∙ m.1))

kind_no : (n : ℕ) {f : Fault} → Err f ≡ kind_of n → (known n ≡ false) × (f ≡ UnknownKind)
kind_no zero e = (refl, cc)
kind_no (suc zero) e = cc
kind_no (suc (suc zero)) e = cc
kind_no (suc (suc (suc zero))) e = cc
kind_no (suc (suc (suc (suc zero)))) e = cc
kind_no (suc (suc (suc (suc (suc zero))))) e = cc
kind_no (suc (suc (suc (suc (suc (suc zero)))))) e = cc
kind_no (suc (suc (suc (suc (suc (suc (suc n))))))) e = let m = kind_past (suc (suc (suc (suc (suc (suc (suc n))))))) (omega arith) in (m.0, cc)

-- each answer, in the order of the tests
module _ (s : List ℕ) (at : ℕ) {rest : ℕ} (left : rest ≡ length s - at) where
  long : length (drop at s) ≡ rest
  long = length-drop at s ∙ sym left

  pub no_header : rest < 4 → unfound 2 ≡ found_at s at
  unfolding found_front
  no_header h = rw (long, lt-ltb rest 4 h)

  module _ (four : 4 ≤ rest) {size number : ℕ} (ez : size ≡ number_at s at) (en : number ≡ number_at s (at + 2)) where
    header : ltb rest 4 ≡ false
    header = le-ltb rest 4 four

    size-rest : number_at (drop at s) 0 ≡ size
    size-rest = number_rest s at 0 ∙ rw add-zero (sym ez)

    kind-rest : number_at (drop at s) 2 ≡ number
    kind-rest = number_rest s at 2 ∙ sym en

    pub kind_unknown : {f : Fault} → Err f ≡ kind_of number → unfound (fault_number f) ≡ found_at s at
    unfolding found_front
    kind_unknown e = let k = kind_no number e in rw (k.1, long, header, kind-rest, k.0)

    module _ {kind : Kind} (e : Ok kind ≡ kind_of number) where
      abbrev known-is : (known number ≡ true) × (kind_number kind ≡ number)
      known-is = kind_yes number e

      pub length_wrong : allowed (kind_number kind) size ≡ false → unfound 4 ≡ found_at s at
      unfolding found_front
      length_wrong f = rw (long, header, kind-rest, size-rest, known-is.0, ← known-is.1, f)

      module _ (f : allowed (kind_number kind) size ≡ true) where
        pub body_cut : rest < 4 + size → unfound 2 ≡ found_at s at
        unfolding found_front
        body_cut h = rw (long, header, kind-rest, size-rest, known-is.0, ← known-is.1, f, lt-ltb rest (4 + size) h)

        pub body-found : 4 + size ≤ rest
            → record { number = 0; kind = kind_number kind; start = at + 4; end = at + (4 + size) } ≡ found_at s at
        unfolding found_front
        body-found h = rw (long, header, kind-rest, size-rest, known-is.0, ← known-is.1, f, le-ltb rest (4 + size) h)

-- ---- one record put into a profile

module _ (s : List ℕ) (at : ℕ) (f : Sought) (e : f ≡ found_at s at) where
  abbrev rest : List ℕ
  rest = drop at s

  pub whole_of : f.number ≡ 0 → Whole at rest f
  whole_of z = rw e ((known_found at rest).0 (rw e at z))

  module _ (z : f.number ≡ 0) where
    size : f.end - f.start ≡ number_at rest 0
    size = let w = whole_of z in omega arith

    pub part-ordered : f.start ≤ f.end
    part-ordered = let w = whole_of z in omega arith

    pub part-inside : f.end ≤ length s
    part-inside = let w = whole_of z in omega (arith, length-drop at s)

    part_body : take (f.end - f.start) (drop f.start s) ≡ body_of rest
    part_body = rw (size, (whole_of z).start, drop-drop 4 at s)

    pub part-allowed : allowed f.kind (length (take (f.end - f.start) (drop f.start s))) ≡ true
    part-allowed =
        let w = whole_of z in
        let n : length (body_of rest) ≡ number_at rest 0 = simp (length-take, length-drop) (omega (arith, length-drop at s)) in
        rw (part_body, n, w.kind) w.right

  pub step-stopped : (f.number ≡ 0 → ⊥) → (p : Profile) → step rest p ≡ stop f.number
  step-stopped n p = rw e (((known_found at rest).1 (rw e at n)).stops p)

  module _ (p : Profile) where
    module _ (z : f.number ≡ 0) where
      -- what is read of the body
      abbrev Read : Option Profile → Type 0
      Read t =
          t
          ≡ when (fits f.kind (take (f.end - f.start) (drop f.start s)))
          (with_record f.kind (take (f.end - f.start) (drop f.start s)) p)

      body : {t : Option Profile} → Read t → t ≡ when (fits (number_at rest 2) (body_of rest)) (with_record (number_at rest 2) (body_of rest) p)
      body b = rw (part_body z, (whole_of z).kind) at b

      pub step-unfit : Read None → record { number = 5; next = at; profile = p } ≡ step_answer at p (step rest p)
      step-unfit b =
          let n = when_none (fits (number_at rest 2) (body_of rest)) _ (body b) in
          rw ((whole_of z).values p, n)

      pub step-next-on : {q : Profile} → Read (Some q) → record { number = 0; next = f.end; profile = q } ≡ step_answer at p (step rest p)
      step-next-on b =
          let n = when_some (fits (number_at rest 2) (body_of rest)) (body b) in
          rw ((whole_of z).values p, n.0, n.1, (whole_of z).end)

-- one that was not found whole
pub faulty : (fault : Fault) → fault_number fault ≡ 0 → ⊥
faulty Cut z = omega (arith, z)
faulty UnknownKind z = omega (arith, z)
faulty WrongLength z = omega (arith, z)
faulty OutOfRange z = omega (arith, z)

pub step-refused : (s : List ℕ) (at : ℕ) (fault : Fault) → unfound (fault_number fault) ≡ found_at s at → (p : Profile)
    → record { number = fault_number fault; next = at; profile = p } ≡ step_answer at p (step (drop at s) p)
step-refused s at fault e p = let k = step-stopped s at (unfound (fault_number fault)) e (faulty fault) p in rw k

-- ---- all records, one after the other

module _ (s : List ℕ) (at : ℕ) (p : Profile) (t : Gone) (e : t ≡ step_answer at p (step (drop at s) p)) where
  -- a step that was taken
  pub record Moved : Type 0 where
    pub len : ℕ
    pub place : t.next ≡ at + (4 + len)
    pub took : step (drop at s) p ≡ next len t.profile

  -- a step that was refused
  pub record Halted : Type 0 where
    pub refused : step (drop at s) p ≡ stop t.number
    pub answer : t ≡ record { number = t.number; next = at; profile = p }

  -- by what the step is
  pub told : (t.number ≡ 0 → Moved) × ((t.number ≡ 0 → ⊥) → Halted)
  told = go (step (drop at s) p) refl e
    where
      go : (x : Stepped) → step (drop at s) p ≡ x → t ≡ step_answer at p x → (t.number ≡ 0 → Moved) × ((t.number ≡ 0 → ⊥) → Halted)
      go (stop n) q e = (
        (λ z. absurd (omega (arith, (stop_range (drop at s) p n q).0, ap (λ (t : Gone). t.number) e))),
        λ h. record { refused = rw e q; answer = rw e },
      )
      go (next len r) q e = ((λ z. record { len = len; place = rw e; took = rw e q }), λ h. absurd (h (rw e)))

  pub further : t.number ≡ 0 → at < t.next
  further z = let m = told.0 z in omega arith

  pub reach_on : t.number ≡ 0 → reached 0 (drop t.next s) t.profile ≡ reached 0 (drop at s) p
  reach_on z =
      let m = told.0 z in
      rw (m.place, ← drop-drop (4 + m.len) at s) (sym (reached-next (drop at s) m.len p t.profile m.took))

  pub inside : t.number ≡ 0 → at ≤ length s → t.next ≤ length s
  inside z h =
      let m = told.0 z in
      omega (arith, step-next (drop at s) p m.len t.profile m.took, length-drop at s)

  pub reach_stop : at < length s → (t.number ≡ 0 → ⊥) → t ≡ reached_answer s (reached 0 (drop at s) p)
  reach_stop h n =
      let c = drop-cons s at 0 h in
      let m = told.1 n in
      let k : length s - length (drop at s) ≡ at = omega (arith, length-drop at s) in
      let r : reached 0 (drop at s) p ≡ record { number = t.number; rest = drop at s; profile = p } =
      rw c (reached_stop (get_or s at 0) (drop (suc at) s) t.number p (rw c at m.refused)) in
      m.answer ∙ rw (r, k)

pub reach_end : (s : List ℕ) (at : ℕ) (p : Profile) → at ≤ length s → length s ≤ at
    → record { number = 0; next = at; profile = p } ≡ reached_answer s (reached 0 (drop at s) p)
reach_end s at p h l =
    rw (drop_of_length-le s l, reached-end 0 p) (ap (λ (n : ℕ). record { number = 0; next = n; profile = p }) (omega arith))

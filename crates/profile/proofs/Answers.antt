-- The three ways in which the writer answers: refused as the check refuses, no room, and written.
-- Assumes nothing.
use mathlib.Core.Path.{◌≡◌, refl}
use mathlib.Core.List.{List}
use Prim.Native.Nat.{ℕ, ◌≤◌, ◌<◌}
use native.Mathlib.Omega.{arith}
use borrow.Author.Tests.{eq-eqb, ne_eqb, le-leb, lt-leb}
use lib.ListN.{length}
use Rattle.profile.specs.Lists.{over}
use Rattle.profile.specs.Values.{accepted, refused, Written}
use Rattle.profile.specs.Rules.{check_profile}
use Rattle.profile.specs.Writing.{write_script, write_answer, write_leaves}
use Rattle.profile.specs.declared.Profile.{Profile}
use Rattle.profile.specs.declared.Verdict.{Verdict}
use Rattle.profile.specs.declared.Ruleset.{Ruleset}

-- the answer r, and l left in the slice, are those that are promised
abbrev pub Right : Ruleset → Profile → List ℕ → Written → List ℕ → Type 0
Right rules p out r l = (r ≡ write_answer rules p (length out)) × (l ≡ write_leaves rules p out)

module _ (rules : Ruleset) (p : Profile) (out : List ℕ) (v : Verdict) (ev : v ≡ check_profile rules p) where
  pub refused-first : (v.number ≡ 0 → ⊥) → Right rules p out (record { verdict = v; length = 0 }) out
  unfolding write_answer write_leaves
  refused-first h = let e = ne_eqb v.number 0 h in rw (← ev, e, e) (refl, refl)

  module _ (h : v.number ≡ 0) (n : ℕ) (en : n ≡ length (write_script p)) where
    pub no_room_lem : length out < n → Right rules p out (record { verdict = refused 18 n; length = 0 }) out
    unfolding write_answer write_leaves
    no_room_lem l =
        let e = eq-eqb v.number 0 h in
        let f = lt-leb (length (write_script p)) (length out) (omega arith) in
        rw (← ev, e, f, en) (refl, refl)

    pub room : n ≤ length out → (last : List ℕ) → last ≡ over (write_script p) out
        → Right rules p out (record { verdict = accepted; length = n }) last
    unfolding write_answer write_leaves
    room l last el =
        let e = eq-eqb v.number 0 h in
        let f = le-leb (length (write_script p)) (length out) (omega arith) in
        rw (← ev, e, f, en) (refl, el)

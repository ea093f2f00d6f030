-- The two passes of compiling: the first is given no room and only counts, the second is made where there is room. What they write is what
-- compiling answers and leaves, and meets what is demanded of it.
-- Assumes nothing.
use Prim.Native.Nat.{ℕ, ◌≤◌, ◌<◌, min}
use native.Mathlib.Omega.{arith}
use mathlib.Core.Path.{◌≡◌, sym, ◌∙◌}
use borrow.Author.Tests.{eqb-true}
use mathlib.Core.List.{List, [], ◌++◌}
use mathlib.Core.Bool.{true, false}
use lib.ListN.{length}
use Rattle.profile.specs.Values.{accepted, refused, accepts}
use Rattle.profile.specs.Geometry.{regions_pixels}
use Rattle.profile.specs.Rules.{check_profile}
use Rattle.profile.specs.declared.Profile.{Profile}
use Rattle.profile.specs.declared.Ruleset.{Ruleset}
use Rattle.profile.proofs.Lines.{regions-pixels}
use Rattle.profile.proofs.Checked.{check_number}
use Rattle.profile.proofs.Accepted.{accepted_ordered}
use Rattle.level.proofs.Words.{field_words-length}
use Rattle.holdlist.specs.Demand.{Compiled}
use Rattle.holdlist.specs.Fills.{Writes}
use Rattle.holdlist.specs.Compile.{room_of, field_runs, Compiles}
use Rattle.holdlist.proofs.Fills.{writes_nowhere, writes_whole}
use Rattle.holdlist.proofs.Demanded.{unheld, Leaves, compile_refused, compile-short, compile-fits, demand_3}

module _ (rules : Ruleset) (p : Profile) (cs ws : List ℕ) where
  compiles : {r : Compiled} {cs' ws' : List ℕ} → Leaves rules p cs ws r cs' ws' → Compiles rules p cs ws r cs' ws'
  compiles c = record { answer = c.0; counts = c.1; words = c.2; demand = λ e. rw (c.0, c.1, c.2) (demand_3 rules p cs ws e) }

  pub passes_refused : accepts (check_profile rules p) ≡ false → Compiles rules p cs ws (unheld (check_profile rules p)) cs ws
  passes_refused e = compiles (compile_refused rules p cs ws e)

  -- k is the room as it is after the first pass
  module _
      (ok : accepts (check_profile rules p) ≡ true) {n k : ℕ} {a b : List ℕ} (one : Writes (field_runs rules p) [] [] n a b)
      (e : k ≡ min (length (a ++ cs)) (length (b ++ ws)))
    where
      room : k ≡ room_of cs ws
      room = let z = writes_nowhere one in e ∙ rw (z.0, z.1)

      pub passes-short : k < n → Compiles rules p cs ws (unheld (refused 18 n)) (a ++ cs) (b ++ ws)
      passes-short h =
          let z = writes_nowhere one in
          rw (one.number, z.0, z.1) (compiles (compile-short rules p cs ws ok (rw (← room, ← one.number) h)))

      pub passes-fit :
          {m : ℕ} {cs' ws' : List ℕ} →
          n ≤ k → Writes (field_runs rules p) (a ++ cs) (b ++ ws) m cs' ws' →
          Compiles rules p cs ws (record { verdict = accepted; steps = m; pixels = regions_pixels p.tables p.field }) cs' ws'
      passes-fit {m} {cs'} {ws'} h two =
          let z = writes_nowhere one in
          let l : length (field_runs rules p) ≤ room_of cs ws = rw (← room, ← one.number) h in
          let d : Writes (field_runs rules p) cs ws m cs' ws' = rw (z.0, z.1) at two in
          let f = writes_whole d (omega arith) (omega arith) in
          let ordered = accepted_ordered rules p (check_number rules p (eqb-true _ _ ok)) in
          let pixels = regions-pixels p.field ordered p.tables ∙ sym (field_words-length rules.version p.tables p.field) in
          rw (d.number, f.0, f.1, pixels) (compiles (compile-fits rules p cs ws ok l))

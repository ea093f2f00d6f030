-- What the verdicts of compile and play name, as those of the crates below do (their proofs/Named.antt): each is the check's, `accepted`, or a refusal of
-- 18 to 20, which names no output and no toggle.
-- Assumes nothing.
use Prim.Native.Nat.{ℕ, ◌-◌}
use native.Mathlib.Omega.{arith}
use mathlib.Core.Path.{refl}
use mathlib.Core.List.{List, [], ◌∷◌}
use mathlib.Core.Bool.{◌&&◌}
use lib.ListN.{length, take}
use lib.Dec.{ltb, leb}
use Rattle.profile.specs.Values.{Names}
use Rattle.profile.specs.declared.Profile.{Profile}
use Rattle.profile.specs.declared.Verdict.{Verdict}
use Rattle.profile.specs.declared.Ruleset.{Ruleset}
use Rattle.profile.proofs.Named.{names_none, names_accepted, tested_names, after_check}
use Rattle.holdlist.specs.Demand.{Compiled}
use Rattle.holdlist.specs.Play.{Played}
use Rattle.holdlist.specs.Compile.{hold_verdict, hold_answer, field_runs, compile_answer}
use Rattle.holdlist.specs.Play.{walk, play_answer}

pub compile_names : (rules : Ruleset) (p : Profile) (room : ℕ) → Names (compile_answer rules p room).verdict
unfolding compile_answer hold_answer hold_verdict
compile_names rules p room =
    after_check (λ (a : Compiled). a.verdict) rules p _ _
    (tested_names (λ (v : Verdict). v) (leb (length (field_runs rules p)) room) _ _ names_accepted (names_none 18 _ (omega arith))) refl

walk_names : (cs ws : List ℕ) (n : ℕ) → Names (walk cs ws n).verdict
unfolding walk
walk_names [] ws n = names_none 19 0 (omega arith)
walk_names (c ∷ cs) [] n = names_none 19 0 (omega arith)
walk_names (c ∷ cs) (w ∷ ws) n = tested_names (λ (a : Played). a.verdict) (ltb n c) _ _ names_accepted (walk_names cs ws (n - c))

pub play_names : (cs ws : List ℕ) (used n : ℕ) → Names (play_answer cs ws used n).verdict
unfolding play_answer
play_names cs ws used n =
    tested_names (λ (a : Played). a.verdict) (leb used (length cs) && leb used (length ws)) _ _
    (walk_names (take used cs) (take used ws) n) (names_none 20 0 (omega arith))

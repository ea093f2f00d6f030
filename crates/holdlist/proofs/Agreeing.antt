-- Both engines give the same: what compiling ensures has one answer and one content of each list, for every profile, refused ones included, and any lent lists.
-- Assumes nothing.
use Prim.Native.Nat.{ℕ}
use mathlib.Core.Path.{◌≡◌, sym, ◌∙◌}
use mathlib.Core.List.{List}
use Rattle.profile.specs.declared.Profile.{Profile}
use Rattle.profile.specs.declared.Ruleset.{Ruleset}
use Rattle.holdlist.specs.Demand.{Compiled}
use Rattle.holdlist.specs.Compile.{Compiles}

pub one_answer :
    {rules : Ruleset} {p : Profile} {cs ws cs₁ ws₁ cs₂ ws₂ : List ℕ} {a b : Compiled} → Compiles rules p cs ws a cs₁ ws₁ → Compiles rules p cs ws b cs₂ ws₂ →
    (a ≡ b) × (cs₁ ≡ cs₂) × (ws₁ ≡ ws₂)
one_answer x y = (x.answer ∙ sym y.answer, x.counts ∙ sym y.counts, x.words ∙ sym y.words)

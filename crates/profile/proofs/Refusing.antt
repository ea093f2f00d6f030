-- What holds of every refusal: its verdict has a number, so it is never that of what is accepted; and `?` hands it on as it is.
-- Assumes nothing.
use mathlib.Core.Path.{◌≡◌, refl, sym, ap, ◌∙◌}
use mathlib.Core.Bool.{true, false}
use Prim.Native.Nat.{◌≤◌}
use native.Mathlib.Omega.{arith}
use borrow.Author.Tests.{ne_eqb}
use Rattle.std.specs.Prelude.{Result, Ok, Err, is_ok, IsErrAnd}
use Rattle.profile.specs.Values.{accepted, accepts}
use Rattle.profile.specs.Refusals.{verdict_of, verdict_in}
use Rattle.profile.specs.declared.Verdict.{Verdict}
use Rattle.profile.specs.declared.refusal.Refusal.{Refusal}

pub no-zero : (r : Refusal) → (verdict_of r).number ≡ 0 → ⊥
no-zero r e = grind arith

pub has_number : (r : Refusal) → 1 ≤ (verdict_of r).number
has_number r = grind (arith, no-zero r)

pub none_accepts : (r : Refusal) → accepts (verdict_of r) ≡ false
none_accepts r = ne_eqb (verdict_of r).number 0 (no-zero r)

-- a verdict that a refusal says, and one that no refusal does
pub refuses : {v : Verdict} (r : Refusal) → verdict_of r ≡ v → accepts v ≡ false
refuses r e = ap accepts (sym e) ∙ none_accepts r

pub passes : {v : Verdict} → accepted ≡ v → accepts v ≡ true
passes e = ap accepts (sym e)

pub ok_accepts : {A : Type 0} (r : Result A Refusal) → is_ok r ≡ accepts (verdict_in r)
ok_accepts (Ok x) = refl
ok_accepts (Err e) = sym (refuses e refl)

-- what the exit of a `?` says is what the call before it said
pub handed_on : {A B : Type 0} (told : Result A Refusal → B) (r : Result A Refusal) (e : Refusal) {b : B}
    → IsErrAnd r (λ d. d ≡ e) → told (Err e) ≡ b → told r ≡ b
handed_on told (Ok x) e h f = absurd h
handed_on told (Err y) e h f = ap (λ d. told (Err d)) h ∙ f

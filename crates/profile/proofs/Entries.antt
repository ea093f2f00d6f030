-- An ordered list of rules: which entry is the first broken one, in parts and chunk by chunk.
-- An entry that answers number 0 would look like none, so the laws that need it ask that each has a number (`Numbered`).
-- Assumes nothing.
use mathlib.Core.Path.{◌≡◌, refl, ap}
use mathlib.Core.Bool.{true, ◌&&◌}
use mathlib.Core.List.{List, [], ◌∷◌, ◌++◌}
use Prim.Native.Nat.{ℕ, zero, suc, ◌≤◌}
use native.Mathlib.Omega.{arith}
use borrow.Author.Tests.{ne_eqb}
use Rattle.profile.specs.Lists.{Each, all, chunks}
use Rattle.profile.specs.Values.{accepted, accepts}
use Rattle.profile.specs.Rules.{Entry, first_broken}
use Rattle.profile.specs.declared.Verdict.{Verdict}
use Rattle.profile.proofs.Laws.{cond-case, by_cases, all_one, all_append, each_chunks}

-- each entry's verdict has a number of refusal
abbrev pub Numbered : List Entry → Type 0
Numbered = Each (λ e. 1 ≤ e.verdict.number)

-- each entry holds
abbrev pub Hold : List Entry → Type 0
Hold = Each (λ e. e.holds ≡ true)

pub entries_hold : (es : List Entry) → Numbered es → first_broken es ≡ accepted → Hold es
unfolding first_broken
entries_hold [] n e = tt
entries_hold (x ∷ es) n e =
    by_cases x.holds
    (λ h. (h, entries_hold es n.1 (rw h at e)))
    (λ h. absurd (omega (arith, n.0, ap (λ (v : Verdict). v.number) (rw h at e))))

pub hold_accepted : (es : List Entry) → Hold es → first_broken es ≡ accepted
unfolding first_broken
hold_accepted [] h = refl
hold_accepted (e ∷ es) h = rw h.0 (hold_accepted es h.1)

-- a number of 0 says that none is broken
pub number_accepted : (es : List Entry) → Numbered es → (first_broken es).number ≡ 0 → first_broken es ≡ accepted
unfolding first_broken
number_accepted [] n e = refl
number_accepted (x ∷ es) n e =
    by_cases x.holds
    (λ h. rw h (number_accepted es n.1 (rw h at e)))
    (λ h. let z = rw h at e in absurd (omega (arith, n.0)))

-- what holds of `accepted` and of each entry's verdict holds of the first broken one's
pub broken_one : (P : Verdict → Type 0) (es : List Entry) → P accepted → Each (λ e. P e.verdict) es → P (first_broken es)
unfolding first_broken
broken_one P [] a w = a
broken_one P (e ∷ es) a w = cond-case P e.holds _ _ (λ h. broken_one P es a w.1) (λ h. w.0)

-- ---- two lists, one after the other

pub fine_then : (a b : List Entry) → Numbered a → first_broken a ≡ accepted → first_broken (a ++ b) ≡ first_broken b
unfolding first_broken
fine_then [] b n e = refl
fine_then (x ∷ a) b n e =
    let h = entries_hold (x ∷ a) n e in
    rw h.0 (fine_then a b n.1 (hold_accepted a h.1))

pub broken_then : (a b : List Entry) → (first_broken a ≡ accepted → ⊥) → first_broken (a ++ b) ≡ first_broken a
unfolding first_broken
broken_then [] b e = absurd (e refl)
broken_then (x ∷ a) b e = by_cases x.holds (λ h. rw h (broken_then a b (rw h at e))) (λ h. rw h)

-- two lists are fine together exactly where each is
both_accept : (a b : List Entry) → Numbered a → accepts (first_broken (a ++ b)) ≡ accepts (first_broken a) && accepts (first_broken b)
unfolding first_broken
both_accept [] b n = refl
both_accept (x ∷ a) b n =
    by_cases x.holds
    (λ h. rw h (both_accept a b n.1))
    (λ h. rw (h, ne_eqb x.verdict.number 0 (omega (arith, n.0))))

-- ---- chunks

pub numbered_chunks : (n : ℕ) (f : ℕ → List Entry) → ((i : ℕ) → Numbered (f i)) → Numbered (chunks n f)
numbered_chunks n f h = each_chunks (λ e. 1 ≤ e.verdict.number) n f (λ i l. h i)

pub chunks_accept : (n : ℕ) (f : ℕ → List Entry) → ((i : ℕ) → Numbered (f i))
    → accepts (first_broken (chunks n f)) ≡ all (chunks n (λ i. accepts (first_broken (f i)) ∷ []))
unfolding first_broken chunks all
chunks_accept zero f h = refl
chunks_accept (suc n) f h =
    rw (both_accept (chunks n f) (f n) (numbered_chunks n f h), chunks_accept n f h, all_append, all_one)

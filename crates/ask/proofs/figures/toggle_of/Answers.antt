-- Among the six rows of a pattern's toggles, number k is the row of output k. Past the sixth output its row stands past the pattern's toggles: the definition
-- reads zeros there.
-- Assumes nothing.
use Prim.Native.Nat.{ℕ, ◌+◌, ◌-◌, ◌≤◌}
use mathlib.Core.Path.{◌≡◌, ap, ◌∙◌}
use mathlib.Core.List.{List, [], ◌∷◌}
use native.Mathlib.Omega.{arith}
use borrow.Author.Rules.{rules}
use borrow.Author.Tests.{ltb-true, ltb-false}
use lib.Dec.{ltb}
use lib.ListN.{length, get_or, get_or-eq_default}
use Rattle.profile.specs.Patterns.{row_start, row_of, rows_of}
use Rattle.profile.specs.Lists.{chunks}
use Rattle.profile.proofs.Laws.{by_cases, get_d_ones}
use Rattle.ask.proofs.figures.toggle_of.Goals as goal

abbrev zeros : List ℕ
zeros = 0 ∷ 0 ∷ 0 ∷ []

past : (l : List ℕ) (k : ℕ) → length l ≤ row_start k → zeros ≡ row_of l k
past l k h =
    rw (
      get_or-eq_default l 0 {n = row_start k} (omega arith),
      get_or-eq_default l 0 {n = row_start k + 1} (omega arith),
      get_or-eq_default l 0 {n = row_start k + 2} (omega arith),
    )

any_row : (l : List ℕ) (k : ℕ) → length l ≤ 18 → get_or (rows_of l) k zeros ≡ row_of l k
unfolding chunks
any_row l k h =
    by_cases (ltb k 6) (λ t. get_d_ones 6 (row_of l) zeros k (ltb-true k 6 t))
    (λ t. let g = ltb-false k 6 t in get_or-eq_default (rows_of l) zeros {n = k} (omega arith) ∙ past l k (omega arith))

found :
    (t : List ℕ) (m n k j : ℕ) → length t ≤ 18 → m ≡ k - 1 → n ≡ j - 1 →
    get_or (get_or (rows_of t) m zeros) n 0 ≡ get_or (row_of t (k - 1)) (j - 1) 0
found t m n k j h e f = rw (e, f) (ap (λ (row : List ℕ). get_or row (j - 1) 0) (any_row t (k - 1) h))

pub returns : goal.returns
returns c = let rows = c.rows_of-rows.result in
    let row : c.unwrap_or-row.result ≡ get_or rows c.from-output.result zeros = search rules in
    let toggle : c.unwrap_or.result ≡ get_or c.unwrap_or-row.result c.from-toggle.result 0 = search rules in
    toggle ∙ rw (row, c.rows_of-rows.ensures) (found c.args.pattern.toggles c.from-output.result c.from-toggle.result c.args.k c.args.j (omega arith) (omega arith) (omega arith))

-- Laws of the tests of a payload, and of the text that is put after them.
-- Assumes nothing.
use Prim.Native.Nat.{ℕ, ◌+◌, ◌*◌, ◌≤◌, ◌<◌}
use mathlib.Core.Path.{◌≡◌}
use mathlib.Core.Bool.{true, false}
use mathlib.Core.List.{List}
use lib.Dec.{eqb}
use borrow.Author.Tests.{le-leb, lt-leb}
use Rattle.holdlist.specs.Text.{Puts}
use Rattle.holdlist.proofs.Puts.{puts_none, puts_more}
use Rattle.cases.specs.Answer.{case_line}
use Rattle.cases.specs.Kinds.{lines_of}
use Rattle.cases.specs.Faults.{lists_end, is_right, answer_text}

-- ---- lists

module _ (n from c w c' w' : ℕ) (ec : c ≡ c') (ew : w ≡ w') where
  pub counts_long : 4096 < c → false ≡ lists_end n from c' w'
  unfolding lists_end
  counts_long h = rw (← ec, lt-leb _ _ h)

  pub words_long : c ≤ 4096 → 4096 < w → false ≡ lists_end n from c' w'
  unfolding lists_end
  words_long h k = rw (← ec, ← ew, le-leb _ _ h, lt-leb _ _ k)

  pub lists_fit : c ≤ 4096 → w ≤ 4096 → eqb n (from + 4 * c + 2 * w) ≡ lists_end n from c' w'
  unfolding lists_end
  lists_fit h k = rw (← ec, ← ew, le-leb _ _ h, le-leb _ _ k)

-- ---- the text

pub puts_wrong : (l : List ℕ) (k kind : ℕ) (b : List ℕ) → is_right kind b ≡ false → Puts (answer_text k kind b) l 0 0 l
unfolding answer_text
puts_wrong l k kind b e = rw e (puts_none l 0)

pub puts_right :
    {l m l' : List ℕ} {at n : ℕ} (k kind : ℕ) (b : List ℕ) →
    is_right kind b ≡ true → Puts (case_line k kind) l 0 at m → Puts (lines_of kind b) m at n l' → Puts (answer_text k kind b) l 0 n l'
unfolding answer_text
puts_right k kind b e p q = rw e (puts_more p q)

-- All numbers of a list are put chunk by chunk; `search putting` finds the parts of a text that are put one after the other.
-- Assumes nothing.
use Prim.Native.Nat.{ℕ}
use mathlib.Core.List.{List}
use mathlib.Core.Bool.{Bool, ◌&&◌}
use lib.Dec.{eqb}
use lib.ListN.{length, get_or}
use Rattle.profile.specs.Lists.{chunks}
use Rattle.holdlist.specs.Text.{Puts}
use Rattle.holdlist.proofs.Puts.{putting as parts}
use Rattle.cases.specs.Answer.{number_text, numbers_text}

pub puts_numbers :
    {l l' : List ℕ} {k n : ℕ} (front : Bool) (ns : List ℕ) → Puts (chunks (length ns) (λ i. number_text (front && eqb i 0) (get_or ns i 0))) l k n l' → Puts (numbers_text front ns) l k n l'
unfolding numbers_text
puts_numbers front ns p = p

pub ruleset putting = (parts, puts_numbers)

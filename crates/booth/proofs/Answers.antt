-- Text that fits its room is put whole, and is then what a script prints.
-- Assumes nothing.
use Prim.Native.Nat.{ℕ, ◌≤◌, ◌<◌}
use native.Mathlib.Omega.{arith}
use mathlib.Core.Path.{◌≡◌, sym}
use mathlib.Core.List.{List}
use lib.ListN.{length, get_or, take}
use Rattle.profile.specs.declared.Ruleset.{Ruleset}
use Rattle.holdlist.specs.Text.{printed, PutsText}
use Rattle.holdlist.specs.Prints.{Prints}
use Rattle.holdlist.proofs.Puts.{puts_whole}
use Rattle.holdlist.proofs.Prints.{printed_exactly}

-- what is printed for a script by the rules, put into room for it
pub printed_whole :
    {rules : Ruleset} {script l l' : List ℕ} {n : ℕ} → ((i : ℕ) → get_or script i 0 < 256) → PutsText rules script l 0 n l' → length l ≡ 65600 →
    (n ≤ 65600) × ((take n l' ≡ printed rules script) × Prints rules script (take n l'))
printed_whole {rules} {script} {l' = l'} {n} s p r =
    let q = puts_whole p.puts (omega (arith, p.short)) in
    (omega (arith, q.0, p.short), (q.1, (printed_exactly rules script (record { at = s }) (take n l')).0 (sym q.1)))

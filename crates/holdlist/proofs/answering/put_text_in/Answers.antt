-- Puts the refusal's line, or what a compile into 4,096 steps tells.
-- Assumes nothing.
use mathlib.Core.Path.{◌≡◌}
use lib.ListN.{length, length-replicate}
use Prim.Native.Nat.{ℕ}
use Rattle.holdlist.proofs.Spelling.{refused-length}
use Rattle.holdlist.proofs.Printed.{printed-refused, printed_told, puts_text}
use borrow.Author.Rules.{rules}
use native.Mathlib.Omega.{arith}
use Rattle.holdlist.proofs.answering.put_text_in.Goals as goal

pub returns-in-Err : goal.returns-in-Err
returns-in-Err c =
    let l = refused-length c.verdict.result (search rules) in
    let v = c.verdict.ensures in
    puts_text c.put_refused_line.ensures (printed-refused _ _ c.in-Err.refusal v c.in-Err.ensures) (omega (arith, l))

pub returns : goal.returns
returns c =
    let e = printed_told _ _ c.in-Ok.profile c.compile_edges_in-compiled.result c.map_err.result c.in-Ok.ensures (omega (arith, length-replicate {A = ℕ} 4096 0)) c.compile_edges_in-compiled.ensures c.map_err.ensures.cases in
    let h : length c.compile_edges_in-compiled.new.counts ≡ 4096 = search rules in
    puts_text c.put_printed.ensures.puts e (omega (arith, c.put_printed.ensures.short, h))

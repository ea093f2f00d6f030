-- A record that is cut is held, and any other was refused.
-- Assumes nothing.
use Rattle.std.proofs.Common.{rules, Some, None}
use mathlib.Core.Path.{◌≡◌, ◌∙◌}
use mathlib.Core.Bool.{true}
use Rattle.profile.specs.Upload.{waits}
use Rattle.profile.specs.Reading.{fault_in}
use Rattle.profile.specs.declared.records.Fault.TheVariants.{Cut}
use Rattle.profile.proofs.Chunks.{stopped_waits}
use Rattle.profile.proofs.upload.stopped.Goals as goal
use Rattle.profile.proofs.upload.stopped.Goals.{in-None-1, in-Some+in-Cut-1}

pub returns-in-None : goal.returns-in-None
returns-in-None c = let k = c.in-None-1.branch in
    let q : waits (fault_in c.args.fault) ≡ true = elim k [
      | in-None-1 w ↦ let e : c.args.fault ≡ None = search rules in rw e
      | in-Some+in-Cut-1 w ↦ let e : c.args.fault ≡ Some Cut = search rules in rw e
    ] in
    c.waiting.ensures ∙ stopped_waits c.args.total c.args.bytes c.args.chunk.now (fault_in c.args.fault) c.args.at q (c.requires.chunk_value q) _ c.fill.ensures

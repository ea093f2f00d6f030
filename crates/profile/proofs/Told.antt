-- What a call's answer says: a refusal's verdict accepts nothing, so what is told of a read is the answer of its verdict.
-- Assumes nothing.
use Rattle.std.proofs.Common.{Err}
use mathlib.Core.Path.{◌≡◌, refl}
use Prim.Native.Nat.{ℕ}
use Rattle.profile.specs.Values.{refused, read_answer}
use Rattle.profile.specs.Refusals.{verdict_of, read_told}
use Rattle.profile.specs.Reading.{fault_number, verdict_at}
use Rattle.profile.specs.Script.{judged}
use Rattle.profile.specs.declared.Profile.{Profile}
use Rattle.profile.specs.declared.Ruleset.{Ruleset}
use Rattle.profile.specs.declared.Verdict.{Verdict}
use Rattle.profile.specs.declared.refusal.Refusal.{Refusal}
use Rattle.profile.proofs.Refusing.{none_accepts}
use Rattle.profile.specs.declared.records.Fault.{Fault}
use Rattle.profile.specs.declared.records.Fault.TheVariants.{Cut, UnknownKind, WrongLength, OutOfRange}

-- the answer of a refusal
pub told_refusal : (r : Refusal) {v : Verdict} (p : Profile) → verdict_of r ≡ v → read_told (Err r) ≡ read_answer v p
told_refusal r p e = rw (← e, none_accepts r)

-- the verdict of a fault's number
pub told_fault : (fault : Fault) (place : ℕ) → refused (fault_number fault) place ≡ verdict_at (fault_number fault) place
told_fault Cut place = refl
told_fault UnknownKind place = refl
told_fault WrongLength place = refl
told_fault OutOfRange place = refl

-- a refused read is not judged
pub told_judged : (rules : Ruleset) (r : Refusal) → judged rules (read_told (Err r)) ≡ read_told (Err r)
told_judged rules r = rw (none_accepts r)

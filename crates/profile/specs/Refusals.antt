-- What each refusal of code says by the rule book's numbers.
-- Assumes nothing.
use Rattle.std.specs.Prelude.{ℕ, Result, Ok, Err}
use Rattle.profile.specs.Values.{accepted, refused, refused_toggle, empty_profile, ReadAnswer, Written}
use Rattle.profile.specs.declared.Profile.{Profile}
use Rattle.profile.specs.declared.Verdict.{Verdict}
use Rattle.profile.specs.declared.refusal.Refusal.{Refusal}
use Rattle.profile.specs.declared.refusal.Refusal.TheVariants.{
  TooLong,
  Cut,
  UnknownKind,
  WrongLength,
  OutOfRange,
  NoField,
  RegionStart,
  NoSequence,
  NoPattern,
  ToggleOrder,
  Mask,
  Counts,
  RunEnd,
  GateLine,
  GatePulse,
  SubckPulse,
  ShutterSpan,
  NoRoom,
  NoPixel,
  NoStep,
}

abbrev pub verdict_of : Refusal → Verdict
verdict_of TooLong = refused 1 0
verdict_of (Cut at) = refused 2 at
verdict_of (UnknownKind at) = refused 3 at
verdict_of (WrongLength at) = refused 4 at
verdict_of (OutOfRange at) = refused 5 at
verdict_of NoField = refused 6 0
verdict_of (RegionStart region) = refused 7 region
verdict_of (NoSequence region) = refused 8 region
verdict_of (NoPattern region) = refused 9 region
verdict_of (ToggleOrder region output toggle) = refused_toggle region output toggle
verdict_of (Mask region) = refused 11 region
verdict_of (Counts region) = refused 12 region
verdict_of (RunEnd region) = refused 13 region
verdict_of GateLine = refused 14 0
verdict_of (GatePulse gate) = refused 15 gate
verdict_of SubckPulse = refused 16 0
verdict_of (ShutterSpan shutter) = refused 17 shutter
verdict_of (NoRoom needed) = refused 18 needed
verdict_of NoPixel = refused 19 0
verdict_of NoStep = refused 20 0

-- the verdict of a call: accepted, or that of its refusal
abbrev pub verdict_in : {A : Type 0} → Result A Refusal → Verdict
verdict_in (Ok _) = accepted
verdict_in (Err refusal) = verdict_of refusal

-- what a read says: the profile, or its refusal's verdict and the empty profile
abbrev pub read_told : Result Profile Refusal → ReadAnswer
read_told (Ok profile) = record { verdict = accepted; profile = profile }
read_told (Err refusal) = record { verdict = verdict_of refusal; profile = empty_profile }

-- what a write says: the length, or its refusal's verdict and 0
abbrev pub write_told : Result ℕ Refusal → Written
write_told (Ok length) = record { verdict = accepted; length = length }
write_told (Err refusal) = record { verdict = verdict_of refusal; length = 0 }

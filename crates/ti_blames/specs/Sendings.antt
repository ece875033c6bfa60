-- Which stretch of a parameter string sends given bytes.
use Rattle.std.specs.Prelude.{◌≡◌, ◌≤◌, ℕ, Bool, List, Ok, All, take}
use Rattle.ti_parm.specs.Meaning.{sent}
use Rattle.ti_parm.specs.Value.{Value}
use Rattle.ti_blames.specs.Prefixes.{closed_front}
use Rattle.ti_blames.specs.Stretches.{IsWithin}
use Rattle.ti_blames.specs.declared.sendings.Cut.{Cut}
use Rattle.ti_blames.specs.declared.stretches.Stretch.{Stretch}

-- the front of a string up to a place sends the first `count` of the bytes that the whole string sends
pub record HasSent (string : List ℕ) (given : List Value) (whole : List ℕ) (place count : ℕ) : Type 0 where
  pub nest : List Bool
  pub sends : sent (closed_front string place nest) given ≡ Ok (take count whole)

-- each of these cuts is at a place of the string, up to which its count of bytes is sent
abbrev pub AreCuts : List ℕ → List Value → List ℕ → List Cut → Type 0
AreCuts string given whole = All (λ cut. HasSent string given whole cut.place cut.count)

-- The stretch sends these of the bytes that the whole string sends: what stands before it sends at most the bytes
-- before them, and all of them are sent where it ends.
pub record IsSending (string : List ℕ) (given : List Value) (whole : List ℕ) (bytes found : Stretch) : Type 0 where
  pub before : ℕ
  pub starts : HasSent string given whole found.from before
  pub late : before ≤ bytes.from
  pub after : ℕ
  pub ends : HasSent string given whole found.to after
  pub all : bytes.to ≤ after
  pub within : IsWithin string found

-- The capabilities that a session on a reported entry goes without.
use Rattle.std.specs.Prelude.{◌≡◌, ◌⊎◌, ℕ, Bool, true, false, List, [], ◌∷◌, String, string_bytes}
use Rattle.std.specs.declared.alloc.Global.{Global}
use Rattle.ti_caps.specs.Entry.{Content}
use Rattle.ti_openings.specs.Openings.{Opens}
use Rattle.ti_reports.specs.Texts.{IsShownAs}
use Rattle.ti_without.specs.Without.{IsClosed}
use denote.Ref.{Bor}

-- the names of what a session on the entry goes without; there are none if there is no session
abbrev pub LeavesOut : Content → ℕ → ℕ → List (List ℕ) → Type 0
LeavesOut entry height width names =
    Opens entry height width names ⊎ (IsClosed entry height width × (names ≡ []))

-- that, where all faults of the entry are reported; none where only the first one is
abbrev pub AreLeftOut : Bool → Content → ℕ → ℕ → List (List ℕ) → Type 0
AreLeftOut true entry height width names = LeavesOut entry height width names
AreLeftOut false entry height width names = names ≡ []

-- a name as a text
abbrev pub IsNameText : Bor (List ℕ) → List (String Global) → Type 0
IsNameText name texts = (text : String Global) × IsShownAs name.now (string_bytes text) × (texts ≡ text ∷ [])

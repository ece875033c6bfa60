-- The text of reports that were kept until all were known.
use Rattle.std.specs.Prelude.{◌≡◌, ℕ, Bool, true, false, List}
use Rattle.ti_printers.specs.Sarif.{IsFileOf}

-- these reports themselves, or the file of SARIF that has them all
abbrev pub IsFormed : Bool → List ℕ → List ℕ → Type 0
IsFormed true reports text = IsFileOf reports text
IsFormed false reports text = text ≡ reports

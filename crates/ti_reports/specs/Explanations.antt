-- The run that shows a fault, in the texts of a report.
use Rattle.std.specs.Prelude.{◌≡◌, ℕ, List, Option, Some, None, String, option_map, string_bytes}
use Rattle.std.specs.declared.alloc.Global.{Global}
use Rattle.hex.specs.Hex.{encode_lower}
use Rattle.ti_reports.specs.Texts.{IsShownAs}
use Rattle.ti_reports.specs.declared.explanations.Explanation.{Explanation}
use Rattle.ti_verdicts.specs.declared.fault_runs.FaultRun.{FaultRun}

-- the text shows these words, if there are any
abbrev pub ShowsIf : Option (List ℕ) → Option (String Global) → Type 0
ShowsIf (Some words) (Some text) = IsShownAs words (string_bytes text)
ShowsIf (Some words) None = ⊥
ShowsIf None text = text ≡ None

-- the text has these bytes in hexadecimal, if there are any
abbrev pub HasDigits : Option (List ℕ) → Option (String Global) → Type 0
HasDigits (Some bytes) (Some text) = string_bytes text ≡ encode_lower bytes
HasDigits (Some bytes) None = ⊥
HasDigits None text = text ≡ None

-- the texts are those of the words about the run
pub record ShowsRun (run : FaultRun) (explanation : Explanation) : Type 0 where
  pub start_is : ShowsIf (option_map (λ words. words.items) run.start) explanation.start
  pub wanted_is : ShowsIf (option_map (λ words. words.items) run.wanted) explanation.wanted
  pub seen_is : ShowsIf (option_map (λ words. words.items) run.seen) explanation.seen

-- A file of SARIF, and its results.
use Rattle.std.specs.Prelude.{◌≡◌, ℕ, List, [], ◌++◌, codes, drop}
use Rattle.ti_printers.specs.Escapes.{printable_json}
use Rattle.ti_reports.specs.declared.reports.Verdict.{Verdict}
use Rattle.ti_reports.specs.declared.reports.Verdict.TheVariants.{Yes, No, Refused, Advice, Hint}

-- a comma, LF, and some JSON in bytes of 32 to 126
abbrev pub IsResult : List ℕ → Type 0
IsResult text = (json : List ℕ) × (text ≡ codes ",\n" ++ printable_json json)

-- a report that all is well has no result, and each other one has one
abbrev pub IsResultIf : Verdict → List ℕ → Type 0
IsResultIf (Yes bound) text = text ≡ []
IsResultIf No text = IsResult text
IsResultIf Refused text = IsResult text
IsResultIf Advice text = IsResult text
IsResultIf (Hint kind) text = IsResult text

-- the file has these results and nothing of them left out but the first comma and LF
abbrev pub IsFileOf : List ℕ → List ℕ → Type 0
IsFileOf results file = (head : List ℕ) × (tail : List ℕ) × (file ≡ head ++ (drop 2 results ++ tail))

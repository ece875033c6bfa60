-- The reports of an earlier run.
use Rattle.std.specs.Prelude.{◌≡◌, ◌&&◌, ℕ, Bool, true, false, List, [], ◌∷◌, Option, Some, None, String, nat_eq}
use Rattle.std.specs.Prelude.{string_bytes}
use Rattle.std.specs.declared.alloc.Global.{Global}
use Rattle.std.specs.List.{list_any}
use Rattle.std.specs.Str.{bytes_eq}
use Rattle.ti_reports.specs.declared.reports.Report.{Report}
use Rattle.ti_reports.specs.declared.reports.Verdict.{Verdict}
use Rattle.ti_reports.specs.declared.reports.Verdict.TheVariants as verdicts
use Rattle.ti_reports.specs.declared.written.Written.{Written}
use Rattle.ti_printers.specs.declared.baselines.Baseline.{Baseline}
use Rattle.ti_printers.specs.declared.baselines.Known.{Known}
use Rattle.ti_printers.specs.declared.baselines.KnownVerdict.{KnownVerdict}
use Rattle.ti_printers.specs.declared.baselines.KnownVerdict.TheVariants as known_verdicts
use Rattle.ti_printers.specs.declared.baselines.Statement.{Statement}
use Rattle.ti_printers.specs.Paths.{is_same_path}

-- two texts are the same, or neither is there
abbrev pub is_same : Option (String Global) → Option (String Global) → Bool
is_same (Some one) (Some other) = bytes_eq (string_bytes one) (string_bytes other)
is_same (Some one) None = false
is_same None (Some other) = false
is_same None None = true

-- the digits are those of the name, or neither is there
abbrev pub is_digits_of : Option (String Global) → Option Written → Bool
is_digits_of (Some digits) (Some name) = bytes_eq (string_bytes digits) (string_bytes name.hex)
is_digits_of (Some digits) None = false
is_digits_of None (Some name) = false
is_digits_of None None = true

-- the object is about the same entry of the same file at the same size
abbrev pub is_about : Known → Report → Bool
is_about known report = nat_eq known.size.rows report.rows && (nat_eq known.size.cols report.cols
    && (is_digits_of known.entry_hex report.entry && is_same_path (string_bytes known.file) (string_bytes report.file)))

-- about the same capability and parameters
abbrev pub has_subject : Known → Report → Bool
has_subject known report = is_same known.capability report.finding.capability
    && bytes_eq known.parameters.items report.finding.parameters.items

abbrev pub is_first_line : List (String Global) → List (String Global) → Bool
is_first_line [] [] = true
is_first_line (one ∷ more) [] = false
is_first_line [] (other ∷ others) = false
is_first_line (one ∷ more) (other ∷ others) = bytes_eq (string_bytes one) (string_bytes other)

-- in the same words
abbrev pub is_worded : Known → Report → Bool
is_worded known report = is_first_line known.explanation.items report.finding.explanation.items

-- It states the same: a fault with its cause, a refusal with its reason, advice and hints in the same words.
abbrev pub states_by : KnownVerdict → Verdict → Known → Report → Bool
states_by known_verdicts.Yes (verdicts.Yes bound) known report = true
states_by known_verdicts.No verdicts.No known report = is_same known.cause report.cause && has_subject known report
states_by known_verdicts.Refused verdicts.Refused known report = is_same known.cause report.cause
states_by known_verdicts.Advice verdicts.Advice known report = has_subject known report && is_worded known report
states_by known_verdicts.Hint (verdicts.Hint kind) known report = is_worded known report
states_by _ _ known report = false

abbrev pub states : Known → Report → Bool
states known report = states_by known.verdict report.verdict known report

abbrev pub says : Known → Report → Bool
says known report = is_about known report && states known report

-- an object of the earlier run says what the report says
abbrev pub knows : Baseline → Report → Bool
knows baseline report = list_any (λ (statement : Statement). says statement.known report) baseline.statements.items

-- nothing of a report that is known, and else what the form prints of it
abbrev pub PrintsNews : Bool → (List ℕ → Type 0) → List ℕ → Type 0
PrintsNews true Prints text = text ≡ []
PrintsNews false Prints text = Prints text

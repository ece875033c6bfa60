-- Reports, from what they are made of.
use Rattle.std.proofs.Common.{ℕ, List, [], ◌∷◌, Result, Ok, Err, IfOk, subst, sym}
use Rattle.std.specs.List.{AllByRecursion}
use Rattle.std.specs.Prelude.{None, Option, Some, String}
use Rattle.std.specs.declared.alloc.Global.{Global}
use Rattle.ti_checker.specs.declared.causes.No.{No}
use Rattle.ti_faults.specs.declared.mended.Mended.{Mended}
use Rattle.ti_hints.specs.Places.{IsHintOf}
use Rattle.ti_hints.specs.declared.hints.FieldHint.{FieldHint}
use Rattle.ti_openings.specs.Openings.{IsBound}
use Rattle.ti_openings.specs.declared.bounds.Bound.{Bound}
use Rattle.ti_reports.specs.Faults.{Finds, HasWords, IsCapIf, IsReportOn, ReportsAdvice, ReportsFault, ReportsHint, ReportsYes, of_subject}
use Rattle.ti_reports.specs.Hints.{HintText, IsHintPlace}
use Rattle.ti_reports.specs.Reports.{IsNothing, SaysWords}
use Rattle.ti_reports.specs.Sources.{IsNowhere}
use Rattle.ti_reports.specs.declared.faults.Subject.{Subject}
use Rattle.ti_reports.specs.declared.reports.Finding.{Finding}
use Rattle.ti_reports.specs.declared.reports.Report.{Report}
use Rattle.ti_reports.specs.declared.reports.Verdict.TheVariants as verdicts
use Rattle.ti_source.specs.Layout.{lines_of}
use Rattle.ti_verdicts.specs.Refusals.{cause_name}
use denote.Ref.{Bor}

-- what holds of each report, where something follows of it
pub all_weaker : (P Q : Report → Type 0) (reports : List Report) → ((report : Report) → P report → Q report) → AllByRecursion P reports → AllByRecursion Q reports
all_weaker P Q [] so h = tt
all_weaker P Q (report ∷ reports) so h = (so report h.0, all_weaker P Q reports so h.1)

-- the report of a hint, from what it is made of
pub hint_reported : (subject : Subject) (text : HintText) (place : ℕ) (hint : FieldHint) (finding : Finding) (report : Report) → IsHintOf (lines_of text.text) text.raws place hint → IsHintPlace text hint finding.place → IsCapIf hint.cap finding.capability → SaysWords finding
    → IsReportOn subject (verdicts.Hint hint.kind) None finding report → ReportsHint subject.entry.now subject.size.rows subject.size.cols subject.file.now text place report
hint_reported subject text place hint finding report found stands capability says on = record {
  about = on.about;
  hint = hint;
  found = found;
  verdict = on.verdict_is;
  cause = on.cause_is;
  stands = subst (λ (f : Finding). IsHintPlace text hint f.place) (sym on.finding_is) stands;
  capability = subst (λ (f : Finding). IsCapIf hint.cap f.capability) (sym on.finding_is) capability;
  hints = subst SaysWords (sym on.finding_is) says;
}

-- and that of advice
pub advice_reported : (subject : Subject) (finding : Finding) (report : Report) → IsNowhere finding.place → SaysWords finding → IsReportOn subject verdicts.Advice None finding report
    → ReportsAdvice subject.entry.now subject.size.rows subject.size.cols subject.file.now report
advice_reported subject finding report nowhere says on = record {
  about = on.about;
  verdict = on.verdict_is;
  cause = on.cause_is;
  nowhere = subst (λ (f : Finding). IsNowhere f.place) (sym on.finding_is) nowhere;
  advises = subst SaysWords (sym on.finding_is) says;
}

-- and that of a certificate
pub yes_reported : (subject : Subject) (bound : Bound) (finding : Finding) (report : Report) → IsBound subject.entry.now subject.size.rows subject.size.cols bound → IsNothing finding → IsReportOn subject (verdicts.Yes bound) None finding report
    → ReportsYes subject.entry.now subject.size.rows subject.size.cols subject.file.now report
yes_reported subject bound finding report is_bound nothing on = record {
  about = on.about;
  bound = bound;
  is_bound = is_bound;
  verdict = on.verdict_is;
  cause = on.cause_is;
  faultless = subst IsNothing (sym on.finding_is) nothing;
}

-- and that of a fault
pub fault_reported : (subject : Subject) (nos : List No) (mended : Option Mended) (left_out : List (Bor (List ℕ))) (refusal : No) (cause : String Global) (finding : Finding) (report : Report) → HasWords (cause_name refusal.cause) (Some cause)
    → Finds (of_subject subject nos mended left_out) refusal finding → IsReportOn subject verdicts.No (Some cause) finding report → ReportsFault (of_subject subject nos mended left_out) subject.file.now refusal report
fault_reported subject nos mended left_out refusal cause finding report named finds on = record {
  about = on.about;
  verdict = on.verdict_is;
  cause = subst (HasWords (cause_name refusal.cause)) (sym on.cause_is) named;
  finds = subst (Finds (of_subject subject nos mended left_out) refusal) (sym on.finding_is) finds;
}

-- what follows of a report, if there is one
pub as_reported : {E : Type 0} {P : Report → Type 0} (Q : Report → Type 0) (r : Result Report E) → IfOk r P → ((report : Report) → P report → Q report) → IfOk r Q
as_reported Q (Ok report) is so = so report is
as_reported Q (Err fault) is so = tt

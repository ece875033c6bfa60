-- The statements of a report about an entry.
use Rattle.std.specs.Prelude.{◌≡◌, Bool, true, false, [], None}
use Rattle.ti_reports.specs.declared.reports.Finding.{Finding}
use Rattle.ti_reports.specs.declared.reports.Verdict.{Verdict}
use Rattle.ti_reports.specs.declared.reports.Verdict.TheVariants.{Yes, No, Refused, Advice, Hint}

-- whether a verdict is that something is wrong
abbrev pub is_wrong : Verdict → Bool
is_wrong (Yes bound) = false
is_wrong No = true
is_wrong Refused = true
is_wrong Advice = false
is_wrong (Hint kind) = false

-- nothing is said but a capability, a place and words
pub record SaysWords (finding : Finding) : Type 0 where
  pub parameters : finding.parameters.items ≡ []
  pub bytes : finding.bytes ≡ None
  pub faulty_region : finding.faulty_region ≡ None
  pub string_is : finding.string ≡ None
  pub suggestion : finding.suggestion ≡ None
  pub suggested_with : finding.suggested_with.items ≡ []
  pub start : finding.run.start ≡ None
  pub wanted : finding.run.wanted ≡ None
  pub seen : finding.run.seen ≡ None
  pub judged : finding.judged ≡ None
  pub grade : finding.grade ≡ None
  pub another_kind : finding.another_kind ≡ None
  pub left_out : finding.left_out.items ≡ []

-- nothing is said of a fault, but perhaps where something is
pub record IsBare (finding : Finding) : Type 0 where
  pub capability : finding.capability ≡ None
  pub silent : SaysWords finding
  pub explanation : finding.explanation.items ≡ []

-- nothing is said of a fault
pub record IsNothing (finding : Finding) : Type 0 where
  pub bare : IsBare finding
  pub line : finding.place.line ≡ None
  pub region : finding.place.region ≡ None
  pub source_entry : finding.place.entry ≡ None
  pub source_file : finding.place.file ≡ None
